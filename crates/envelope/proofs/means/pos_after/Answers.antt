-- `pos_after`: so many places from the start, less a whole round at each turn.
use mathlib.Core.Path.{◌∙◌}
use native.Mathlib.Omega.{arith}
use Rattle.envelope.proofs.Position.{after_start, after_less, after_end}
use Rattle.envelope.proofs.means.pos_after.Goals as goal

pub overflow_add-p : goal.overflow_add-p
overflow_add-p c = omega arith

pub loop-p-init : goal.loop-p-init
loop-p-init c = (omega arith, after_start c.args.l c.args.pos c.args.n c.requires.pos_lt_l)

pub loop-p-smaller : goal.loop-p-smaller
loop-p-smaller c = omega arith

pub loop-p-preserved : goal.loop-p-preserved
loop-p-preserved c =
    let a = c.args in
    (omega arith, after_less a.l c.loop-p.p (omega arith) c.loop-p-test.true ∙ c.loop-p.invariant.1)

pub returns : goal.returns
returns c = after_end c.args.l c.loop-p.p (omega arith) ∙ c.loop-p.invariant.1
