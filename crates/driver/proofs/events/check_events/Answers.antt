-- `check_events`: what the events from index on answer, all answer.
use mathlib.Core.Path.{sym, ◌∙◌}
use Prim.Native.Nat.{◌/◌}
use native.Mathlib.Omega.{arith}
use lib.ListN.{length}
use Rattle.turns.proofs.Latching.{check_here, check_more, check_end}
use Rattle.driver.proofs.events.check_events.Goals as goal

pub returns-then-is_misplaced : goal.returns-then-is_misplaced
returns-then-is_misplaced c =
    let l = c.loop-index in
    let a = c.args in
    check_here a.events.now (length a.events.now / 3) l.index a.frames l.before c.loop-index-test.true (sym c.is_misplaced.ensures ∙ c.if-is_misplaced.true) ∙ l.invariant

pub loop-index-preserved : goal.loop-index-preserved
loop-index-preserved c =
    let l = c.loop-index in
    let a = c.args in
    check_more a.events.now (length a.events.now / 3) l.index a.frames l.before c.loop-index-test.true (sym c.is_misplaced.ensures ∙ c.if-is_misplaced.false) ∙ l.invariant

pub returns : goal.returns
returns c =
    let l = c.loop-index in
    let a = c.args in
    check_end a.events.now (length a.events.now / 3) l.index a.frames l.before (omega arith) ∙ l.invariant
