-- `add_weighted`: the sums passed have their product, the others are as they were.
use native.Mathlib.Omega.{arith}
use borrow.Author.Rules.{rules}
use Rattle.envelope.proofs.Along.{adding_none, adding_more, adding_all}
use Rattle.envelope.proofs.means.add_weighted.Goals as goal

pub loop-i-init : goal.loop-i-init
loop-i-init c = (search rules, adding_none c.args.w c.args.line.now c.args.at c.args.sums.now c.requires.sums_len)

pub loop-i-preserved : goal.loop-i-preserved
loop-i-preserved c =
    let a = c.args in
    (search rules, adding_more a.w a.line.now a.at a.sums.now c.loop-i.i c.loop-i.sums (omega arith) c.loop-i.invariant.1)

pub returns : goal.returns
returns c =
    let a = c.args in
    adding_all a.w a.line.now a.at a.sums.now c.loop-i.i c.loop-i.sums (omega arith) c.loop-i.invariant.1
