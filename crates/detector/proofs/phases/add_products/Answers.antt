-- `add_products`: the sums passed have their product, the others are as they were.
use borrow.Author.Rules.{rules}
use lib.Ieee.{nan}
use Rattle.detector.proofs.Sums.{added_more, added_all}
use Rattle.detector.proofs.phases.add_products.Goals as goal

pub loop-p-preserved : goal.loop-p-preserved
loop-p-preserved c =
    let a = c.args in
    added_more a.sums.now a.taps.now a.d c.requires c.loop-p.sums c.loop-p.p nan (search rules) c.loop-p.invariant

pub returns : goal.returns
returns c =
    let a = c.args in
    added_all a.sums.now a.taps.now a.d c.requires c.loop-p.sums c.loop-p.p (search rules) c.loop-p.invariant
