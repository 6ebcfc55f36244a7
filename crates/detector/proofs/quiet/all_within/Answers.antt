-- `all_within`: the answer so far and the answer on the rest are the answer on the whole.
use borrow.Author.Rules.{rules}
use Rattle.detector.proofs.Scan.{within_more, within_all}
use Rattle.detector.proofs.quiet.all_within.Goals as goal

pub loop-x-preserved : goal.loop-x-preserved
loop-x-preserved c =
    let a = c.args in
    within_more a.m a.samples.now c.loop-x.x-index (search rules) c.loop-x.ok c.lies-ok.result c.loop-x.invariant c.lies-ok.ensures

pub returns : goal.returns
returns c =
    let a = c.args in
    within_all a.m a.samples.now c.loop-x.x-index (search rules) c.loop-x.ok c.loop-x.invariant
