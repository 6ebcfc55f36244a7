-- `add_first`: the sums of the three answers ahead, one after the other.
use Rattle.detector.proofs.Fours.{laid_first}
use Rattle.detector.proofs.phases.add_first.Goals as goal

pub returns : goal.returns
returns c =
    let r3 = c.add_run-3 in
    let r2 = c.add_run-2 in
    let r1 = c.add_run in
    let a = c.args in
    laid_first a.table.now a.run.now a.sums.now r1.new.sums r2.new.sums r3.new.sums a.at c.requires.sums_zero r1.ensures r2.ensures r3.ensures
