-- `add_within`: nine samples of the run, and the last three.
use borrow.Author.Rules.{rules}
use Rattle.detector.proofs.Fours.{within}
use Rattle.detector.proofs.phases.add_within.Goals as goal

pub returns : goal.returns
returns c =
    let l = c.add_last in
    let r = c.add_run in
    let a = c.args in
    λ behind. within a.table.now (search rules) a.run.now a.at c.requires.at_in_bounds a.sums.now r.new.sums l.new.sums behind c.requires.remembered_bound r.ensures l.ensures
