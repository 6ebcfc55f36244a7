-- `add_across`: the run, the store behind it, and the last three.
use borrow.Author.Rules.{rules}
use Rattle.detector.proofs.Fours.{across}
use Rattle.detector.proofs.phases.add_across.Goals as goal

pub returns : goal.returns
returns c =
    let l = c.add_last in
    let b = c.add_store in
    let r = c.add_run in
    let a = c.args in
    across a.table.now (search rules) a.run.now a.at c.requires.at_in_bounds a.store.now a.sums.now r.new.sums b.new.sums l.new.sums (search rules) c.requires.at_bound r.ensures b.ensures l.ensures
