-- `sums_of_one`: the run from place i back, and the store behind it.
use Rattle.detector.proofs.Fours.{one_across, one_within}
use lib.Ieee.{of_bits}
use Rattle.detector.proofs.phases.sums_of_one.Goals as goal

pub returns-then-i-lt12 : goal.returns-then-i-lt12
unfolding of_bits
returns-then-i-lt12 c =
    let a = c.args in
    let b = c.add_store in
    let f = c.add_run in
    one_across a.table.now a.store.now a.run.now f.new.sums a.i c.requires.i_in_bounds b.new.sums c.if-i-lt12.true f.ensures b.ensures

pub returns : goal.returns
unfolding of_bits
returns c =
    let a = c.args in
    let f = c.add_run-2 in
    one_within a.table.now a.store.now a.run.now f.new.sums a.i c.requires.i_in_bounds c.if-i-lt12.false f.ensures
