-- `sums_of_four`: the samples that only the answers ahead read, and the twelve that the first one reads.
use mathlib.Core.Path.{refl, ◌∙◌}
use borrow.Author.Rules.{rules}
use lib.Ieee.{of_bits}
use Rattle.detector.proofs.Fours.{fours}
use Rattle.detector.proofs.phases.sums_of_four.Goals as goal

pub add_first-requires : goal.add_first-requires
unfolding of_bits
add_first-requires c = record {
  sums_zero = refl;
  at_in_bounds = c.requires.at_in_bounds;
}

pub returns-then-at-lt9 : goal.returns-then-at-lt9
returns-then-at-lt9 c =
    let x = c.add_across in
    let f = c.add_first in
    let a = c.args in
    x.ensures ∙ rw f.ensures (fours a.table.now a.store.now a.run.now a.at (search rules) c.requires.at_in_bounds)

pub returns : goal.returns
returns c =
    let x = c.add_within in
    let f = c.add_first in
    let a = c.args in
    x.ensures a.store.now ∙ rw f.ensures (fours a.table.now a.store.now a.run.now a.at (search rules) c.requires.at_in_bounds)
