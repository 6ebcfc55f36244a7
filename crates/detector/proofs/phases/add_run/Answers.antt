-- `add_run`: at each turn the sums go on with the samples that are left.
use mathlib.Core.Path.{◌∙◌}
use Prim.Native.Nat.{◌+◌, ◌*◌, ◌-◌}
use borrow.Author.Rules.{rules}
use lib.ListN.{length, get_or, take, drop}
use lib.Ieee.{nan}
use Rattle.detector.specs.Sums.{factor, up_to}
use Rattle.detector.proofs.Sums.{sums_more, sums_none}
use Rattle.detector.proofs.Line.{part_up_to, sample_up_to}
use Rattle.detector.proofs.phases.add_run.Goals as goal

pub loop-k-preserved : goal.loop-k-preserved
loop-k-preserved c =
    let a = c.args in
    let r = a.run.now in
    let k = c.loop-k.k in
    let inside = c.requires.i_in_bounds in
    let n = part_up_to r a.i inside a.m c.requires.m_bound in
    sums_more a.table.now c.loop-k.sums c.add_products.new.sums (take a.m (up_to r a.i)) (4 * k + length a.sums.now - 4 * k) k k (get_or r (a.i - k) nan) nan (search rules) (search (rules, n))
    (sample_up_to r a.i inside a.m k nan (search rules) c.requires.m_bound) c.add_products.ensures
    ∙ c.loop-k.invariant

pub returns : goal.returns
returns c =
    let a = c.args in
    let n = part_up_to a.run.now a.i c.requires.i_in_bounds a.m c.requires.m_bound in
    sums_none (drop (factor * c.loop-k.k) a.table.now) c.loop-k.sums (take a.m (up_to a.run.now a.i)) c.loop-k.k (search (rules, n)) ∙ c.loop-k.invariant
