-- `add_store`: at each turn the sums go on with the samples that are left.
use mathlib.Core.Path.{◌∙◌}
use Prim.Native.Nat.{◌+◌, ◌*◌, ◌-◌}
use native.Mathlib.Nat.{sub_self}
use borrow.Author.Rules.{rules}
use lib.ListN.{length, take, drop}
use lib.Ieee.{nan}
use Rattle.detector.specs.Sums.{factor}
use Rattle.detector.proofs.Sums.{sums_none}
use Rattle.detector.proofs.Line.{part_length, store_more}
use Rattle.detector.proofs.phases.add_store.Goals as goal

pub loop-k-init : goal.loop-k-init
loop-k-init c = rw (sub_self c.args.m)

pub loop-k-preserved : goal.loop-k-preserved
loop-k-preserved c =
    let a = c.args in
    store_more a.store.now a.m a.end (search rules) a.table.now c.loop-k.sums c.add_products.new.sums (4 * c.loop-k.k + length a.sums.now - 4 * c.loop-k.k) c.loop-k.k nan (search rules) (search rules) (search rules) c.add_products.ensures ∙ c.loop-k.invariant

pub returns : goal.returns
returns c =
    let a = c.args in
    let n = part_length a.store.now a.m a.end (search rules) in
    sums_none (drop (factor * c.loop-k.k) a.table.now) c.loop-k.sums (take (a.end - a.m) a.store.now) (c.loop-k.k - a.m) (search (rules, n)) ∙ c.loop-k.invariant
