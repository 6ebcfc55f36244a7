-- `add_store`: at each turn the sums go on with the samples that are left.
use mathlib.Core.Path.{◌≡◌}
use Prim.Native.Nat.{◌*◌, ◌-◌}
use lib.ListN.{take, drop}
use Rattle.detector.specs.Sums.{factor, sums_on}
use Rattle.detector.proofs.phases.add_store.Given as goal

abbrev pub invariant-loop-k : goal.invariant-loop-k
invariant-loop-k l =
    sums_on (drop (factor * l.k) l.table) l.sums (drop (l.k - l.m) (take (l.end - l.m) l.store)) ≡ sums_on (drop (factor * l.m) l.table) l.initial.sums (take (l.end - l.m) l.store)
