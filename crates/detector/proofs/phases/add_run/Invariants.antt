-- `add_run`: at each turn the sums go on with the samples that are left.
use mathlib.Core.Path.{◌≡◌}
use Prim.Native.Nat.{◌*◌}
use lib.ListN.{take, drop}
use Rattle.detector.specs.Sums.{factor, sums_on, up_to}
use Rattle.detector.proofs.phases.add_run.Given as goal

abbrev pub invariant-loop-k : goal.invariant-loop-k
invariant-loop-k l =
    sums_on (drop (factor * l.k) l.table) l.sums (drop l.k (take l.m (up_to l.run l.i))) ≡ sums_on l.table l.initial.sums (take l.m (up_to l.run l.i))
