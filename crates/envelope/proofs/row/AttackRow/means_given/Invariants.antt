-- `means_given`: the means passed, and what the rest comes to, for the weights that gave the sums.
use mathlib.Core.Path.{◌≡◌}
use mathlib.Core.Bool.{true}
use mathlib.Core.List.{List}
use Prim.Native.Nat.{◌-◌, ◌≤◌}
use lib.ListN.{length, take, drop}
use lib.Ieee.{Float}
use Rattle.envelope.specs.Row.{rowed_at, all_unit, row_in_order}
use Rattle.envelope.specs.Run.{means_of, sums_of}
use Rattle.envelope.proofs.RunMeans.{means_from}
use Rattle.envelope.proofs.row.AttackRow.means_given.Given as goal

abbrev pub invariant-loop-i : goal.invariant-loop-i
invariant-loop-i l =
    (l.i ≤ l.n) × (length l.floors ≡ l.n) × (row_in_order l.a l.row ≡ true) × (all_unit (drop l.i l.floors) ≡ true) × (length l.row ≡ length l.initial.row)
    × ((weights : List Float) → take l.n l.sums ≡ sums_of weights (rowed_at l.initial.a l.initial.row) l.initial.floors
    → (take (l.n - l.i) (drop l.i l.sums) ≡ sums_of weights (rowed_at l.a l.row) (drop l.i l.floors)) × (means_from weights (rowed_at l.a l.row) l.i l.floors ≡ means_of weights (rowed_at l.initial.a l.initial.row) l.initial.floors))

abbrev pub decreases-loop-i : goal.decreases-loop-i
decreases-loop-i l = l.n - l.i
