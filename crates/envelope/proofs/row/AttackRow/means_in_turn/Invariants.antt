-- `means_in_turn`: the means passed, and what the rest comes to.
use mathlib.Core.Path.{◌≡◌}
use mathlib.Core.Bool.{true}
use lib.ListN.{length, drop}
use Rattle.envelope.specs.Row.{rowed_at, all_unit, row_in_order}
use Rattle.envelope.specs.Run.{means_of}
use Rattle.envelope.proofs.RunMeans.{means_from}
use Rattle.envelope.proofs.row.AttackRow.means_in_turn.Given as goal

abbrev pub invariant-loop-floor : goal.invariant-loop-floor
invariant-loop-floor l =
    (row_in_order l.a l.row ≡ true) × (all_unit (drop l.floor-index l.floors) ≡ true) × (length l.row ≡ length l.initial.row)
    × (means_from l.weights (rowed_at l.a l.row) l.floor-index l.floors ≡ means_of l.weights (rowed_at l.initial.a l.initial.row) l.initial.floors)
