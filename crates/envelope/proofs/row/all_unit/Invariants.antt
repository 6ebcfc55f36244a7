-- `all_unit`: the answer so far and the answer on the rest are the answer on the whole.
use mathlib.Core.Path.{◌≡◌}
use mathlib.Core.Bool.{◌&&◌}
use lib.ListN.{drop}
use Rattle.envelope.specs.Row.{all_unit}
use Rattle.envelope.proofs.row.all_unit.Given as goal

abbrev pub invariant-loop-floor : goal.invariant-loop-floor
invariant-loop-floor l = l.ok && all_unit (drop l.floor-index l.row) ≡ all_unit l.row
