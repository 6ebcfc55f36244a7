-- `tally_of`: the count so far is the tally of the floors passed.
use mathlib.Core.Path.{◌≡◌}
use Prim.Native.Nat.{◌+◌, ◌≤◌}
use lib.ListN.{drop}
use Rattle.envelope.specs.Row.{tally_of}
use Rattle.envelope.proofs.row.tally_of.Given as goal

abbrev pub invariant-loop-floor : goal.invariant-loop-floor
invariant-loop-floor l = (l.n ≤ l.floor-index) × (l.n + tally_of (drop l.floor-index l.row) ≡ tally_of l.row)
