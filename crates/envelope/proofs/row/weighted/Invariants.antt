-- `weighted`: the sum so far, with the products that are left, is the whole sum.
use mathlib.Core.Path.{◌≡◌}
use Prim.Native.Nat.{◌-◌}
use lib.ListN.{length, drop}
use Rattle.envelope.specs.Row.{down}
use Rattle.envelope.specs.Mean.{weighted_from}
use Rattle.envelope.proofs.row.weighted.Given as goal

abbrev pub invariant-loop-i : goal.invariant-loop-i
invariant-loop-i l =
    weighted_from l.sum (drop l.i l.weights) (down l.floors 0 (length l.floors - l.i)) ≡ weighted_from l.acc l.weights (down l.floors 0 (length l.floors))
