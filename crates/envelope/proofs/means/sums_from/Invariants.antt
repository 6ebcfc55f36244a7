-- `sums_from`: what is still to be summed, added to the sums so far, stays the whole.
use Prim.Native.Nat.{◌-◌, ◌≤◌}
use lib.ListN.{length}
use Rattle.envelope.proofs.Along.{Summing}
use Rattle.envelope.proofs.means.sums_from.Given as goal

abbrev pub invariant-loop-j : goal.invariant-loop-j
invariant-loop-j l = (l.j ≤ length l.weights) × Summing l.weights l.line l.first l.j l.sums

abbrev pub decreases-loop-j : goal.decreases-loop-j
decreases-loop-j l = length l.weights - l.j
