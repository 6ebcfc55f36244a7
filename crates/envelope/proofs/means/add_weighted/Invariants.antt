-- `add_weighted`: the sums passed have their product, the others are as they were.
use Prim.Native.Nat.{◌-◌, ◌≤◌}
use Rattle.envelope.proofs.Along.{Adding}
use Rattle.envelope.proofs.means.add_weighted.Given as goal

abbrev pub invariant-loop-i : goal.invariant-loop-i
invariant-loop-i l = (l.i ≤ 16) × Adding l.w l.line l.at l.initial.sums l.i l.sums

abbrev pub decreases-loop-i : goal.decreases-loop-i
decreases-loop-i l = 16 - l.i
