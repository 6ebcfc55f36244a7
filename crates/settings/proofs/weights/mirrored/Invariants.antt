-- `mirrored`: each pair passed so far is near.
use Rattle.settings.proofs.WeightPairs.{Before, near_at}
use Rattle.settings.proofs.weights.mirrored.Given as goal

abbrev pub invariant-loop-i : goal.invariant-loop-i
invariant-loop-i l = Before (near_at l.weights) l.i
