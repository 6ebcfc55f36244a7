-- `add_products`: the sums passed have their product, the others are as they were.
use mathlib.Core.Path.{◌≡◌}
use Rattle.detector.specs.Sums.{added}
use Rattle.detector.proofs.Turns.{joined}
use Rattle.detector.proofs.phases.add_products.Given as goal

abbrev pub invariant-loop-p : goal.invariant-loop-p
invariant-loop-p l = l.sums ≡ joined (added l.initial.sums l.taps l.d) l.initial.sums l.p
