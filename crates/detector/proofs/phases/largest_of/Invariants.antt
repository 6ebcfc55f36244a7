-- `largest_of`: the largest of the peak so far and the sums that are left stays that of them all.
use mathlib.Core.Path.{◌≡◌}
use mathlib.Core.Bool.{false}
use lib.ListN.{drop}
use lib.Ieee.{lt}
use Rattle.arithmetic.specs.Number.{zero}
use Rattle.detector.specs.Oversample.{largest_from, largest_of}
use Rattle.detector.proofs.phases.largest_of.Given as goal

abbrev pub invariant-loop-s : goal.invariant-loop-s
invariant-loop-s l = (lt l.peak zero ≡ false) × (largest_from l.peak (drop l.s-index l.sums) ≡ largest_of l.sums)
