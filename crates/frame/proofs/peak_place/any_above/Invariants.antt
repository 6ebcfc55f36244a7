-- `any_above`: what was found so far, or the rest finds.
use Rattle.frame.specs.Passes.{any_above}
use lib.ListN.{drop}
use mathlib.Core.Bool.{◌||◌}
use mathlib.Core.Path.{◌≡◌}
use Rattle.frame.proofs.peak_place.any_above.Given as goal

abbrev pub invariant-loop-p : goal.invariant-loop-p
invariant-loop-p l = l.found || any_above l.top (drop l.p-index l.peaks) ≡ any_above l.top l.peaks
