-- `lay_newest`: at each turn the samples passed stand in the first places.
use mathlib.Core.Path.{◌≡◌}
use mathlib.Core.List.{map, reverse}
use Rattle.arithmetic.specs.Sanitize.{finite_or_zero}
use Rattle.detector.proofs.Turns.{joined}
use Rattle.detector.proofs.oversample.lay_newest.Given as goal

abbrev pub invariant-loop-i : goal.invariant-loop-i
invariant-loop-i l = l.store ≡ joined (reverse (map finite_or_zero l.samples)) l.initial.store l.i
