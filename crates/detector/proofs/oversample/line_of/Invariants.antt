-- `line_of`: at each turn the line agrees with the sanitized samples on those passed.
use mathlib.Core.Path.{◌≡◌}
use mathlib.Core.List.{map}
use lib.ListN.{length, take}
use Rattle.arithmetic.specs.Sanitize.{finite_or_zero}
use Rattle.detector.proofs.oversample.line_of.Given as goal

abbrev pub invariant-loop-i : goal.invariant-loop-i
invariant-loop-i l = (length l.line ≡ 32) × (take l.i l.line ≡ take l.i (map finite_or_zero l.samples))
