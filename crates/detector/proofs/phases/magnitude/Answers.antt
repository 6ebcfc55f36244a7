-- `magnitude`: the pattern without its sign, or 0.0.
use mathlib.Core.Path.{refl}
use lib.Ieee.{of_bits}
use Rattle.detector.proofs.Pattern.{is_number, by_pattern, pattern_is_number}
use Rattle.detector.proofs.phases.magnitude.Goals as goal

pub float_to_bits-m : goal.float_to_bits-m
float_to_bits-m c = is_number c.args.sum c.if-sum.true

pub float_from_bits-m : goal.float_from_bits-m
float_from_bits-m c = pattern_is_number c.args.sum c.well_formed.0.1 c.if-sum.true

pub returns-then-sum : goal.returns-then-sum
returns-then-sum c = rw c.if-sum.true (by_pattern c.args.sum c.well_formed.0.1)

pub returns-else-sum : goal.returns-else-sum
unfolding of_bits
returns-else-sum c = rw c.if-sum.false refl
