-- `narrow`: the four ways, by the magnitude's pattern.
use Rattle.std.proofs.Common.{ap, ◌∙◌}
use Rattle.arithmetic.specs.Narrow.{narrowed}
use Rattle.arithmetic.proofs.NanPattern.{writes_number}
use Rattle.arithmetic.proofs.Ways32.{narrow_nan, read_back, over_fits, over_number, narrow_over}
use Rattle.arithmetic.proofs.narrow.narrow.Goals as goal

pub returns-then-x : goal.returns-then-x
returns-then-x c = narrow_nan c.args.x c.if-x.true

pub float_to_bits-b : goal.float_to_bits-b
float_to_bits-b c = writes_number c.args.x c.if-x.false

pub returns-then-m-lt-LEAST_NORMAL : goal.returns-then-m-lt-LEAST_NORMAL
returns-then-m-lt-LEAST_NORMAL c = let s = c in c.narrow_small.ensures ∙ ap narrowed (read_back s.args.x s.well_formed.0.1)

pub overflow_add-result : goal.overflow_add-result
overflow_add-result c = let s = c in record { fits = over_fits s.args.x s.well_formed.0.1 }

pub float_from_bits-result : goal.float_from_bits-result
float_from_bits-result c = let s = c in over_number s.args.x s.well_formed.0.1

pub returns : goal.returns
returns c = let s = c in narrow_over s.args.x s.well_formed.0.1 c.if-x.false c.if-m.false c.if-m-lt-LEAST_NORMAL.false
