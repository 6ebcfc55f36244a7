-- `to_bits`: only a NaN differs from itself.
use lib.Ieee.{binary64, to_bits}
use Rattle.arithmetic.proofs.NanPattern.{writes_nan, writes_number}
use Rattle.arithmetic.proofs.pattern.to_bits.Goals as goal

pub returns-then-x : goal.returns-then-x
unfolding to_bits
returns-then-x c = writes_nan binary64 c.args.x c.if-x.true

pub float_to_bits-result : goal.float_to_bits-result
float_to_bits-result c = writes_number c.args.x c.if-x.false
