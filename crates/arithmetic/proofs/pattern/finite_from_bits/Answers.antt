-- `finite_from_bits`: by the exponent's field.
use lib.Ieee.{binary64, of_bits}
use Rattle.arithmetic.proofs.NanPattern.{reads_silence, reads_finite, finite_number}
use Rattle.arithmetic.proofs.pattern.finite_from_bits.Goals as goal

pub float_from_bits-result : goal.float_from_bits-result
float_from_bits-result c = finite_number binary64 c.args.n c.if-n-eq2047.false

pub returns-then-n-eq2047 : goal.returns-then-n-eq2047
unfolding of_bits
returns-then-n-eq2047 c = reads_silence binary64 c.args.n c.if-n-eq2047.true

pub returns-else-n-eq2047 : goal.returns-else-n-eq2047
returns-else-n-eq2047 c = reads_finite binary64 c.args.n c.if-n-eq2047.false
