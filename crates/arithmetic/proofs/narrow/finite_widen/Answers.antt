-- `finite_widen`: by the exponent's field; a finite f32's value is an f64 too.
use lib.Ieee.{binary32, of_bits}
use Rattle.arithmetic.proofs.NanPattern.{reads_silence, reads_finite, finite_number}
use Rattle.arithmetic.proofs.narrow.finite_widen.Goals as goal

pub float_from_bits-result : goal.float_from_bits-result
float_from_bits-result c = finite_number binary32 c.args.n c.if-n-eq255.false

pub returns-then-n-eq255 : goal.returns-then-n-eq255
unfolding of_bits
returns-then-n-eq255 c = reads_silence binary32 c.args.n c.if-n-eq255.true

pub returns-else-n-eq255 : goal.returns-else-n-eq255
returns-else-n-eq255 c = reads_finite binary32 c.args.n c.if-n-eq255.false
