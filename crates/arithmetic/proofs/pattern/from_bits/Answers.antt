-- `from_bits`: past the infinities a pattern is a NaN's.
use Rattle.std.proofs.Common.{◌∙◌}
use lib.Ieee.{binary64}
use Rattle.arithmetic.proofs.NanPattern.{nan_quotient, reads_nan, reads_number}
use Rattle.arithmetic.proofs.pattern.from_bits.Goals as goal

pub returns-then-n-gt9218868437227405312 : goal.returns-then-n-gt9218868437227405312
returns-then-n-gt9218868437227405312 c = nan_quotient ∙ reads_nan binary64 c.args.n c.if-n-gt9218868437227405312.true

pub float_from_bits-result : goal.float_from_bits-result
float_from_bits-result c = reads_number binary64 c.args.n c.if-n-gt9218868437227405312.false
