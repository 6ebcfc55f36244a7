-- `widen`: past the infinities a pattern is a NaN's; any other's value is an f64 too.
use Rattle.std.proofs.Common.{◌∙◌}
use lib.Ieee.{binary32}
use Rattle.arithmetic.proofs.NanPattern.{nan_quotient, reads_nan, reads_number}
use Rattle.arithmetic.proofs.narrow.widen.Goals as goal

pub returns-then-n-gt2139095040 : goal.returns-then-n-gt2139095040
returns-then-n-gt2139095040 c = nan_quotient ∙ reads_nan binary32 c.args.n c.if-n-gt2139095040.true

pub float_from_bits-result : goal.float_from_bits-result
float_from_bits-result c = reads_number binary32 c.args.n c.if-n-gt2139095040.false
