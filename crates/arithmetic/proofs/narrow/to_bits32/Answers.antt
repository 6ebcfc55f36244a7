-- `to_bits32`: only a NaN differs from itself; any other value that an f32 holds is cast to it as it is.
use Rattle.std.proofs.Common.{not}
use lib.Ieee.{binary32, fits, is_nan, to_bits}
use lib.Ieee.Fits.{and_i}
use Rattle.arithmetic.proofs.NanPattern.{writes_nan, writes_number}
use Rattle.arithmetic.proofs.narrow.to_bits32.Goals as goal

pub returns-then-x : goal.returns-then-x
unfolding to_bits
returns-then-x c = writes_nan binary32 c.args.x c.if-x.true

pub float_to_float-result : goal.float_to_float-result
float_to_float-result c =
    let k = c in
    let x = k.args.x in
    and_i (fits binary32 x) (not (is_nan x)) k.requires (writes_number x k.if-x.false)

pub float_to_bits-result : goal.float_to_bits-result
float_to_bits-result c = writes_number c.args.x c.if-x.false
