-- Facts of `exp` that a reader can hold against another source: where 26 arises, and exact bits at four arguments, each computed.
use Rattle.std.proofs.Common.{◌≡◌, true, false, [], ◌∷◌, refl}
use lib.Ieee.{Float, add, sub, mul, div, le, neg, of_int, of_bits, to_bits, to_unsigned}
use Rattle.arithmetic.specs.Number.{bits}
use Rattle.arithmetic.specs.Reply.{finished, refused, float}
use Rattle.arithmetic.specs.Exp.{in_domain, exp_of, exp_reply}

-- the answer is 26 outside −700 to 0
pub refused_outside : (x : Float) → in_domain x ≡ false → exp_reply x ≡ refused 26 []
unfolding exp_reply
refused_outside x h = rw h refl

-- and nowhere else
pub finished_within : (x : Float) → in_domain x ≡ true → exp_reply x ≡ finished (float (exp_of x) ∷ [])
unfolding exp_reply
finished_within x h = rw h refl

pub exp_at_zero : exp_reply (bits 0) ≡ finished (float (bits 0x3ff0_0000_0000_0000) ∷ [])
unfolding exp_reply le of_bits to_bits add
exp_at_zero = refl

pub exp_at_minus_zero : exp_reply (bits 0x8000_0000_0000_0000) ≡ finished (float (bits 0x3ff0_0000_0000_0000) ∷ [])
unfolding exp_reply le of_bits to_bits add
exp_at_minus_zero = refl

pub exp_at_minus_one : exp_reply (bits 0xbff0_0000_0000_0000) ≡ finished (float (bits 0x3fd7_8b56_362c_ef38) ∷ [])
unfolding exp_reply le of_bits to_bits add sub mul div neg of_int to_unsigned
exp_at_minus_one = refl

pub exp_at_minus_700 : exp_reply (bits 0xc085_e000_0000_0000) ≡ finished (float (bits 0x00d1_4f2b_0fb9_307f) ∷ [])
unfolding exp_reply le of_bits to_bits add sub mul div neg of_int to_unsigned
exp_at_minus_700 = refl
