-- 2 to a sum; and 2 to the −n by its bit pattern: the exponent's field alone, 1023 − n.
use Rattle.std.proofs.Common.{◌≡◌, ℕ, zero, suc, ◌+◌, ◌-◌, ◌*◌, ◌^◌, ◌<◌, ◌≤◌, false, ℤ, negsuc, refl, ap, ◌∙◌, mod-eq_of_lt, mul-div_cancel, arith, lit<, pow-add, le-ltb, ne_eqb}
use native.Mathlib.Nat.{mul-mod_left}
use lib.Ieee.{fin, binary64, minus, of_fields, of_bits, nan_bits}
use lib.Ieee.Bits.{nan_bits_above}
use borrow.Author.Tests.{lt-leb}
use Rattle.arithmetic.specs.Exp.{power_of}

pub powers : (a b c : ℕ) → a ≡ b + c → 2 ^ a ≡ 2 ^ b * 2 ^ c
powers a b c e = ap (λ (z : ℕ). 2 ^ z) e ∙ pow-add 2 b c

-- the pattern's three fields
fields : (a : ℕ) → a < 2048 → of_bits binary64 (a * 2 ^ 52) ≡ of_fields binary64 false a 0
unfolding of_bits
fields a h = rw (lt-leb (2 ^ 63) (a * 2 ^ 52) (omega arith), mod-eq_of_lt {n = a * 2 ^ 52} {m = 2 ^ 63} (omega arith), mul-div_cancel a {n = 2 ^ 52} (lit< tt), mul-mod_left a (2 ^ 52)) refl

exponent : (n : ℕ) → n ≤ 1022 → minus (1022 - n + 52) 1074 ≡ minus 0 n
exponent zero h = refl
exponent (suc n) h = rw (lt-leb 1074 (1022 - suc n + 52) (omega arith), lt-leb (suc n) 0 (omega arith)) (ap negsuc (omega arith))

pub power-is : (n : ℕ) → n ≤ 1022 → of_bits binary64 ((1023 - n) * 2 ^ 52) ≡ power_of n
unfolding of_fields
power-is n h = fields (1023 - n) (omega arith) ∙ rw (room n h) (rw (ne_eqb (suc (1022 - n)) 2047 (λ e. omega arith)) (ap (λ (z : ℤ). fin false 1 z) (exponent n h)))
  where
    room : (n : ℕ) → n ≤ 1022 → 1023 - n ≡ suc (1022 - n)
    room n h = omega arith

pub power_number : (n : ℕ) → n ≤ 1022 → nan_bits binary64 ((1023 - n) * 2 ^ 52) ≡ false
power_number n h = nan_bits_above binary64 ((1023 - n) * 2 ^ 52) ∙ rw (mod-eq_of_lt {n = (1023 - n) * 2 ^ 52} {m = 2 ^ 63} (omega arith)) (le-ltb (2047 * 2 ^ 52) ((1023 - n) * 2 ^ 52) (omega arith))
