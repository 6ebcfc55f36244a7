-- Module 2 of document 01, `math.rs`: `exp` alone, by the steps of musl's e_exp.c, for −700 to 0. Each operation is rounded, in the order written.
use Rattle.std.specs.Prelude.{ℕ, ◌/◌, ◌%◌, ◌^◌, Bool, false, cond, ◌&&◌, [], ◌∷◌, pos, nat_le, nat_lt, to_bits, Float}
use Rattle.std.specs.Float.{fin, binary64}
use Rattle.std.specs.Float.Ieee.{add, sub, mul, div, neg, le, minus, of_int, to_unsigned}
use Rattle.arithmetic.specs.Number.{bits, zero, one}
use Rattle.arithmetic.specs.Reply.{Reply, finished, refused, float}

abbrev pub ln2_hi : Float
ln2_hi = bits 0x3fe6_2e42_fee0_0000

abbrev pub ln2_lo : Float
ln2_lo = bits 0x3dea_39ef_3579_3c76

abbrev pub inv_ln2 : Float
inv_ln2 = bits 0x3ff7_1547_652b_82fe

abbrev pub half : Float
half = bits 0x3fe0_0000_0000_0000

abbrev pub two : Float
two = bits 0x4000_0000_0000_0000

abbrev pub p1 : Float
p1 = bits 0x3fc5_5555_5555_553e

abbrev pub p2 : Float
p2 = bits 0xbf66_c16c_16be_bd93

abbrev pub p3 : Float
p3 = bits 0x3f11_566a_af25_de2c

abbrev pub p4 : Float
p4 = bits 0xbebb_bd41_c5d2_6bf1

abbrev pub p5 : Float
p5 = bits 0x3e66_3769_72be_a4d0

-- −700 to 0, both zeros included; no NaN is within
abbrev pub minus700 : Float
minus700 = bits 0xc085_e000_0000_0000

abbrev pub in_domain : Float → Bool
in_domain x = le minus700 x && le x zero

-- h: the upper 32 bits of x without its sign
abbrev pub high_of : Float → ℕ
high_of x = to_bits binary64 x / 2 ^ 32 % 2 ^ 31

-- −(INVLN2 × x − 0.5)
abbrev pub cutting : Float → Float
cutting x = neg (sub binary64 (mul binary64 inv_ln2 x) half)

-- n stands for −k throughout, since k is never above 0 here: INVLN2 × x − 0.5 cut toward zero
abbrev pub cut_of : Float → ℕ
cut_of x = to_unsigned 64 (cutting x)

-- −k, where h is past 3fd62e42
abbrev pub steps_of : ℕ → Float → ℕ
steps_of h x = cond (nat_lt h 0x3ff0_a2b2) 1 (cut_of x)

-- k as a float
abbrev pub k_of : ℕ → Float
k_of n = neg (of_int binary64 (pos n))

abbrev pub hi_of : Float → ℕ → Float
hi_of x n = sub binary64 x (mul binary64 (k_of n) ln2_hi)

abbrev pub lo_of : ℕ → Float
lo_of n = mul binary64 (k_of n) ln2_lo

-- c, from the reduced x and q = x × x
abbrev pub correction : Float → Float → Float
correction x q =
    sub binary64 x
    (mul binary64 q
    (add binary64 p1 (mul binary64 q (add binary64 p2 (mul binary64 q (add binary64 p3 (mul binary64 q (add binary64 p4 (mul binary64 q p5)))))))))

-- 1 + (x × c / (2 − c) − lo + hi)
abbrev pub combined : Float → Float → Float → Float → Float
combined x c hi lo = add binary64 one (add binary64 (sub binary64 (div binary64 (mul binary64 x c) (sub binary64 two c)) lo) hi)

-- 2 to the −n
abbrev pub power_of : ℕ → Float
power_of n = fin false 1 (minus 0 n)

-- the answer from the reduced x, hi, lo and −k
abbrev pub scaled : Float → Float → Float → ℕ → Float
scaled x hi lo n = mul binary64 (combined x (correction x (mul binary64 x x)) hi lo) (power_of n)

abbrev pub reduced : Float → ℕ → Float
reduced x n = scaled (sub binary64 (hi_of x n) (lo_of n)) (hi_of x n) (lo_of n) n

abbrev pub exp_at : ℕ → Float → Float
exp_at h x = cond (nat_le h 0x3e30_0000) (add binary64 one x) (cond (nat_le h 0x3fd6_2e42) (scaled x x zero 0) (reduced x (steps_of h x)))

unfoldable pub exp_of : Float → Float
exp_of x = exp_at (high_of x) x

-- what a call of `exp` replies: the value within −700 to 0, and 26 everywhere else
unfoldable pub exp_reply : Float → Reply
unfolding exp_of
exp_reply x = cond (in_domain x) (finished (float (exp_of x) ∷ [])) (refused 26 [])
