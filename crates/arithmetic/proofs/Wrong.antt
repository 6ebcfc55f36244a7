-- Inputs at which the wrong programs of ARCHITECTURE.md's table would answer otherwise: each row computes what the definition answers there, and its comment names the wrong program.
use Rattle.std.proofs.Common.{◌≡◌, ℕ, true, false, cond, ltb, [], pos, refl}
use lib.Ieee.{Float, nan, inf, fin, binary32, binary64, round, add, sub, mul, div, lt, le, neg, of_int, of_bits, to_bits, to_unsigned, is_nan}
use lib.Ieee.Scale.{finite}
use Rattle.arithmetic.specs.Number.{bits, zero, one, abs_of, min_of, max_of, clamp_of, within, copysign_of, rounded_of, ceil_of, same_value}
use Rattle.arithmetic.specs.Sanitize.{finite_or_zero, denormal_floor, flush_denormal, unit_gain}
use Rattle.arithmetic.specs.Narrow.{narrowed}
use Rattle.arithmetic.specs.Reply.{refused}
use Rattle.arithmetic.specs.Exp.{cutting, high_of, hi_of, lo_of, scaled, reduced, exp_of, exp_reply}

abbrev minus_zero : Float
minus_zero = fin true 0 (pos 0)

-- ---- sanitize
-- one that lets an infinity pass: +infinity
pub infinity_stopped : finite_or_zero (inf false) ≡ zero
infinity_stopped = refl

-- one that turns −0.0 into 0.0, as `x + 0.0` does
pub minus_zero_passed : finite_or_zero minus_zero ≡ minus_zero
minus_zero_passed = refl

-- one that flushes 1e-30 itself: 0.0
pub floor_kept : flush_denormal denormal_floor ≡ denormal_floor
unfolding of_bits lt
floor_kept = refl

-- one that keeps −0.0
pub minus_zero_flushed : flush_denormal minus_zero ≡ zero
unfolding of_bits lt
minus_zero_flushed = refl

-- one that lets 1.5 pass
pub gain_cut : unit_gain (bits 0x3ff8_0000_0000_0000) ≡ one
unfolding of_bits lt
gain_cut = refl

-- one that turns −0.0 into 0.0, as a clamp by "not above 0" does
pub minus_zero_gain : unit_gain minus_zero ≡ minus_zero
unfolding lt
minus_zero_gain = refl

-- ---- exp
-- k rounded: INVLN2 × x − 0.5 to the nearest whole number instead of cut toward zero, all other steps the same
abbrev exp_rounded : Float → Float
exp_rounded x = reduced x (cond (ltb (high_of x) 0x3ff0_a2b2) 1 (rounded_of (cutting x)))

-- at −1.5, where k is −2 and would be −3: the right bits, and its own
pub k_rounded :
    (to_bits binary64 (exp_of (bits 0xbff8_0000_0000_0000)) ≡ 0x3fcc_8f87_724b_5c1d)
    × (to_bits binary64 (exp_rounded (bits 0xbff8_0000_0000_0000)) ≡ 0x3fcc_8f87_724b_5810)
unfolding exp_of of_bits to_bits add sub mul div neg of_int to_unsigned
k_rounded = (refl, refl)

-- hi and lo exchanged, all other steps the same
abbrev exp_exchanged : Float → ℕ → Float
exp_exchanged x n = scaled (sub binary64 (hi_of x n) (lo_of n)) (lo_of n) (hi_of x n) n

-- at −1, where k is −1: the right bits, and its own
pub hi_and_lo :
    (to_bits binary64 (exp_of (bits 0xbff0_0000_0000_0000)) ≡ 0x3fd7_8b56_362c_ef38)
    × (to_bits binary64 (exp_exchanged (bits 0xbff0_0000_0000_0000) 1) ≡ 0x3fe5_9768_1c1c_3dad)
unfolding exp_of of_bits to_bits add sub mul div neg of_int to_unsigned
hi_and_lo = (refl, refl)

-- an answer at 5e-324, the least f64 above 0: 1.0
pub least_refused : exp_reply (bits 1) ≡ refused 26 []
unfolding exp_reply le of_bits to_bits add
least_refused = refl

-- ---- whole numbers
-- halves down, and halves to even: 2 for 2.5
pub half_up : rounded_of (bits 0x4004_0000_0000_0000) ≡ 3
unfolding of_bits
half_up = refl

-- a whole number raised by one: 3 for 2.0
pub whole_kept : ceil_of (bits 0x4000_0000_0000_0000) ≡ 2
unfolding of_bits
whole_kept = refl

-- ---- signs
-- one that keeps the sign of −0.0, as `if x < 0.0 { -x } else { x }` does
pub abs_minus_zero : abs_of minus_zero ≡ zero
abs_minus_zero = refl

-- one that reads the sign of a zero as clear, as `y < 0.0` does: 1.0
pub sign_of_minus_zero : copysign_of one minus_zero ≡ fin true 1 (pos 0)
sign_of_minus_zero = refl

-- ---- the smaller and the larger, and clamping
-- a NaN that wins over a number, first or second
pub nan_never_wins : (min_of nan one ≡ one) × (min_of one nan ≡ one) × (max_of nan one ≡ one) × (max_of one nan ≡ one)
unfolding lt is_nan
nan_never_wins = (refl, refl, refl, refl)

-- minus zero raised to the lower end: 0.0
pub minus_zero_at_end : clamp_of minus_zero zero one ≡ minus_zero
unfolding lt
minus_zero_at_end = refl

-- ---- tests
-- one that tests for a NaN alone: true
pub infinity_not_finite : finite (inf true) ≡ false
infinity_not_finite = refl

-- one that asks "neither below 0 nor above 1": true of a NaN
pub nan_not_within : within zero one nan ≡ false
unfolding le
nan_not_within = refl

-- ---- bit patterns
-- a pattern whose sign is lost at 0: 0.0
pub pattern_of_minus_zero : (bits 0x8000_0000_0000_0000 ≡ minus_zero) × (to_bits binary64 minus_zero ≡ 0x8000_0000_0000_0000)
unfolding of_bits to_bits
pattern_of_minus_zero = (refl, refl)

-- a NaN that keeps its sign and payload: fff0000000000001
pub pattern_of_nan : to_bits binary64 (bits 0xfff0_0000_0000_0001) ≡ 0x7ff8_0000_0000_0000
unfolding of_bits to_bits
pattern_of_nan = refl

-- sameness by `==`: true of the two zeros, false of two NaNs
pub same_by_bits : (same_value zero minus_zero ≡ false) × (same_value nan nan ≡ true)
unfolding to_bits
same_by_bits = (refl, refl)

-- ---- the nearest f32
-- the 32 bits that an f64's become
abbrev bits32 : ℕ → ℕ
bits32 b = to_bits binary32 (narrowed (bits b))

-- ties away from zero: 3f800001 for 1 + 2^−24, midway between 1 and the next f32
pub tie_down : bits32 0x3ff0_0000_1000_0000 ≡ 0x3f80_0000
unfolding narrowed round of_bits to_bits
tie_down = refl

-- cut instead of rounded, and ties toward zero: 3f800001 for 1 + 3 × 2^−24
pub tie_up : bits32 0x3ff0_0000_3000_0000 ≡ 0x3f80_0002
unfolding narrowed round of_bits to_bits
tie_up = refl

-- a tie seen from fewer digits than 53: 3f800000 for the f64 after 1 + 2^−24, and 3f800002 for the one before 1 + 3 × 2^−24
pub beside_tie : (bits32 0x3ff0_0000_1000_0001 ≡ 0x3f80_0001) × (bits32 0x3ff0_0000_2fff_ffff ≡ 0x3f80_0001)
unfolding narrowed round of_bits to_bits
beside_tie = (refl, refl)

-- an infinity too late, from 2^128 on: 7f7fffff, the largest f32, for 2^128 − 2^103
pub overflow_starts : bits32 0x47ef_ffff_f000_0000 ≡ 0x7f80_0000
unfolding narrowed round of_bits to_bits
overflow_starts = refl

-- an infinity too early, past the largest f32: 7f800000 for the f64 before 2^128 − 2^103
pub overflow_waits : bits32 0x47ef_ffff_efff_ffff ≡ 0x7f7f_ffff
unfolding narrowed round of_bits to_bits
overflow_waits = refl

-- ties away from zero at the least f32, 2^−149: 00000001 for its half
pub least_tie : bits32 0x3690_0000_0000_0000 ≡ 0
unfolding narrowed round of_bits to_bits
least_tie = refl

-- subnormals flushed: 00000000 for the f64 after 2^−150
pub least_kept : bits32 0x3690_0000_0000_0001 ≡ 1
unfolding narrowed round of_bits to_bits
least_kept = refl

-- a carry lost where the digits become 24: 007fffff for 2^−126 − 2^−151
pub carry_kept : bits32 0x380f_ffff_f000_0000 ≡ 0x0080_0000
unfolding narrowed round of_bits to_bits
carry_kept = refl

-- a sign lost at underflow: 00000000 for −2^−150
pub sign_kept : bits32 0xb690_0000_0000_0000 ≡ 0x8000_0000
unfolding narrowed round of_bits to_bits
sign_kept = refl

-- a NaN that keeps its sign and payload: ffc00001
pub nan_pattern : bits32 0xfff8_0000_2000_0000 ≡ 0x7fc0_0000
unfolding narrowed round of_bits to_bits
nan_pattern = refl
