-- Inputs at which the wrong programs of ARCHITECTURE.md's table would answer otherwise: each row computes what the definition answers there, and its comment names the wrong program.
use Rattle.std.proofs.Common.{◌≡◌, ℕ, ◌+◌, ◌-◌, ◌/◌, ◌^◌, true, false, cond, eqb, List, [], ◌∷◌, map, reverse, length, get_or, replicate, pos, Some, None, Ok, Err, refl}
use lib.Ieee.{Float, nan, binary64, add, sub, mul, div, neg, lt, le, eq, of_int, of_bits, to_bits, to_unsigned}
use Rattle.arithmetic.specs.Number
use Rattle.arithmetic.specs.Number.{bits, one, thousandth, largest}
use Rattle.arithmetic.specs.Exp.{exp_of}
use Rattle.settings.specs.Settings.{settings_of, all_count, defaults, process_spec}
use Rattle.settings.specs.Counted.{counts_in}
use Rattle.settings.specs.Derived.{look_of, row_of, coefficient_at, coefficient_of}
use Rattle.settings.specs.Memory.{needed, cap_judged, left_of}
use Rattle.settings.specs.Weights.{rising, first_half, accepted}
use Rattle.settings.specs.HouseTable.{house, at44100, at48000, at96000, at192000}
use Rattle.settings.specs.House.{Stretch, stretches, house_start, house_fits, house_of}
use Rattle.settings.specs.Target.{target_of}
use Rattle.settings.specs.Accepted.{refusal_of}

abbrev minus_one : Float
minus_one = bits 0xbff0_0000_0000_0000

-- ---- weights
-- 2^−8, about 1 − 2^−7 and about 2^−8, in parts of 2^−60: what the middle one has less, and the last one more
abbrev three : ℕ → ℕ → List Float
three less extra = bits 0x3f70_0000_0000_0000 ∷ bits (0x3fef_c000_0000_0000 - less / 128) ∷ bits (0x3f70_0000_0000_0000 + extra) ∷ []

-- a sum past its slack of 512 × L taken: 1,536 off 2^60 are just taken, 1,537 are not, above and below
pub slack : (accepted (three 0 1536) ≡ true) × (accepted (three 0 1537) ≡ false) × (accepted (three 1536 0) ≡ true) × (accepted (three 1664 127) ≡ false)
unfolding accepted lt le of_bits
slack = (refl, refl, refl, refl)

-- a sum that wraps past 2^64 taken: 17 weights that rise to 1 by last places, 17 × 2^60 − 4,608 in all, which 64 bits hold as 2^60 − 4,608
pub no_wrapped_sum :
    accepted (bits 0x3fef_ffff_ffff_fff8 ∷ bits 0x3fef_ffff_ffff_fff9 ∷ bits 0x3fef_ffff_ffff_fffa ∷ bits 0x3fef_ffff_ffff_fffb ∷ bits 0x3fef_ffff_ffff_fffc ∷ bits 0x3fef_ffff_ffff_fffd
    ∷ bits 0x3fef_ffff_ffff_fffe ∷ bits 0x3fef_ffff_ffff_ffff ∷ replicate 9 one)
    ≡ false
unfolding accepted lt le of_bits
no_wrapped_sum = refl

-- mirrored parts that differ by 4,097 taken, or by 4,096 refused; or only a last one that is too large seen, or a first
pub mirror : (accepted (three 4096 4096) ≡ true) × (accepted (three 4096 4097) ≡ false) × (accepted (reverse (three 4096 4097)) ≡ false)
unfolding accepted lt le of_bits
mirror = (refl, refl, refl)

-- what lies below the whole parts counted too, or the parts rounded: 1/4 of a part, and 4,096 and 3/4
pub whole_parts : accepted (bits 0x3c10_0000_0000_0000 ∷ bits 0x3fef_ffff_ffff_ffe0 ∷ bits 0x3cf0_00c0_0000_0000 ∷ []) ≡ true
unfolding accepted lt le of_bits
whole_parts = refl

-- the bits of 1/8, 1/4 and 3/8, and weights by their bits
abbrev eighth : ℕ
eighth = 0x3fc0_0000_0000_0000

abbrev quarter : ℕ
quarter = 0x3fd0_0000_0000_0000

abbrev more : ℕ
more = 0x3fd8_0000_0000_0000

abbrev four : ℕ → ℕ → ℕ → ℕ → List Float
four a b c d = bits a ∷ bits b ∷ bits c ∷ bits d ∷ []

-- only the outermost pair compared, or only the innermost; or a fall asked past the middle. 32 last places below 3/8 and as many above are 4,096 parts apart, 128 below 1/8 and 64 above too
pub each_pair :
    (accepted (four eighth 0x3fd7_ffff_ffff_ffe0 (more + 32) eighth) ≡ true) × (accepted (four eighth 0x3fd7_ffff_ffff_ffe0 (more + 33) eighth) ≡ false)
    × (accepted (four 0x3fbf_ffff_ffff_ff80 more more (eighth + 64)) ≡ true) × (accepted (four 0x3fbf_ffff_ffff_ff80 more more (eighth + 65)) ≡ false)
unfolding accepted lt le of_bits
each_pair = (refl, refl, refl, refl)

-- 1/8, 1/4, so many last places more than 1/4, and down again
abbrev five : ℕ → List Float
five last = bits eighth ∷ four quarter (quarter + last) quarter eighth

-- the rise asked one place too few, or equal neighbours taken: the middle one of five, and the second of four, are to be above the one before
pub to_the_middle : (accepted (five 1) ≡ true) × (accepted (five 0) ≡ false) × (accepted (four quarter quarter quarter quarter) ≡ false)
unfolding accepted lt le of_bits
to_the_middle = (refl, refl, refl)

-- the rise asked one place too many: of four, the third may be below the second
pub not_past_it : accepted (four eighth more 0x3fd7_ffff_ffff_ffff eighth) ≡ true
unfolding accepted lt le of_bits
not_past_it = refl

-- the first pair not asked: six that rise late, of which the sum is right
pub late_rise : accepted (bits eighth ∷ bits eighth ∷ four quarter quarter eighth eighth) ≡ false
unfolding accepted lt le of_bits
late_rise = refl

-- the whole parts asked to rise in place of the weights: of the least two floats both are 0
pub weights_rise : (accepted (bits 1 ∷ bits 2 ∷ one ∷ bits 2 ∷ bits 1 ∷ []) ≡ true) × (accepted (bits 2 ∷ bits 1 ∷ one ∷ bits 1 ∷ bits 2 ∷ []) ≡ false)
unfolding accepted lt le of_bits
weights_rise = (refl, refl)

-- a rise asked of one weight, or of two: there is none to ask for, whatever they are
pub short_rows : (v w : Float) → (rising (first_half (w ∷ [])) ≡ true) × (rising (first_half (v ∷ w ∷ [])) ≡ true)
short_rows v w = (refl, refl)

-- ---- look, release coefficient, target
-- halves rounded to even: 12 for 12.5, which 1.5625 ms are at 8,000
pub look_half_up : look_of (bits 0x3ff9_0000_0000_0000) 8000 ≡ 13
unfolding mul of_int of_bits
look_half_up = refl

-- rel taken as release × (1e-3 × rate): at 2.25 ms and 8,000 it is 18, the other is the next f64 above it; the right bits, and its own
pub release_in_order :
    (to_bits binary64 (coefficient_of (bits 0x4002_0000_0000_0000) 8000) ≡ 0x3fab_ab33_5368_6750)
    × (to_bits binary64 (coefficient_at (mul binary64 (bits 0x4002_0000_0000_0000) (mul binary64 thousandth (of_int binary64 (pos 8000))))) ≡ 0x3fab_ab33_5368_6760)
unfolding exp_of add sub mul div neg eq of_int of_bits to_bits to_unsigned
release_in_order = (refl, refl)

-- an argument above 0 not counted as 0: 1 dB would be 1.12; and a NaN is 1.0 too
pub target_at_most_one : (target_of one Number.zero ≡ one) × (target_of nan Number.zero ≡ one)
unfolding target_of exp_of add sub mul div neg lt le of_int of_bits to_bits to_unsigned
target_at_most_one = (refl, refl)

-- the margin added, not taken off: −1 dB and 0.1 dB would be 0.9; the right bits, and its own
pub margin_taken_off :
    (to_bits binary64 (target_of minus_one (bits 0x3fb9_9999_9999_999a)) ≡ 0x3fec_318d_67f7_e80f)
    × (to_bits binary64 (target_of minus_one (bits 0xbfb9_9999_9999_999a)) ≡ 0x3fec_d9ab_b6e1_1f8b)
unfolding target_of exp_of add sub mul div neg lt le of_int of_bits to_bits to_unsigned
margin_taken_off = (refl, refl)

-- ---- the settings
-- two fields exchanged
pub fields_in_place : (a b c d : Float) (e : ℕ)
    → let s = settings_of a b c d e in
    (s.threshold_db ≡ a) × (s.true_peak_margin_db ≡ b) × (s.lookahead_ms ≡ c) × (s.release_ms ≡ d) × (s.left_out ≡ e)
fields_in_place a b c d e = (refl, refl, refl, refl, refl)

-- a mask read from the highest channel down, or one that names the channels that count: 8 leaves out channel 3 alone
pub mask_in_place :
    let s = settings_of Number.zero Number.zero Number.zero Number.zero 8 in
    map (λ (c : ℕ). counts_in s c) (0 ∷ 1 ∷ 2 ∷ 3 ∷ 4 ∷ 5 ∷ 6 ∷ 7 ∷ []) ≡ true ∷ true ∷ true ∷ false ∷ true ∷ true ∷ true ∷ true ∷ []
unfolding counts_in
mask_in_place = refl

-- another default than −1, 1/10, 3/2 and 50, or a channel left out by default
abbrev whole : ℕ → Float
whole n = of_int binary64 (pos n)

pub default_values :
    (defaults.threshold_db ≡ neg (whole 1)) × (defaults.true_peak_margin_db ≡ div binary64 (whole 1) (whole 10))
    × (defaults.lookahead_ms ≡ div binary64 (whole 3) (whole 2)) × (defaults.release_ms ≡ whole 50) × (defaults.left_out ≡ 0)
unfolding div neg of_int of_bits
default_values = (refl, refl, refl, refl, refl)

-- ---- memory
-- L of 0 at look 11
pub shortest_row : row_of 11 ≡ 1
shortest_row = refl

-- a count that wraps: 2^61 channels take a multiple of 2^64 bytes and 208 more
pub no_wrapped_count : needed (2 ^ 61) 11 ≡ largest
no_wrapped_count = refl

-- a cap of 0 read as no cap
pub nothing_left : (left_of 80 (Some 80) ≡ Some 0) × (cap_judged 1 (Some 0) ≡ Err (record { needed = 1; cap = 0 }))
nothing_left = (refl, refl)

-- a cap that is needed to the last byte refused
pub cap_to_the_byte : cap_judged 4256 (Some 4256) ≡ Ok tt
cap_to_the_byte = refl

-- ---- the refusals
-- 9 answered where 8 arises too: rate 0 and a margin of −1
pub eight_first : refusal_of (settings_of Number.zero minus_one one one all_count) (process_spec 0 1 64 None false) ≡ 8
unfolding lt mul of_int of_bits
eight_first = refl

-- a margin of −0.0 refused; 1.5 ms at 8,000 are 12 frames
pub minus_zero_margin : refusal_of (settings_of Number.zero (bits 0x8000_0000_0000_0000) (bits 0x3ff8_0000_0000_0000) one all_count) (process_spec 8000 1 64 None false) ≡ 0
unfolding lt mul of_int of_bits
minus_zero_margin = refl

-- a release between 0 and 0.01 ms taken, and a release of 0 refused
pub shortest_release :
    (refusal_of (settings_of Number.zero Number.zero (bits 0x3ff8_0000_0000_0000) (bits 0x3f74_7ae1_47ae_147b) all_count) (process_spec 8000 1 64 None false) ≡ 11)
    × (refusal_of (settings_of Number.zero Number.zero (bits 0x3ff8_0000_0000_0000) Number.zero all_count) (process_spec 8000 1 64 None false) ≡ 0)
unfolding lt mul of_int of_bits
shortest_release = (refl, refl)

-- ---- the house weights
-- the look alone judged, or the rate alone; a look or a rate beside one of the four taken
pub rate_and_look : map (λ (p : ℕ × ℕ). house_fits p.0 p.1)
    ((44100, 66) ∷ (48000, 72) ∷ (96000, 144) ∷ (192000, 288) ∷ (48000, 66) ∷ (44100, 72) ∷ (192000, 144) ∷ (48000, 73) ∷ (48000, 71) ∷ (47999, 72) ∷ (96001, 144) ∷ (88200, 132) ∷ (0, 0) ∷ [])
    ≡ true ∷ true ∷ true ∷ true ∷ false ∷ false ∷ false ∷ false ∷ false ∷ false ∷ false ∷ false ∷ false ∷ []
unfolding house_start
rate_and_look = refl

-- a weight left out between two stretches, or in both of them: each begins where the one before it ends, and the last ends with the table
abbrev end_of : ℕ → List Stretch → ℕ
end_of from [] = from
end_of from (s ∷ ss) = cond (eqb s.start from) (end_of (from + row_of s.look) ss) 0

pub end_to_end : end_of 0 stretches ≡ length house
unfolding house at44100 at48000 at96000 at192000
end_to_end = refl

-- another place, or another stretch: of 61 weights the middle one is 1 / 31, as near as a float is
pub middle_weight : (get_or (house_of 48000 72) 30 nan ≡ div binary64 one (bits 0x403f_0000_0000_0000)) × (length (house_of 48000 72) ≡ 61)
unfolding house_start house at44100 at48000 at96000 at192000 of_bits div
middle_weight = (refl, refl)
