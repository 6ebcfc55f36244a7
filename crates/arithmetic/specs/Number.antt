-- The small helpers that document 01 names in place of Rust's methods on f64, for every f64: NaN, infinities, both zeros and subnormals.
use Rattle.std.specs.Prelude.{ℕ, ◌+◌, ◌-◌, ◌*◌, ◌/◌, ◌^◌, min, Bool, false, cond, ◌&&◌, ◌||◌, pos, ◌==◌, from_bits, is_nan, to_bits, Float}
use Rattle.std.specs.Float.{nan, inf, fin, binary64}
use Rattle.std.specs.Float.Ieee.{up, down, mul, lt, le, of_int}

-- the f64 that a bit pattern stands for
abbrev pub bits : ℕ → Float
bits b = from_bits binary64 b

abbrev pub zero : Float
zero = fin false 0 (pos 0)

abbrev pub one : Float
one = fin false 1 (pos 0)

-- 1e-3
abbrev pub thousandth : Float
thousandth = bits 0x3f50_624d_d2f1_a9fc

-- milliseconds as frames: (ms × 1e-3) × rate
abbrev pub frames_of_ms : Float → ℕ → Float
frames_of_ms ms rate = mul binary64 (mul binary64 ms thousandth) (of_int binary64 (pos rate))

-- Rust's `abs`: the sign is cleared, a zero's too
abbrev pub abs_of : Float → Float
abs_of nan = nan
abs_of (inf s) = inf false
abs_of (fin s m e) = fin false m e

-- Rust's `min` and `max`: of a NaN and a number, the number. Rust leaves open which of two equal zeros it answers; here the first.
abbrev pub min_of : Float → Float → Float
min_of a b = cond (lt b a || is_nan a) b a

abbrev pub max_of : Float → Float → Float
max_of a b = cond (lt a b || is_nan a) b a

-- Rust's `clamp`: first against the lower end, then against the upper one. What equals an end stays as it is, so minus zero stays within 0 and 1.
abbrev pub not_below : Float → Float → Float
not_below lo x = cond (lt x lo) lo x

abbrev pub not_above : Float → Float → Float
not_above hi x = cond (lt hi x) hi x

abbrev pub clamp_of : Float → Float → Float → Float
clamp_of x lo hi = not_above hi (not_below lo x)

-- lo ≤ x ≤ hi. No NaN is within anything.
abbrev pub within : Float → Float → Float → Bool
within lo hi x = le lo x && le x hi

-- the sign bit; of a NaN, whose sign the logic does not have, it counts as clear
abbrev pub sign_of : Float → Bool
sign_of nan = false
sign_of (inf s) = s
sign_of (fin s m e) = s

abbrev pub with_sign : Bool → Float → Float
with_sign s nan = nan
with_sign s (inf t) = inf s
with_sign s (fin t m e) = fin s m e

-- Rust's `copysign`: the magnitude of x with the sign of y
abbrev pub copysign_of : Float → Float → Float
copysign_of x y = with_sign (sign_of y) x

-- The largest whole number of a u64. Past it a whole number is named by it, as by Rust's `as u64`; below zero, and for a NaN, by 0.
abbrev pub largest : ℕ
largest = 2 ^ 64 - 1

-- the whole number that a rule gives for the magnitude num / den
abbrev pub whole_by : (ℕ → ℕ → ℕ) → Float → ℕ
whole_by rule nan = 0
whole_by rule (inf s) = cond s 0 largest
whole_by rule (fin s m e) = cond s 0 (min (rule (m * up e) (down e)) largest)

-- rounded to the nearest whole number, halves upward: the whole part of n / d + 1 / 2
abbrev pub halves_up : ℕ → ℕ → ℕ
halves_up n d = (2 * n + d) / (2 * d)

abbrev pub rounded_of : Float → ℕ
rounded_of x = whole_by halves_up x

-- the least whole number that is not below n / d
abbrev pub upward : ℕ → ℕ → ℕ
upward n d = (n + (d - 1)) / d

abbrev pub ceil_of : Float → ℕ
ceil_of x = whole_by upward x

-- the same value, sign included; a NaN is the same as a NaN
abbrev pub same_value : Float → Float → Bool
same_value x y = to_bits binary64 x == to_bits binary64 y
