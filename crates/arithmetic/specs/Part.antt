-- What private functions promise or ask: `has_fraction` of number.rt, by which `round` and `ceil` go, and `narrow_normal` of narrow.rt.
use Rattle.std.specs.Prelude.{ℕ, ◌%◌, ◌^◌, Bool, false, ◌&&◌, pos, nat_le, nat_lt, to_bits, Float}
use Rattle.std.specs.Float.{fin, binary64}
use Rattle.std.specs.Float.Ieee.{lt}
use Rattle.arithmetic.specs.Number.{zero}

-- 2^52, from which on every f64 is whole
abbrev pub all_whole : Float
all_whole = fin false 1 (pos 52)

-- above 0 and below that: what may have a fraction
abbrev pub fractional : Float → Bool
fractional x = lt zero x && lt x all_whole

-- ---- the patterns of 2^−126, from which on an f32 is normal, and of 2^128 − 2^103, from which on it is an infinity
abbrev pub least_normal_bits : ℕ
least_normal_bits = 0x3810_0000_0000_0000

abbrev pub overflow_bits : ℕ
overflow_bits = 0x47ef_ffff_f000_0000

-- a pattern without its sign
abbrev pub magnitude_of : Float → ℕ
magnitude_of x = to_bits binary64 x % 2 ^ 63

-- whether the nearest f32 is normal: from 2^−126 on, and no infinity
abbrev pub is_normal : ℕ → Bool
is_normal m = nat_le least_normal_bits m && nat_lt m overflow_bits
