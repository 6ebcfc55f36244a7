-- Change 1, 32-bit samples: "each sample widened exactly, each output rounded to the nearest f32, ties to even". One type of values serves both formats,
-- so a widened sample is the value of its 32 bits itself.
use Rattle.std.specs.Prelude.{◌≡◌, ℕ, ◌+◌, ◌-◌, ◌*◌, ◌/◌, ◌%◌, ◌^◌, ◌<◌, ◌≤◌, max, Bool, cond, T, from_bits, nat_le, Float}
use Rattle.std.specs.Bool.{beq}
use Rattle.std.specs.Float.{nan, inf, fin, binary32}
use Rattle.std.specs.Float.Ieee.{up, down, size, round, fits}
use Rattle.std.specs.Float.Ieee.Scale.{finite}
use Rattle.arithmetic.specs.Number.{sign_of}

-- the value of a sample's 32 bits
abbrev pub widened : ℕ → Float
widened n = from_bits binary32 n

-- the nearest f32 by IEEE 754's rounding, a tie to the even one. `Rounded` below says the same in the request's words.
unfoldable pub narrowed : Float → Float
narrowed nan = nan
narrowed (inf s) = inf s
narrowed (fin s m e) = round binary32 s (m * up e) (down e)

-- ---- the distance, over whole numbers
-- a finite f64's magnitude in multiples of 2^−1074, the finest place of any f64
abbrev pub units_of : Float → ℕ
units_of nan = 0
units_of (inf s) = 0
units_of (fin s m e) = m * up e * 2 ^ 1074 / down e

-- the spacing of the f32 values around a magnitude: 24 digits, and none below 2^−149, which is 2^925 of these units
abbrev pub spacing : ℕ → ℕ
spacing n = 2 ^ (max (size n) (925 + 24) - 24)

-- 2^128 − 2^103, from which on an output becomes infinity and has no distance
abbrev pub overflow : ℕ
overflow = (2 ^ 128 - 2 ^ 103) * 2 ^ 1074

-- how far two finite values lie apart, signs counted
abbrev pub apart : Float → Float → ℕ
apart x y =
    let a = units_of x in
    let b = units_of y in
    cond (beq (sign_of x) (sign_of y)) (cond (nat_le a b) (b - a) (a - b)) (a + b)

-- ---- in the request's words
-- y is the nearest f32 of a finite x, ties to even
pub record Nearest (x y : Float) : Type 0 where
  pub some : T (finite x)
  -- y is a finite f32 with x's sign
  pub known : T (finite y)
  pub held : T (fits binary32 y)
  pub signed : sign_of y ≡ sign_of x
  -- no finite f32 is nearer
  pub none_nearer : (z : Float) → T (finite z) → T (fits binary32 z) → apart x y ≤ apart x z
  -- twice the distance is at most the spacing there
  pub near : apart x y * 2 ≤ spacing (units_of x)
  -- y is a whole number of spacings, and where twice the distance is exactly one it is an even number of them
  pub whole : units_of y % spacing (units_of x) ≡ 0
  pub even : apart x y * 2 ≡ spacing (units_of x) → units_of y / spacing (units_of x) % 2 ≡ 0

-- y is what an f64 becomes as f32: the nearest, or an infinity, which has no distance, from `overflow` on; infinities and NaN stay. `narrowed` is that and nothing else is (proofs/Nearest.antt).
pub record Rounded (x y : Float) : Type 0 where
  pub nearest : T (finite x) → units_of x < overflow → Nearest x y
  pub past : T (finite x) → overflow ≤ units_of x → y ≡ inf (sign_of x)
  pub infinite : (s : Bool) → x ≡ inf s → y ≡ inf s
  pub not_a_number : x ≡ nan → y ≡ nan
