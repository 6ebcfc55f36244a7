-- What setup derives from the settings, in document 01's order of operations.
use Rattle.std.specs.Prelude.{ℕ, ◌-◌, max, cond, Float}
use Rattle.std.specs.Float.{binary64}
use Rattle.std.specs.Float.Ieee.{sub, div, eq}
use Rattle.arithmetic.specs.Number
use Rattle.arithmetic.specs.Number.{bits, one, frames_of_ms, rounded_of}
use Rattle.arithmetic.specs.Exp.{exp_of}

-- −1.0
abbrev pub minus_one : Float
minus_one = bits 0xbff0_0000_0000_0000

-- look: rounded to the nearest whole number, halves upward, at least 1
abbrev pub look_of : Float → ℕ → ℕ
look_of ms rate = max 1 (rounded_of (frames_of_ms ms rate))

-- L: look − 11, at least 1
abbrev pub row_of : ℕ → ℕ
row_of look = max 1 (look - 11)

-- the release coefficient: 1.0 where rel is 0, else 1 − exp(−1 / rel)
abbrev pub coefficient_at : Float → Float
coefficient_at rel = cond (eq rel Number.zero) one (sub binary64 one (exp_of (div binary64 minus_one rel)))

abbrev pub coefficient_of : Float → ℕ → Float
coefficient_of ms rate = coefficient_at (frames_of_ms ms rate)
