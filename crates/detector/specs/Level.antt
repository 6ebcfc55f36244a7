-- Quiet runs: samples within a level, for which neither they nor the detector's answers are above a ceiling.
use Rattle.std.specs.Prelude.{◌≡◌, Bool, true, cond, ◌&&◌, List, [], ◌∷◌, eqb, length, Float}
use Rattle.std.specs.Float.{binary64}
use Rattle.std.specs.Float.Ieee.{mul, neg, le}
use Rattle.arithmetic.specs.Number.{bits, zero, one, abs_of, within}
use Rattle.arithmetic.specs.Sanitize.{finite_or_zero}
use Rattle.detector.specs.Taps.{taps}
use Rattle.detector.specs.Oversample.{remembered}
use Rattle.detector.specs.Run.{pushes_of}

-- 0.55: the magnitudes of no phase's taps add up to more than 1.7916, and 0.55 × 1.7916 is below 1
abbrev pub share : Float
share = bits 0x3fe1_9999_9999_999a

-- 2 to the −13, the least ceiling that has a level
abbrev pub least_ceiling : Float
least_ceiling = bits 0x3f20_0000_0000_0000

-- the level for a ceiling from there to 1, and 0 for any other, within which there is nothing but silence
unfoldable pub level_of : Float → Float
level_of ceiling = cond (within least_ceiling one ceiling) (mul binary64 ceiling share) zero

-- what samples within that level stay at most: the ceiling, or 0
unfoldable pub height_of : Float → Float
height_of ceiling = cond (within least_ceiling one ceiling) ceiling zero

-- whether each value lies within −m and m; no NaN does
unfoldable pub all_within : Float → List Float → Bool
all_within m [] = true
all_within m (x ∷ xs) = within (neg m) m x && all_within m xs

-- twelve remembered samples and those of a run, all within −level and level
unfoldable pub lies_within : List Float → List Float → Float → Bool
lies_within store samples level = eqb (length store) remembered && (all_within level store && all_within level samples)

-- whether each value is at most the ceiling
unfoldable pub all_below : Float → List Float → Bool
all_below ceiling [] = true
all_below ceiling (x ∷ xs) = le x ceiling && all_below ceiling xs

-- the sanitized magnitudes of a run
unfoldable pub magnitudes : List Float → List Float
magnitudes [] = []
magnitudes (x ∷ xs) = abs_of (finite_or_zero x) ∷ magnitudes xs

-- a run on a store of twelve: each sanitized magnitude and each answer of the detector is at most the ceiling
pub record StaysBelow (ceiling : Float) (store samples : List Float) : Type 0 where
  pub twelve : length store ≡ remembered
  pub heard : all_below ceiling (magnitudes samples) ≡ true
  pub answers : all_below ceiling (pushes_of taps store samples).peaks ≡ true
