-- The mean of the attack row.
use Rattle.std.specs.Prelude.{Bool, true, cond, ◌&&◌, List, [], ◌∷◌, Float}
use Rattle.std.specs.Float.{binary64}
use Rattle.std.specs.Float.Ieee.{add, mul, eq}
use Rattle.arithmetic.specs.Number
use Rattle.arithmetic.specs.Number.{one}

-- all are 1.0
abbrev pub is_all_one : List Float → Bool
is_all_one [] = true
is_all_one (f ∷ fs) = eq f one && is_all_one fs

-- the first weight times the first floor, and so on, each product and sum rounded
abbrev pub weighted_from : Float → List Float → List Float → Float
weighted_from acc ws [] = acc
weighted_from acc [] (f ∷ fs) = acc
weighted_from acc (w ∷ ws) (f ∷ fs) = weighted_from (add binary64 acc (mul binary64 w f)) ws fs

-- 1.0 if all are 1.0, else the first weight times the newest floor, and so on back in time, summed from 0.0
unfoldable pub mean_of : List Float → List Float → Float
mean_of weights floors = cond (is_all_one floors) one (weighted_from Number.zero weights floors)
