-- How the gain follows the mean.
use Rattle.std.specs.Prelude.{Bool, cond, ◌&&◌, Float}
use Rattle.std.specs.Float.{binary64}
use Rattle.std.specs.Float.Ieee.{add, sub, mul, le}
use Rattle.arithmetic.specs.Number
use Rattle.arithmetic.specs.Number.{one, within}
use Rattle.arithmetic.specs.Sanitize.{unit_gain}

-- if the mean is at most the gain, the gain becomes it; otherwise it grows by (mean − gain) × coefficient
abbrev pub moved : Float → Float → Float → Float
moved gain mean coeff = cond (le mean gain) mean (add binary64 gain (mul binary64 (sub binary64 mean gain) coeff))

-- the gain is sanitized and kept within 0 and 1 before and after
unfoldable pub followed : Float → Float → Float → Float
followed gain mean coeff = unit_gain (moved (unit_gain gain) mean coeff)

-- the gain becomes the mean as it stands
abbrev pub attacks : Float → Float → Bool
attacks gain mean = within Number.zero one gain && (within Number.zero one mean && le mean gain)
