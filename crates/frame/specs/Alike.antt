-- Peaks that nobody tells apart who asks only for what is above a ceiling: the definition's, and those from which a share that is at most the ceiling may be missing.
use Rattle.std.specs.Prelude.{◌≡◌, ◌⊎◌, true, false, cond, List, [], ◌∷◌, Float}
use Rattle.std.specs.Float.Ieee.{lt, le}
use Rattle.arithmetic.specs.Number.{zero, sign_of}

-- the ceiling of a run: the lower of its target, up to which no required gain is below 1, and the highest peak so far
abbrev pub ceiling_of : Float → Float → Float
ceiling_of target top = cond (lt top target) top target

-- two peaks that are the same, or both at most the ceiling; each is 0 or more, and no minus zero
pub record Alike (ceiling p q : Float) : Type 0 where
  pub same : (p ≡ q) ⊎ ((le p ceiling ≡ true) × (le q ceiling ≡ true))
  pub from_zero : (le zero p ≡ true) × (le zero q ≡ true)
  pub unsigned : (sign_of p ≡ false) × (sign_of q ≡ false)

-- peaks frame by frame
pub data AllAlike (ceiling : Float) : List Float → List Float → Type 0 where
  none : AllAlike ceiling [] []
  some : {p q : Float} {ps qs : List Float} → Alike ceiling p q → AllAlike ceiling ps qs → AllAlike ceiling (p ∷ ps) (q ∷ qs)
