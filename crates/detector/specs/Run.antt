-- The detector over a run, document 01's stretch of up to 32 frames: the single pushes made in turn.
use Rattle.std.specs.Prelude.{ℕ, cond, ◌&&◌, List, [], ◌∷◌, eqb, leb, length, Float}
use Rattle.detector.specs.Oversample.{Pushed, remembered, peak_abs_of}

-- how many frames a run has at most
abbrev pub run_length : ℕ
run_length = 32

-- what pushes give: the answers, one for each sample, the first pushed first; and the store afterwards
pub record Pushes : Type 0 where
  pub peaks : List Float
  pub store : List Float

abbrev pub pushes_at : List Float → List Float → Pushes
pushes_at peaks store = record { peaks = peaks; store = store }

-- a push, and then what the later ones come to
abbrev pub push_first : Pushed → Pushes → Pushes
push_first o later = pushes_at (o.peak ∷ later.peaks) later.store

-- the pushes of a list of samples, the first of the list first
unfoldable pub pushes_of : List (List Float) → List Float → List Float → Pushes
pushes_of phases store [] = pushes_at [] store
pushes_of phases store (x ∷ xs) = push_first (peak_abs_of phases store x) (pushes_of phases (peak_abs_of phases store x).store xs)

-- Where the run has more than 32 samples, the store does not hold 12, or there is not a place of an answer for each sample, answers and store are left alone.
unfoldable pub peaks_abs_of : List (List Float) → List Float → List Float → List Float → Pushes
peaks_abs_of phases store samples answers =
    cond (leb (length samples) run_length && (eqb (length store) remembered && eqb (length answers) (length samples))) (pushes_of phases store samples) (pushes_at answers store)
