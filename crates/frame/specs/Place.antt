-- Change 5: where a block's highest peak sat, by plain scan over its frames' linked peaks. Last, how the code finds it, which only inner contracts cite.
use Rattle.std.specs.Prelude.{ℕ, ◌+◌, Bool, false, cond, List, [], ◌∷◌, Option, None, Float}
use Rattle.std.specs.Float.{inf}
use Rattle.std.specs.Float.Ieee.{lt, eq}
use Rattle.arithmetic.specs.Number.{zero}
use Rattle.frame.specs.Seat.{PeakAt}
use Rattle.frame.specs.declared.highest.Seat.{Seat}
use Rattle.frame.specs.declared.highest.Highest.{Highest}

-- a frame, "counted from 0 in the block", and where its peak sat
pub record Place : Type 0 where
  pub frame : ℕ
  pub seat : Option Seat

abbrev pub place_found_at : ℕ → Option Seat → Place
place_found_at i seat = record { frame = i; seat = seat }

-- "An empty block, or one whose linked peak is 0.0 throughout, says none"
abbrev pub no_place : Place
no_place = place_found_at 0 None

-- the highest of these linked peaks, and 0.0 of none
unfoldable pub highest_of : List PeakAt → Float
highest_of [] = zero
highest_of (p ∷ ps) = let later = highest_of ps in cond (lt later p.peak) p.peak later

-- the first frame, counted from i, that has this peak
unfoldable pub first_with : Float → ℕ → List PeakAt → Place
first_with top i [] = no_place
first_with top i (p ∷ ps) = cond (eq p.peak top) (place_found_at i p.seat) (first_with top (i + 1) ps)

-- "the first frame, counted from 0 in the block, with the highest linked peak"
unfoldable pub place_of : List PeakAt → Place
place_of ps = cond (eq (highest_of ps) zero) no_place (first_with (highest_of ps) 0 ps)

-- ---- the highest so far
-- what it comes to at the end of a block that is asked for its place; one that is not tells none
abbrev pub place_told : Bool → List PeakAt → Place
place_told asked ps = cond asked (place_of ps) no_place

-- at a block's start: 0.0, and where it is not asked an infinity, above which there is no peak
abbrev pub start_of : Bool → Highest
start_of asked = record { peak = cond asked zero (inf false); frame = 0; seat = None }

-- frame i takes its place where its peak is higher
abbrev pub higher : ℕ → Highest → PeakAt → Highest
higher i h p = cond (lt h.peak p.peak) (record { peak = p.peak; frame = i; seat = p.seat }) h

-- after these frames, the first of them being frame i
unfoldable pub highest_from : ℕ → Highest → List PeakAt → Highest
highest_from i h [] = h
highest_from i h (p ∷ ps) = highest_from (i + 1) (higher i h p) ps

abbrev pub place_in : Highest → Place
place_in h = place_found_at h.frame h.seat
