-- Document 01's starred rows on the gain step, computed from the definitions.
use mathlib.Core.Path.{◌≡◌, refl}
use mathlib.Core.Bool.{false}
use mathlib.Core.List.{[], ◌∷◌, map}
use Prim.Native.Nat.{ℕ}
use lib.ListN.{replicate}
use lib.Ieee.{Float, nan, inf, of_bits, lt, le, eq}
use Rattle.arithmetic.specs.Number.{bits, zero, one}
use Rattle.arithmetic.specs.Sanitize.{unit_gain}
use Rattle.arithmetic.specs.Reply.{Reply, finished, count, float}
use Rattle.keeper.specs.InOrder.{is_in_order}
use Rattle.keeper.specs.Keeper.{Keeping, setup_of, stepped_of, step_of}
use Rattle.keeper.specs.History.{replies_after}

abbrev pub half : Float
half = bits 0x3fe0_0000_0000_0000

-- a keeper that was set up with look 11
unfoldable pub set_up11 : Keeping
unfolding setup_of
set_up11 = (setup_of 11 (replicate 12 0) (replicate 12 zero)).keeping

-- a finished step's reply: floor, dropped, kept
abbrev pub tells : Float → ℕ → ℕ → Reply
tells floor dropped kept = finished (float floor ∷ count dropped ∷ count kept ∷ [])

-- * Gains NaN, +infinity, −0.25, 1.5 count as 0, 0, 0, 1
pub gains_count : map unit_gain (nan ∷ inf false ∷ bits 0xbfd0_0000_0000_0000 ∷ bits 0x3ff8_0000_0000_0000 ∷ []) ≡ zero ∷ zero ∷ zero ∷ one ∷ []
unfolding of_bits lt
gains_count = refl

-- * Look 11, gain 0.5 then only 1.0: floor 0.5 through frame 11, 1.0 at frame 12, which drops 2 and keeps 1. Newest first: the head is frame 12, the end frame 0.
pub half_then_ones : replies_after set_up11 (one ∷ one ∷ one ∷ one ∷ one ∷ one ∷ one ∷ one ∷ one ∷ one ∷ one ∷ one ∷ half ∷ [])
    ≡ tells one 2 1
    ∷ tells half 1 2 ∷ tells half 1 2 ∷ tells half 1 2 ∷ tells half 1 2 ∷ tells half 1 2
    ∷ tells half 1 2 ∷ tells half 1 2 ∷ tells half 1 2 ∷ tells half 1 2 ∷ tells half 1 2
    ∷ tells half 0 2
    ∷ tells half 0 1
    ∷ []
unfolding of_bits lt le eq set_up11 step_of stepped_of is_in_order
half_then_ones = refl
