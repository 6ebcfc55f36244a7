-- The turns of the loops over a run's frames: what stands in the places passed, and what the rest comes to, stay the whole.
use mathlib.Core.Path.{◌≡◌, refl, sym, ap, ◌∙◌}
use mathlib.Core.Bool.{Bool}
use mathlib.Core.List.{List, ◌∷◌, ◌++◌}
use Prim.Native.Nat.{ℕ, zero, suc, ◌+◌, ◌≤◌, ◌<◌}
use native.Mathlib.Omega.{arith}
use lib.ListN.{length, get_or, set, take, drop, replicate}
use lib.Ieee.{Float, nan}
use Rattle.arithmetic.proofs.InTurn.{split, kept, stored, none_left, all_stored}
use Rattle.frame.specs.Frame.{heard, given_out}
use Rattle.frame.specs.Passes.{heard_all, products_of}

-- ---- a channel's share in the peaks
module _ (counts : Bool) (l xs answers : List Float) (i : ℕ) where
  pub heard_more : (y : Float) → i < length l → i < length xs → i < length answers → y ≡ heard counts (get_or l i nan) (get_or xs i nan) (get_or answers i nan)
      → take (i + 1) (set l i y) ++ heard_all counts (drop (i + 1) (set l i y)) (drop (i + 1) xs) (drop (i + 1) answers) ≡ take i l ++ heard_all counts (drop i l) (drop i xs) (drop i answers)
  unfolding heard_all
  heard_more y h k m e =
      stored l i h y (heard_all counts (drop (i + 1) (set l i y)) (drop (i + 1) xs) (drop (i + 1) answers))
      ∙ rw (kept l i h y, split l i h, split xs i k, split answers i m, e) refl

  pub heard_done : length l ≤ i → l ≡ take i l ++ heard_all counts (drop i l) (drop i xs) (drop i answers)
  unfolding heard_all
  heard_done h = rw (none_left l i h) (sym (all_stored l i h))

-- ---- outputs
module _ (leaves : Float → Float) (gains l : List Float) (i : ℕ) where
  pub products_more : (y : Float) → i < length l → i < length gains → y ≡ given_out leaves (get_or l i nan) (get_or gains i nan)
      → take (i + 1) (set l i y) ++ products_of leaves (drop (i + 1) gains) (drop (i + 1) (set l i y)) ≡ take i l ++ products_of leaves (drop i gains) (drop i l)
  unfolding products_of
  products_more y h k e =
      stored l i h y (products_of leaves (drop (i + 1) gains) (drop (i + 1) (set l i y)))
      ∙ rw (kept l i h y, split l i h, split gains i k, e) refl

  pub products_done : length l ≤ i → length gains ≤ i → l ≡ take i l ++ products_of leaves (drop i gains) (drop i l)
  unfolding products_of
  products_done h k = rw (none_left gains i k) (sym (all_stored l i h))

-- ---- the first n of a fresh array
pub first_of : (n k : ℕ) (x : Float) → n ≤ k → take n (replicate k x) ≡ replicate n x
first_of zero k x h = refl
first_of (suc n) zero x h = absurd (omega arith)
first_of (suc n) (suc k) x h = ap (λ (l : List Float). x ∷ l) (first_of n k x (omega arith))
