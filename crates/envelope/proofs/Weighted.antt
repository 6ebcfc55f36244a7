-- The weighted sum goes floor by floor, and over two parts of the row one after the other.
use mathlib.Core.Path.{◌≡◌, refl, sym, ap, ◌∙◌}
use mathlib.Core.Bool.{Bool, cond}
use mathlib.Core.List.{List, [], ◌∷◌, ◌++◌}
use Prim.Native.Nat.{ℕ, zero, suc, ◌+◌, ◌-◌, ◌≤◌, ◌<◌}
use native.Mathlib.Numerals.{add-one}
use native.Mathlib.Omega.{arith}
use lib.ListN.{length, get_or, take, drop, length-drop}
use lib.Seq.{drop-cons, get_or-take, get_or-drop, take_all, length-take-le}
use lib.Dec.{eqb}
use lib.Ieee.{Float, nan, binary64, add, mul}
use borrow.Author.Tests.{eq-eqb, ne_eqb}
use Rattle.arithmetic.specs.Number
use Rattle.arithmetic.specs.Number.{one}
use Rattle.envelope.specs.Row.{down, newest_first, tally_of}
use Rattle.envelope.specs.Mean.{is_all_one, weighted_from, mean_of}
use Rattle.envelope.proofs.Tally.{tally_newest, all_one}

-- one floor more
pub next : (sum : Float) (ws : List Float) (at : ℕ) (row : List Float) (from left : ℕ) → at < length ws → 0 < left
    → weighted_from sum (drop at ws) (down row from left)
    ≡ weighted_from (add binary64 sum (mul binary64 (get_or ws at nan) (get_or row (from + (left - 1)) nan))) (drop (at + 1) ws) (down row from (left - 1))
next sum ws at row from zero h l = absurd (omega arith)
next sum ws at row from (suc left) h l =
    let e : suc left - 1 ≡ left = omega arith in
    rw (e, add-one at, drop-cons ws at nan h) refl

-- the same from the row's start, as the code counts
pub weighted_more : (sum : Float) (ws row : List Float) (i n : ℕ) → i < length ws → i < n
    → weighted_from (add binary64 sum (mul binary64 (get_or ws i nan) (get_or row (n - 1 - i) nan))) (drop (i + 1) ws) (down row 0 (n - (i + 1))) ≡ weighted_from sum (drop i ws) (down row 0 (n - i))
weighted_more sum ws row i n h l =
    let e : n - 1 - i ≡ 0 + (n - i - 1) = omega arith in
    let f : n - (i + 1) ≡ n - i - 1 = omega arith in
    rw (e, f) (sym (next sum ws i row 0 (n - i) h (omega arith)))

pub length_down : (row : List Float) (from n : ℕ) → length (down row from n) ≡ n
length_down row from zero = refl
length_down row from (suc n) = ap suc (length_down row from n)

-- two parts
pub joined : (acc : Float) (ws xs ys : List Float) → length xs ≤ length ws → weighted_from acc ws (xs ++ ys) ≡ weighted_from (weighted_from acc ws xs) (drop (length xs) ws) ys
joined acc ws [] ys h = refl
joined acc [] (x ∷ xs) ys h = absurd (omega arith)
joined acc (w ∷ ws) (x ∷ xs) ys h = joined (add binary64 acc (mul binary64 w x)) ws xs ys (omega arith)

-- ---- the mean
-- the tally tells a row of nothing but 1, read newest first too
pub newest_all_one : (row : List Float) (pos : ℕ) → pos ≤ length row → is_all_one (newest_first pos row) ≡ eqb (tally_of row) 0
newest_all_one row pos h = all_one (newest_first pos row) ∙ ap (λ (n : ℕ). eqb n 0) (tally_newest row pos h)

pub mean_one : (weights row : List Float) (pos : ℕ) → pos ≤ length row → tally_of row ≡ 0 → one ≡ mean_of weights (newest_first pos row)
unfolding mean_of
mean_one weights row pos h e =
    sym (ap (λ (b : Bool). cond b one (weighted_from Number.zero weights (newest_first pos row))) (newest_all_one row pos h ∙ eq-eqb (tally_of row) 0 e))

-- ---- both parts, as the code lends them
down_front : (row : List Float) (pos n : ℕ) → n ≤ pos → down (take pos row) 0 n ≡ down row 0 n
down_front row pos zero h = refl
down_front row pos (suc n) h = rw (get_or-take pos row (0 + n) nan (omega arith), down_front row pos n (omega arith)) refl

down_behind : (row : List Float) (pos n : ℕ) → down (drop pos row) 0 n ≡ down row pos n
down_behind row pos zero = refl
down_behind row pos (suc n) =
    let e : 0 + n ≡ n = omega arith in
    rw (e, get_or-drop pos row n nan, down_behind row pos n) refl

-- weights past the floors play no part
weighted_take : (acc : Float) (ws fs : List Float) (n : ℕ) → length fs ≤ n → weighted_from acc (take n ws) fs ≡ weighted_from acc ws fs
weighted_take acc ws [] n h = refl
weighted_take acc ws (f ∷ fs) zero h = absurd (omega arith)
weighted_take acc [] (f ∷ fs) (suc n) h = refl
weighted_take acc (w ∷ ws) (f ∷ fs) (suc n) h = weighted_take (add binary64 acc (mul binary64 w f)) ws fs n (omega arith)

module _ (weights row : List Float) (pos : ℕ) (h : pos ≤ length row) (l : length weights ≡ length row) where
  newer_is : (acc : Float) → weighted_from acc (take pos weights) (down (take pos row) 0 (length (take pos row))) ≡ weighted_from acc weights (down row 0 pos)
  newer_is acc =
      rw (length-take-le pos row h, down_front row pos pos (omega arith))
      (weighted_take acc weights (down row 0 pos) pos (let d = length_down row 0 pos in omega arith))

  older_is : (acc : Float) → weighted_from acc (take (length weights - pos) (drop pos weights)) (down (take (length row - pos) (drop pos row)) 0 (length (take (length row - pos) (drop pos row))))
      ≡ weighted_from acc (drop pos weights) (down row pos (length row - pos))
  older_is acc =
      let d = length-drop pos row in
      let w = length-drop pos weights in
      rw (take_all (length weights - pos) (drop pos weights) (omega arith), take_all (length row - pos) (drop pos row) (omega arith), d, down_behind row pos (length row - pos)) refl

  -- the mean is the left fold over the row newest first, whatever its position
  pub mean_parts : (a b : Float) → (tally_of row ≡ 0 → ⊥)
      → a ≡ weighted_from Number.zero (take pos weights) (down (take pos row) 0 (length (take pos row)))
      → b ≡ weighted_from a (take (length weights - pos) (drop pos weights)) (down (take (length row - pos) (drop pos row)) 0 (length (take (length row - pos) (drop pos row))))
      → b ≡ mean_of weights (newest_first pos row)
  unfolding mean_of
  mean_parts a b n p q =
      let d = length_down row 0 pos in
      let p' : a ≡ weighted_from Number.zero weights (down row 0 pos) = p ∙ newer_is Number.zero in
      q
      ∙ older_is a
      ∙ rw (newest_all_one row pos h ∙ ne_eqb (tally_of row) 0 n)
      (rw (joined Number.zero weights (down row 0 pos) (down row pos (length row - pos)) (omega arith), d, p') refl)

-- both parts, from what the code finds: the mean is the left fold over the row newest first, whatever its position
pub mean_sum : (weights row : List Float) (pos : ℕ) (a b : Float) → pos ≤ length row → length weights ≡ length row → (tally_of row ≡ 0 → ⊥)
    → a ≡ weighted_from Number.zero weights (down row 0 pos) → b ≡ weighted_from a (drop pos weights) (down row pos (length row - pos)) → b ≡ mean_of weights (newest_first pos row)
unfolding mean_of
mean_sum weights row pos a b h l n p q =
    let d = length_down row 0 pos in
    q
    ∙ rw (newest_all_one row pos h ∙ ne_eqb (tally_of row) 0 n)
    (rw (joined Number.zero weights (down row 0 pos) (down row pos (length row - pos)) (omega arith), d, p) refl)
