-- A list whose elements are replaced in turn, by a loop: what stands in the places passed, and what the rest comes to, stay the whole. Last, a list that is read from its end.
use Rattle.std.proofs.Common.{◌≡◌, ℕ, zero, suc, ◌+◌, ◌<◌, ◌≤◌, List, [], ◌∷◌, ◌++◌, map, reverse, length, get_or, take, drop, set, sym, refl, ap, ◌∙◌, append-nil, add-one, arith, drop_of_length-le, take_all, drop-cons, take-suc-set, drop-set-lt}
use mathlib.Core.List.{reverse_aux, reverse_aux-eq}
use lib.ListN.{length-reverse}
use lib.Seq.{append_snoc, get_or_at}
use lib.Ieee.{Float, nan}

module _ (l : List Float) (i : ℕ) (h : i < length l) where
  pub split : drop i l ≡ get_or l i nan ∷ drop (i + 1) l
  split = rw (add-one i) (drop-cons l i nan h)

  pub kept : (y : Float) → drop (i + 1) (set l i y) ≡ drop (i + 1) l
  kept y = drop-set-lt (i + 1) l i y (omega arith)

  pub stored : (y : Float) (rest : List Float) → take (i + 1) (set l i y) ++ rest ≡ take i l ++ (y ∷ rest)
  stored y rest = rw (add-one i, take-suc-set l i y h) (append_snoc (take i l) y rest)

-- all passed
pub none_left : (l : List Float) (i : ℕ) → length l ≤ i → drop i l ≡ []
none_left l i h = drop_of_length-le l {i = i} h

pub all_stored : (l : List Float) (i : ℕ) → length l ≤ i → take i l ++ [] ≡ l
all_stored l i h = append-nil (take i l) ∙ take_all i l h

-- a list that gets what another comes to, and the other something else
module _ (f : Float → Float) (l m : List Float) (i : ℕ) where
  pub laid_more : (x y : Float) → i < length l → i < length m → x ≡ f (get_or m i nan) → take (i + 1) (set l i x) ++ map f (drop (i + 1) (set m i y)) ≡ take i l ++ map f (drop i m)
  laid_more x y h k e = rw (stored l i h x (map f (drop (i + 1) (set m i y))), kept m i k y, split m i k, e) refl

  pub laid_done : length l ≤ i → length m ≤ i → l ≡ take i l ++ map f (drop i m)
  laid_done h k = rw (none_left m i k) (sym (all_stored l i h))

-- each element by a function
module _ (f : Float → Float) (l : List Float) (i : ℕ) where
  pub map_more : (y : Float) → i < length l → y ≡ f (get_or l i nan) → take (i + 1) (set l i y) ++ map f (drop (i + 1) (set l i y)) ≡ take i l ++ map f (drop i l)
  map_more y h e = laid_more f l l i y y h h e

  pub map_done : length l ≤ i → l ≡ take i l ++ map f (drop i l)
  map_done h = laid_done f l l i h h

-- a list laid in reverse before another, read from its end
pub reversed_at : (l b : List Float) (i k : ℕ) (d : Float) → i + suc k ≡ length l → get_or (reverse_aux l b) k d ≡ get_or l i d
reversed_at [] b i k d h = absurd (omega (arith, h))
reversed_at (x ∷ xs) b zero k d h =
    ap (λ (l : List Float). get_or l k d) (reverse_aux-eq xs (x ∷ b))
    ∙ get_or_at (reverse xs) x b d k (length-reverse xs ∙ omega arith)
reversed_at (x ∷ xs) b (suc i) k d h = reversed_at xs (x ∷ b) i k d (omega arith)
