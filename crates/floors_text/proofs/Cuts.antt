-- The input cut into lines: what its first line is, and what the others are.
use mathlib.Core.Path.{◌≡◌, refl, sym, ap, ◌∙◌}
use mathlib.Core.Bool.{Bool, true, false, cond, ◌&&◌}
use mathlib.Core.List.{List, [], ◌∷◌}
use Prim.Native.Nat.{ℕ, ◌+◌, ◌≤◌, ◌<◌}
use native.Mathlib.Omega.{arith}
use lib.Dec.{eqb, ltb}
use borrow.Author.Tests.{eq-eqb, eqb-true, ltb-true, ltb-false}
use Rattle.std.specs.Prelude.{Option, Some, None}
use Rattle.std.specs.List
use Rattle.std.specs.List.{position_or_len}
use Rattle.arithmetic.proofs.Order.{same_test}
use lib.ListN.{length, take, drop}
use Rattle.floors_text.specs.Lines.{in_front, lines_of, first_of, starts_with}

pub first_front : (b : ℕ) (ls : List (List ℕ)) → first_of (in_front b ls) ≡ b ∷ first_of ls
first_front b [] = refl
first_front b (l ∷ ls) = refl

-- the length of the first line
abbrev pub first_length : List ℕ → ℕ
first_length s = length (first_of (lines_of s))

-- by the place of the first newline
abbrev newline_at : List ℕ → ℕ
newline_at s = position_or_len (λ (b : ℕ). eqb b 10) s

first_at : (s : List ℕ) → (newline_at s < length s → newline_at s + 1 ≡ first_length s) × (length s ≤ newline_at s → length s ≡ first_length s)
first_at [] = (λ h. absurd (omega arith), λ h. refl)
first_at (b ∷ bs) = go (eqb b 10) refl (first_at bs)
  where
    go : (t : Bool) → eqb b 10 ≡ t → (newline_at bs < length bs → newline_at bs + 1 ≡ first_length bs) × (length bs ≤ newline_at bs → length bs ≡ first_length bs)
        → (newline_at (b ∷ bs) < length (b ∷ bs) → newline_at (b ∷ bs) + 1 ≡ first_length (b ∷ bs)) × (length (b ∷ bs) ≤ newline_at (b ∷ bs) → length (b ∷ bs) ≡ first_length (b ∷ bs))
    go true e h = rw e (λ k. omega arith, λ k. absurd (omega arith))
    go false e h = rw (e, first_front b (lines_of bs)) (λ k. omega (arith, h.0 (omega arith)), λ k. omega (arith, h.1 (omega arith)))

module _ (s : List ℕ) (r : Option ℕ) (found : r ≡ cond (ltb (newline_at s) (length s)) (Some (newline_at s)) None) where
  pub first_found : (i : ℕ) → r ≡ Some i → i + 1 ≡ first_length s
  first_found i e = go (ltb (newline_at s) (length s)) refl (sym found ∙ e)
    where
      go : (t : Bool) → ltb (newline_at s) (length s) ≡ t → cond t (Some (newline_at s)) None ≡ Some i → i + 1 ≡ first_length s
      go true k h = let n : newline_at s ≡ i = cc in omega (arith, (first_at s).0 (ltb-true (newline_at s) (length s) k))
      go false k h = absurd (cc)

  pub first_missing : r ≡ None → length s ≡ first_length s
  first_missing e = go (ltb (newline_at s) (length s)) refl (sym found ∙ e)
    where
      go : (t : Bool) → ltb (newline_at s) (length s) ≡ t → cond t (Some (newline_at s)) None ≡ None → length s ≡ first_length s
      go true k h = absurd (cc)
      go false k h = (first_at s).1 (ltb-false (newline_at s) (length s) k)

-- the first line is the input's first bytes
pub first_take : (s : List ℕ) → first_of (lines_of s) ≡ take (first_length s) s
first_take [] = refl
first_take (b ∷ bs) = go (eqb b 10) refl (first_take bs)
  where
    go : (t : Bool) → eqb b 10 ≡ t → first_of (lines_of bs) ≡ take (first_length bs) bs → first_of (lines_of (b ∷ bs)) ≡ take (first_length (b ∷ bs)) (b ∷ bs)
    go true e h = rw e refl
    go false e h = rw (e, first_front b (lines_of bs)) (ap {B = List ℕ} (λ l. b ∷ l) h)

pub first_within : (s : List ℕ) → first_length s ≤ length s
first_within [] = omega arith
first_within (b ∷ bs) = go (eqb b 10) refl (first_within bs)
  where
    go : (t : Bool) → eqb b 10 ≡ t → first_length bs ≤ length bs → first_length (b ∷ bs) ≤ length (b ∷ bs)
    go true e h = rw e (omega arith)
    go false e h = rw (e, first_front b (lines_of bs)) (omega arith)

pub first_some : (s : List ℕ) → 0 < length s → 0 < first_length s
first_some [] h = h
first_some (b ∷ bs) h = go (eqb b 10) refl
  where
    go : (t : Bool) → eqb b 10 ≡ t → 0 < first_length (b ∷ bs)
    go true e = rw e (omega arith)
    go false e = rw (e, first_front b (lines_of bs)) (omega arith)

-- the other lines are those of what stands behind the first
pub lines_cut : (s : List ℕ) → 0 < length s → lines_of s ≡ first_of (lines_of s) ∷ lines_of (drop (first_length s) s)
lines_cut [] h = let z : ◌≡◌ {A = ℕ} 0 1 = omega arith in absurd (omega arith)
lines_cut (b ∷ []) h = go (eqb b 10) refl
  where
    go : (t : Bool) → eqb b 10 ≡ t → lines_of (b ∷ []) ≡ first_of (lines_of (b ∷ [])) ∷ lines_of (drop (first_length (b ∷ [])) (b ∷ []))
    go true e = rw e refl
    go false e = rw e refl
lines_cut (b ∷ c ∷ bs) h = go (eqb b 10) refl (lines_cut (c ∷ bs) (omega arith))
  where
    go : (t : Bool) → eqb b 10 ≡ t → lines_of (c ∷ bs) ≡ first_of (lines_of (c ∷ bs)) ∷ lines_of (drop (first_length (c ∷ bs)) (c ∷ bs))
        → lines_of (b ∷ c ∷ bs) ≡ first_of (lines_of (b ∷ c ∷ bs)) ∷ lines_of (drop (first_length (b ∷ c ∷ bs)) (b ∷ c ∷ bs))
    go true e k = rw e refl
    go false e k = rw (e, first_front b (lines_of (c ∷ bs))) (ap {B = List (List ℕ)} (in_front b) k)

-- ---- a word at the start of a line
same_byte : (a b : ℕ) → eqb a b ≡ eqb b a
same_byte a b = same_test (eqb a b) (eqb b a) (λ h. eq-eqb b a (sym (eqb-true a b h))) (λ h. eq-eqb a b (sym (eqb-true b a h)))

pub starts_is : (word line : List ℕ) → List.starts_with eqb line word ≡ starts_with word line
starts_is [] line = refl
starts_is (w ∷ ws) [] = refl
starts_is (w ∷ ws) (b ∷ bs) = rw (same_byte w b) (ap (λ (t : Bool). eqb b w && t) (starts_is ws bs))
