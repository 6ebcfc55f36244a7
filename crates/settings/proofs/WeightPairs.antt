-- The loops over the first half of the weights: where the test passes at each of its places the clause holds of the list, and one place that fails refutes it.
use Rattle.std.proofs.Common.{◌≡◌, ℕ, zero, suc, ◌+◌, ◌-◌, ◌/◌, ◌<◌, ◌≤◌, Bool, true, false, ltb, leb, List, [], ◌∷◌, reverse, length, get_or, take, sym, refl, ap, ◌∙◌, add-one, arith, length-take, length-take-le, get_or-take, ltb-false, ltb-true, le-leb}
use Rattle.std.specs.List.{IsAllAdjacentAnswer}
use mathlib.Core.Bool.{and_comm, and-false}
use native.Mathlib.Nat.{min-le_left}
use lib.ListN.{length-reverse}
use lib.Ieee.{Float, nan, lt}
use Rattle.arithmetic.proofs.Order.{and-true}
use Rattle.arithmetic.proofs.InTurn.{reversed_at}
use Rattle.settings.specs.Weights.{in_unit, part_of, all_in_unit, near, parts_near, mirrored, rising, first_half}

pub unit_at : (ws : List Float) (i : ℕ) → all_in_unit ws ≡ true → i < length ws → in_unit (get_or ws i nan) ≡ true
unit_at [] i h l = absurd (omega arith)
unit_at (w ∷ ws) zero h l = (and-true (in_unit w) (all_in_unit ws) h).0
unit_at (w ∷ ws) (suc i) h l = unit_at ws i (and-true (in_unit w) (all_in_unit ws) h).1 (omega arith)

pub each_unit : (ws : List Float) → ((i : ℕ) → i < length ws → in_unit (get_or ws i nan) ≡ true) → all_in_unit ws ≡ true
each_unit [] h = refl
each_unit (w ∷ ws) h = rw (h 0 (omega arith)) (each_unit ws (λ i l. h (suc i) (omega arith)))

-- what a loop has found out: the test passed at each place before this one
abbrev pub Before : (ℕ → Bool) → ℕ → Type 0
Before test i = (k : ℕ) → k < i → test k ≡ true

-- ---- mirrored places
abbrev pub near_at : List Float → ℕ → Bool
near_at ws i = near (part_of (get_or ws i nan)) (part_of (get_or ws (length ws - 1 - i) nan)) 4096

each_near : (ws us : List Float) → Before (λ i. near (part_of (get_or ws i nan)) (part_of (get_or us i nan)) 4096) (length ws) → parts_near ws us ≡ true
each_near [] us h = refl
each_near (w ∷ ws) [] h = refl
each_near (w ∷ ws) (u ∷ us) h = rw (h 0 (omega arith)) (each_near ws us (λ i l. h (suc i) (omega arith)))

one_far : (ws us : List Float) (i : ℕ) → i < length ws → i < length us → near (part_of (get_or ws i nan)) (part_of (get_or us i nan)) 4096 ≡ false → parts_near ws us ≡ false
one_far [] us i l m f = absurd (omega arith)
one_far (w ∷ ws) [] i l m f = absurd (omega arith)
one_far (w ∷ ws) (u ∷ us) zero l m f = rw f refl
one_far (w ∷ ws) (u ∷ us) (suc i) l m f = rw (one_far ws us i (omega arith) (omega arith) f) (and-false (near (part_of w) (part_of u) 4096))

pub both_near : (a b d : ℕ) → a ≤ b + d → b ≤ a + d → near a b d ≡ true
both_near a b d h k = rw (le-leb a (b + d) h, le-leb b (a + d) k) refl

module _ (ws : List Float) where
  at_mirror : (i : ℕ) → i < length ws → get_or (reverse ws) i nan ≡ get_or ws (length ws - 1 - i) nan
  at_mirror i l = reversed_at ws [] (length ws - 1 - i) i nan (omega arith)

  pub far_apart : (i : ℕ) → i < length ws → near_at ws i ≡ false → false ≡ mirrored ws
  far_apart i l f = sym (one_far ws (reverse ws) i l (rw (length-reverse ws) l) (rw (at_mirror i l) f))

  -- a place past the middle is the mirror of one before it
  other_half : (i k : ℕ) → length ws / 2 ≤ i → Before (near_at ws) i → k < length ws → near_at ws k ≡ true
  other_half i k e h l = go (ltb k i) refl (ltb (length ws - 1 - k) i) refl
    where
      back : length ws - 1 - (length ws - 1 - k) ≡ k
      back = omega arith

      go : (b : Bool) → ltb k i ≡ b → (c : Bool) → ltb (length ws - 1 - k) i ≡ c → near_at ws k ≡ true
      go true t c u = h k (ltb-true k i t)
      go false t true u =
          let a = part_of (get_or ws k nan) in
          let b = part_of (get_or ws (length ws - 1 - k) nan) in
          and_comm (leb a (b + 4096)) (leb b (a + 4096)) ∙ (rw back at (h (length ws - 1 - k) (ltb-true (length ws - 1 - k) i u)))
      go false t false u =
          let middle : length ws - 1 - k ≡ k = omega (arith, ltb-false k i t, ltb-false (length ws - 1 - k) i u) in
          let a = part_of (get_or ws k nan) in
          rw middle (both_near a a 4096 (omega arith) (omega arith))

  pub all_near : (i : ℕ) → length ws / 2 ≤ i → Before (near_at ws) i → true ≡ mirrored ws
  all_near i e h = sym (each_near ws (reverse ws) (λ k l. rw (at_mirror k l) (other_half i k e h l)))

-- ---- the rise
abbrev pub rises_at : List Float → ℕ → Bool
rises_at ws i = lt (get_or ws i nan) (get_or ws (i + 1) nan)

each_rises : (us : List Float) → ((i : ℕ) → suc i < length us → lt (get_or us i nan) (get_or us (suc i) nan) ≡ true) → rising us ≡ true
each_rises [] h = refl
each_rises (v ∷ []) h = refl
each_rises (v ∷ w ∷ us) h = rw (h 0 (omega arith)) (each_rises (w ∷ us) (λ i l. h (suc i) (omega arith)))

one_falls : (us : List Float) (i : ℕ) → suc i < length us → lt (get_or us i nan) (get_or us (suc i) nan) ≡ false → rising us ≡ false
one_falls [] i l f = absurd (omega arith)
one_falls (v ∷ []) i l f = absurd (omega arith)
one_falls (v ∷ w ∷ us) zero l f = rw f refl
one_falls (v ∷ w ∷ us) (suc i) l f = rw (one_falls (w ∷ us) i (omega arith) f) (and-false (lt v w))

-- what `is_sorted_by` answers of a list
told : (us : List Float) (b : Bool) → IsAllAdjacentAnswer (λ v w c. c ≡ lt v w) us b → b ≡ rising us
told us true h = sym (each_rises us (λ i l. rw add-one at (sym (h i nan (omega arith)))))
told us false h = sym (one_falls us h.0 (omega (arith, h.1)) (rw add-one at (sym (h.2 nan))))

-- the first half, by its length
same_half : (ws : List Float) (n : ℕ) → n ≡ (length ws + 1) / 2 → take n ws ≡ first_half ws
same_half [] n h = rw h refl
same_half (w ∷ ws) n h = let e : n ≡ (length (w ∷ ws) - 1) / 2 + 1 = omega arith in ap (λ n. take n (w ∷ ws)) e

pub half_told : (ws : List Float) (n : ℕ) (b : Bool) → n ≡ (length ws + 1) / 2 → IsAllAdjacentAnswer (λ v w c. c ≡ lt v w) (take n ws) b → b ≡ rising (first_half ws)
half_told ws n b e h = told _ b h ∙ ap rising (same_half ws n e)

module _ (ws : List Float) where
  abbrev places : ℕ
  places = (length ws - 1) / 2 + 1

  -- the first half's places are the list's
  here : (i : ℕ) → suc i < places → lt (get_or (first_half ws) i nan) (get_or (first_half ws) (suc i) nan) ≡ rises_at ws i
  here i l = rw (add-one i, get_or-take places ws i nan (omega arith), get_or-take places ws (suc i) nan l) refl

  few : length (first_half ws) ≤ places
  few = rw (length-take places ws) (min-le_left places (length ws))

  pub falls : (i : ℕ) → i + 1 < (length ws + 1) / 2 → rises_at ws i ≡ false → false ≡ rising (first_half ws)
  falls i l f = sym (one_falls (first_half ws) i (rw (length-take-le places ws (omega arith)) (omega arith)) (here i (omega arith) ∙ f))

  pub all_rise : (i : ℕ) → (length ws + 1) / 2 ≤ i + 1 → Before (rises_at ws) i → true ≡ rising (first_half ws)
  all_rise i e h = sym (each_rises (first_half ws) (λ k l. here k (omega (arith, few)) ∙ h k (omega (arith, few))))
