-- The ring in the stores, on plain values: places, the entry at each end, and what a store at the append place does.
use mathlib.Core.Path.{◌≡◌, refl, sym, ap, ◌∙◌}
use mathlib.Core.Logic.{◌⊎◌, inl, inr, ◌≢◌}
use mathlib.Core.Bool.{Bool, true, false}
use mathlib.Core.List.{List, [], ◌∷◌, ◌++◌}
use Prim.Native.Nat.{ℕ, zero, suc, ◌+◌, ◌-◌, ◌≤◌, ◌<◌}
use native.Mathlib.Nat.{add-zero}
use native.Mathlib.Omega.{arith}
use lib.Dec.{ltb}
use lib.ListN.{length, set}
use lib.Seq.{get_or-set_same, get_or-set_other}
use lib.Ieee.{Float, nan}
use borrow.Author.Tests.{ltb-true, ltb-false, lt-ltb, le-ltb}
use Rattle.keeper.specs.Ring.{wrap, entry_at, ring_of, front_of}

-- ---- places
pub wrap_in : (cap i : ℕ) → i < cap → wrap cap i ≡ i
wrap_in cap i h = rw (lt-ltb i cap h) refl

pub wrap_out : (cap i : ℕ) → cap ≤ i → wrap cap i ≡ i - cap
wrap_out cap i h = rw (le-ltb i cap h) refl

pub wrap_cases : (cap i : ℕ) → ((i < cap) × (wrap cap i ≡ i)) ⊎ ((cap ≤ i) × (wrap cap i ≡ i - cap))
wrap_cases cap i = go (ltb i cap) refl
  where
    go : (b : Bool) → ltb i cap ≡ b → ((i < cap) × (wrap cap i ≡ i)) ⊎ ((cap ≤ i) × (wrap cap i ≡ i - cap))
    go true e = let h = ltb-true i cap e in inl (h, wrap_in cap i h)
    go false e = let h = ltb-false i cap e in inr (h, wrap_out cap i h)

pub wrap_below : (cap i : ℕ) → i < cap + cap → wrap cap i < cap
wrap_below cap i h = elim (wrap_cases cap i) [ inl w ↦ omega arith | inr w ↦ omega arith ]

-- the place of the back of n entries, and that of the front when `left` of n are left
pub back_inside : (cap head n back : ℕ) → back ≡ wrap cap (head + n - 1) → head < cap → n ≤ cap → back < cap
back_inside cap head n back at hh hn = rw at (wrap_below cap (head + n - 1) (omega arith))

pub front_inside : (cap head n left front : ℕ) → front ≡ wrap cap (head + (n - left)) → head < cap → n ≤ cap → front < cap
front_inside cap head n left front at hh hn = rw at (wrap_below cap (head + (n - left)) (omega arith))

-- a place and a way on from it
pub wrap_wrap : (cap a b : ℕ) → a + b < cap + cap → wrap cap (wrap cap a + b) ≡ wrap cap (a + b)
wrap_wrap cap a b h = elim (wrap_cases cap a) [
  | inl w ↦ ap (λ (n : ℕ). wrap cap (n + b)) w.1
  | inr w ↦ ap (λ (n : ℕ). wrap cap (n + b)) w.1 ∙ wrap_in cap (a - cap + b) (omega arith) ∙ sym (wrap_out cap (a + b) (omega arith) ∙ shift w)
]
  where
    shift : (cap ≤ a) × (wrap cap a ≡ a - cap) → a + b - cap ≡ a - cap + b
    shift w = omega arith

-- two entries of a ring lie apart
pub wrap_apart : (cap head j n : ℕ) → head < cap → n < cap → j < n → wrap cap (head + j) ≢ wrap cap (head + n)
wrap_apart cap head j n hh hn hj e = elim (wrap_cases cap (head + j)) [
  | inl v ↦ elim (wrap_cases cap (head + n)) [ inl w ↦ omega arith | inr w ↦ omega arith ]
  | inr v ↦ elim (wrap_cases cap (head + n)) [ inl w ↦ omega arith | inr w ↦ omega arith ]
]

-- ---- the ends of a ring
module _ (cap : ℕ) (marks : List ℕ) (minima : List Float) where
  pub ring_length : (head n : ℕ) → length (ring_of cap marks minima head n) ≡ n
  ring_length head zero = refl
  ring_length head (suc n) = ap suc (ring_length head n)

  -- the back, as the code counts
  pub ring_back : (head n : ℕ) → 0 < n → ring_of cap marks minima head n ≡ entry_at marks minima (wrap cap (head + (n - 1))) ∷ ring_of cap marks minima head (n - 1)
  ring_back head zero h = absurd (omega arith)
  ring_back head (suc n) h = rw down refl
    where
      down : suc n - 1 ≡ n
      down = omega arith

  -- the front
  pub ring_front : (head n : ℕ) → head < cap → n < cap → ring_of cap marks minima head (suc n) ≡ ring_of cap marks minima (wrap cap (head + 1)) n ++ (entry_at marks minima head ∷ [])
  ring_front head zero hh hn = rw (add-zero head, wrap_in cap head hh) refl
  ring_front head (suc n) hh hn =
      rw (← ring_front head n hh (omega arith), wrap_wrap cap (head + 1) n (omega arith), next) refl
    where
      next : head + 1 + n ≡ head + suc n
      next = omega arith

  pub front_place : (head n : ℕ) → head < cap → front_of (entry_at marks minima (wrap cap (head + n))) (ring_of cap marks minima head n) ≡ entry_at marks minima head
  front_place head zero hh = rw (add-zero head, wrap_in cap head hh) refl
  front_place head (suc n) hh = front_place head n hh

-- ---- a store at the append place
module _ (cap : ℕ) (marks : List ℕ) (minima : List Float) (place mark : ℕ) (gain : Float) where
  -- elsewhere nothing changes
  apart : (head n : ℕ) → ((j : ℕ) → j < n → wrap cap (head + j) ≢ place) → ring_of cap (set marks place mark) (set minima place gain) head n ≡ ring_of cap marks minima head n
  apart head zero h = refl
  apart head (suc n) h =
      rw (apart head n (λ j k. h j (omega arith)), get_or-set_other marks place (wrap cap (head + n)) mark 0 (h n (omega arith)), get_or-set_other minima place (wrap cap (head + n)) gain nan (h n (omega arith))) refl

pub ring_append : (cap head n mark : ℕ) (marks : List ℕ) (minima : List Float) (gain : Float) → head < cap → n < cap → length marks ≡ cap → length minima ≡ cap →
    ring_of cap (set marks (wrap cap (head + n)) mark) (set minima (wrap cap (head + n)) gain) head (suc n) ≡ record { mark = mark; minimum = gain } ∷ ring_of cap marks minima head n
ring_append cap head n mark marks minima gain hh hn lm lv =
    let p = wrap_below cap (head + n) (omega arith) in
    rw (apart cap marks minima (wrap cap (head + n)) mark gain head n (λ j k. wrap_apart cap head j n hh hn k), get_or-set_same marks (wrap cap (head + n)) mark 0 (omega arith), get_or-set_same minima (wrap cap (head + n)) gain nan (omega arith)) refl
