-- One turn of each loop, on plain values.
use native.Mathlib.Numerals.{add-one}
use lib.Seq.{drop-length}
use mathlib.Core.Path.{◌≡◌, refl, sym, ap, ◌∙◌}
use mathlib.Core.Bool.{Bool, true, false, ◌&&◌}
use mathlib.Core.List.{List, [], ◌∷◌, ◌++◌, append-nil}
use Prim.Native.Nat.{ℕ, zero, suc, ◌+◌, ◌-◌, ◌≤◌, ◌<◌}
use native.Mathlib.Omega.{arith}
use lib.Dec.{leb, eqb}
use lib.ListN.{get_or, length, set, drop, replicate, length-set}
use lib.Ieee.{Float, nan, lt}
use borrow.Author.Tests.{lt-ltb, le-ltb, leb-true, le-leb, eq-eqb}
use Rattle.keeper.specs.Ring.{Entry, wrap, entry_at, ring_of, drop_back, drop_front}
use Rattle.keeper.specs.InOrder.{rising, less_mark, less_minimum, last_mark, first_mark}
use Rattle.arithmetic.proofs.Order.{same_test}
use Rattle.keeper.proofs.Places.{wrap_below, wrap_wrap, ring_back, ring_front, front_place}
use Rattle.keeper.proofs.Drops.{back_goes, front_kept, front_dropped}

-- ---- drop_back: the entry at the back of `left` ones goes
pub back_turn : (cap : ℕ) (marks : List ℕ) (minima : List Float) (head left at : ℕ) (gain : Float) → 0 < left → at ≡ wrap cap (head + (left - 1)) → lt (get_or minima at nan) gain ≡ false
    → drop_back gain (ring_of cap marks minima head left) ≡ drop_back gain (ring_of cap marks minima head (left - 1))
back_turn cap marks minima head zero at gain some e h = absurd (omega arith)
back_turn cap marks minima head (suc n) at gain some e h =
    let k : suc n - 1 ≡ n = omega arith in
    let place : at ≡ wrap cap (head + n) = e ∙ ap (λ (m : ℕ). wrap cap (head + m)) k in
    rw k (back_goes gain (entry_at marks minima (wrap cap (head + n))) (ring_of cap marks minima head n) (rw place at h))

-- ---- drop_front: the entry at the front of those that are left stays or goes
module _ (look head len frame : ℕ) (marks : List ℕ) (inside : head ≤ look) (few : len ≤ look + 1) (n at next : ℕ) (some : n < len) (place : at ≡ wrap (look + 1) (head + n)) (on : next ≡ wrap (look + 1) (at + 1)) where
  -- the entries behind the first n, and those behind one more
  abbrev here : List Float → List Entry
  here minima = ring_of (look + 1) marks minima at (len - n)

  abbrev behind : List Float → List Entry
  behind minima = ring_of (look + 1) marks minima next (len - (n + 1))

  front_first : (minima : List Float) → here minima ≡ behind minima ++ (entry_at marks minima at ∷ [])
  front_first minima =
      let left : len - n ≡ suc (len - (n + 1)) = omega arith in
      let k : at < look + 1 = rw place (wrap_below (look + 1) (head + n) (omega arith)) in
      rw (left, on) (ring_front (look + 1) marks minima at (len - (n + 1)) k (omega arith))

  pub front_done : frame - look ≤ get_or marks at 0 → (minima : List Float) → here minima ≡ drop_front look frame (here minima)
  front_done h minima =
      let e = front_first minima in
      e ∙ sym (ap (drop_front look frame) e ∙ front_kept look frame (behind minima) (entry_at marks minima at) (le-ltb look (frame - get_or marks at 0) (omega arith)))

  pub front_turn : get_or marks at 0 < frame - look → (minima : List Float) → drop_front look frame (behind minima) ≡ drop_front look frame (here minima)
  front_turn h minima =
      sym (ap (drop_front look frame) (front_first minima) ∙ front_dropped look frame (behind minima) (entry_at marks minima at) (lt-ltb look (frame - get_or marks at 0) (omega arith)))

  pub front_on : next ≡ wrap (look + 1) (head + (n + 1))
  front_on =
      let e : head + n + 1 ≡ head + (n + 1) = omega arith in
      on ∙ ap (λ (p : ℕ). wrap (look + 1) (p + 1)) place ∙ wrap_wrap (look + 1) (head + n) 1 (omega arith) ∙ ap (wrap (look + 1)) e

-- ---- entries_rise
-- both orders rise
abbrev pub rises : List Entry → Bool
rises ring = rising less_mark ring && rising less_minimum ring

pub rises_none : (cap : ℕ) (marks : List ℕ) (minima : List Float) (head left : ℕ) → left ≤ 1 → true ≡ rises (ring_of cap marks minima head left)
rises_none cap marks minima head zero h = refl
rises_none cap marks minima head (suc zero) h = refl
rises_none cap marks minima head (suc (suc n)) h = absurd (omega arith)

-- ---- ends_fit
module _ (look head len last frame : ℕ) (marks : List ℕ) (minima : List Float) (inside : head ≤ look) (some : 0 < len) (at : last ≡ wrap (look + 1) (head + (len - 1))) where
  pub last-is : last_mark frame (ring_of (look + 1) marks minima head len) ≡ eqb (get_or marks last 0 + 1) frame
  last-is = rw (ring_back (look + 1) marks minima head len some, ← at) refl

  pub first-is : first_mark look frame (ring_of (look + 1) marks minima head len) ≡ leb frame (get_or marks head 0 + look + 1)
  first-is = go len some
    where
      go : (n : ℕ) → 0 < n → first_mark look frame (ring_of (look + 1) marks minima head n) ≡ leb frame (get_or marks head 0 + look + 1)
      go zero h = absurd (omega arith)
      go (suc n) h = rw (front_place (look + 1) marks minima head n (omega arith)) refl

  abbrev ring : List Entry
  ring = ring_of (look + 1) marks minima head len

  pub ends_same : (since : ℕ) → since ≡ frame - (look + 1) → (frame ≡ 0 → ⊥) → get_or marks last 0 ≡ frame - 1 → leb since (get_or marks head 0) ≡ (last_mark frame ring && first_mark look frame ring)
  ends_same since e p q = sym (rw (last-is, first-is, eq-eqb (get_or marks last 0 + 1) frame (omega arith)) back)
    where
      back : leb frame (get_or marks head 0 + look + 1) ≡ leb since (get_or marks head 0)
      back =
          same_test (leb frame (get_or marks head 0 + look + 1)) (leb since (get_or marks head 0))
          (λ h. le-leb since (get_or marks head 0) (omega (arith, leb-true frame (get_or marks head 0 + look + 1) h)))
          (λ h. le-leb frame (get_or marks head 0 + look + 1) (omega (arith, leb-true since (get_or marks head 0) h)))

-- ---- the first i places of a list hold one value
pub record Cleared {A : Type 0} (v : A) (old now : List A) (i : ℕ) : Type 0 where
  pub filled : now ≡ replicate i v ++ drop i old
  pub upto : i ≤ length old
  pub long : length now ≡ length old

module _ {A : Type 0} (v : A) where
  pub clear_start : (old : List A) → Cleared v old old 0
  clear_start old = record { filled = refl; upto = omega arith; long = refl }

  fill_suc : (n : ℕ) (d : List A) → n < length d → set (replicate n v ++ drop n d) n v ≡ replicate (suc n) v ++ drop (suc n) d
  fill_suc n [] l = absurd (omega arith)
  fill_suc zero (x ∷ d) l = refl
  fill_suc (suc n) (x ∷ d) l = ap {B = List A} (λ t. v ∷ t) (fill_suc n d (omega arith))

  pub clear_more : (old now : List A) (i : ℕ) → i < length now → Cleared v old now i → Cleared v old (set now i v) (i + 1)
  clear_more old now i h c =
      let l = c.long in
      record {
        filled = rw (c.filled, add-one i) (fill_suc i old (omega arith));
        upto = omega arith;
        long = length-set now i v ∙ l;
      }

  pub clear_done : (old now : List A) (i : ℕ) → length now ≤ i → Cleared v old now i → now ≡ replicate (length old) v
  clear_done old now i h c =
      let u = c.upto in
      let l = c.long in
      let e : i ≡ length old = omega arith in
      rw (c.filled, e, drop-length old) (append-nil (replicate (length old) v))
