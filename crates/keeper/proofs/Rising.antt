-- Entries that rise, read from the front: a turn of the walk, and minima of which the ends tell that all lie within 0 and 1.
use mathlib.Core.Path.{◌≡◌, refl, sym, ap, ◌∙◌}
use mathlib.Core.Bool.{Bool, true, false, ◌&&◌}
use mathlib.Core.List.{List, [], ◌∷◌, ◌++◌}
use Prim.Native.Nat.{ℕ, zero, suc, ◌+◌, ◌-◌, ◌≤◌, ◌<◌}
use native.Mathlib.Omega.{arith}
use lib.Dec.{T}
use lib.Ieee.{Float, nan, inf, fin, lt, le}
use lib.Ieee.Scale.{finite}
use lib.ListN.{get_or}
use Rattle.arithmetic.specs.Number
use Rattle.arithmetic.specs.Number.{one, within}
use Rattle.arithmetic.proofs.Order.{and-true, same_test, clash, lt→le, lt_then_le, le_then_le}
use Rattle.arithmetic.proofs.Within.{unit→finite}
use Rattle.keeper.specs.Ring.{Entry, wrap, entry_at, ring_of, front_of}
use Rattle.keeper.specs.InOrder.{rising, less_mark, less_minimum, unit_minima}
use Rattle.keeper.proofs.Places.{wrap_below, wrap_wrap, ring_front, front_place}
use Rattle.keeper.proofs.Loops.{rises}

-- ---- the front comes off
rising_front : (less : Entry → Entry → Bool) (e : Entry) (es : List Entry) (f : Entry) → rising less ((e ∷ es) ++ (f ∷ [])) ≡ (less f (front_of e es) && rising less (e ∷ es))
rising_front less e [] f = refl
rising_front less e (g ∷ es) f = rw (rising_front less g es f) (exchange (less g e) (less f (front_of g es)) (rising less (g ∷ es)))
  where
    exchange : (a b c : Bool) → (a && (b && c)) ≡ (b && (a && c))
    exchange true b c = refl
    exchange false true c = refl
    exchange false false c = refl

regroup : (p a b c d : Bool) → (p && ((a && c) && (b && d))) ≡ ((p && (a && b)) && (c && d))
regroup false a b c d = refl
regroup true false b c d = refl
regroup true true false true d = refl
regroup true true false false d = refl
regroup true true true c d = refl

-- a turn: the first of `left` entries at a place, and the next one
module _ (cap : ℕ) (marks : List ℕ) (minima : List Float) (at next : ℕ) (inside : at < cap) (on : next ≡ wrap cap (at + 1)) where
  abbrev f : Entry
  f = entry_at marks minima at

  abbrev g : Entry
  g = entry_at marks minima next

  step : (n : ℕ) → suc (suc n) ≤ cap → (less : Entry → Entry → Bool) → rising less (ring_of cap marks minima at (suc (suc n))) ≡ (less f g && rising less (ring_of cap marks minima next (suc n)))
  step n h less =
      let b = wrap_below cap (at + 1) (omega arith) in
      ap (rising less) (ring_front cap marks minima at (suc n) inside (omega arith))
      ∙ ap (λ (p : ℕ). rising less (ring_of cap marks minima p (suc n) ++ (f ∷ []))) (sym on)
      ∙ rising_front less (entry_at marks minima (wrap cap (next + n))) (ring_of cap marks minima next n) f
      ∙ ap (λ (x : Entry). less f x && rising less (ring_of cap marks minima next (suc n))) (front_place cap marks minima next n (omega (arith, on, b)))

  pub front_rises : (left rest : ℕ) → rest + 1 ≡ left → 1 < left → left ≤ cap → (p whole : Bool) → p && rises (ring_of cap marks minima at left) ≡ whole → (r : Bool) → r ≡ (less_mark f g && less_minimum f g)
      → (p && r) && rises (ring_of cap marks minima next rest) ≡ whole
  front_rises left zero e some few p whole h r k = absurd (omega arith)
  front_rises left (suc n) e some few p whole h r k =
      let m : left ≡ suc (suc n) = omega arith in
      let ring = ring_of cap marks minima next (suc n) in
      ap (λ (b : Bool). (p && b) && rises ring) k
      ∙ sym (regroup p (less_mark f g) (less_minimum f g) (rising less_mark ring) (rising less_minimum ring))
      ∙ sym (ap (λ (b : Bool). p && (b && rising less_minimum (ring_of cap marks minima at (suc (suc n))))) (step n (omega arith) less_mark) ∙ ap (λ (b : Bool). p && ((less_mark f g && rising less_mark ring) && b)) (step n (omega arith) less_minimum))
      ∙ rw m at h

-- the next place along the ring
pub next_on : (cap head i at next : ℕ) → head < cap → 0 < i → i ≤ cap → at ≡ wrap cap (head + (i - 1)) → next ≡ wrap cap (head + i) → next ≡ wrap cap (at + 1)
next_on cap head i at next hh some few A N =
    let e : head + (i - 1) + 1 ≡ head + i = omega arith in
    N ∙ ap (wrap cap) (sym e) ∙ sym (wrap_wrap cap (head + (i - 1)) 1 (omega arith)) ∙ ap (λ (p : ℕ). wrap cap (p + 1)) (sym A)

-- ---- minima that rise
-- what is below a value of at most 1 is at most 1
down_one : (x y : Float) → lt x y ≡ true → le y one ≡ true → le x one ≡ true
unfolding lt le
down_one nan y h k = clash false h refl
down_one (inf true) y h k = refl
down_one (inf false) nan h k = clash false h refl
down_one (inf false) (inf t) h k = clash false h refl
down_one (inf false) (fin t n d) h k = clash false h refl
down_one (fin s m e) nan h k = clash false h refl
down_one (fin s m e) (inf true) h k = clash false h refl
down_one (fin s m e) (inf false) h k = clash false k refl
down_one (fin s m e) (fin t n d) h k = lt→le (fin s m e) one (lt_then_le (fin s m e) (fin t n d) one tt tt tt h k)

-- what is above a value within 0 and 1, and at most 1, is within them
up_unit : (x y : Float) → within Number.zero one x ≡ true → lt x y ≡ true → le y one ≡ true → within Number.zero one y ≡ true
unfolding lt le
up_unit x y u h k = go y (unit→finite x u) h k
  where
    low : le Number.zero x ≡ true
    low = (and-true (le Number.zero x) (le x one) u).0

    go : (y : Float) → T (finite x) → lt x y ≡ true → le y one ≡ true → within Number.zero one y ≡ true
    go nan p h k = clash false k refl
    go (inf true) p h k = below x p h
      where
        below : (x : Float) → T (finite x) → lt x (inf true) ≡ true → within Number.zero one (inf true) ≡ true
        below nan p h = absurd p
        below (inf s) p h = absurd p
        below (fin s m e) p h = clash false h refl
    go (inf false) p h k = clash false k refl
    go (fin t n d) p h k = rw (le_then_le Number.zero x (fin t n d) tt p tt low (lt→le x (fin t n d) h), k) refl

front_unit : (e : Entry) (es : List Entry) → unit_minima (e ∷ es) ≡ true → within Number.zero one (front_of e es).minimum ≡ true
front_unit e [] h = (and-true (within Number.zero one e.minimum) true h).0
front_unit e (f ∷ es) h = front_unit f es (and-true (within Number.zero one e.minimum) (unit_minima (f ∷ es)) h).1

ends_unit : (e : Entry) (es : List Entry) → rising less_minimum (e ∷ es) ≡ true → le Number.zero (front_of e es).minimum ≡ true → le e.minimum one ≡ true → unit_minima (e ∷ es) ≡ true
ends_unit e [] r low high = rw (low, high) refl
ends_unit e (f ∷ es) r low high =
    let k = and-true (less_minimum f e) (rising less_minimum (f ∷ es)) r in
    let later = ends_unit f es k.1 low (down_one f.minimum e.minimum k.0 high) in
    let u = (and-true (within Number.zero one f.minimum) _ later).0 in
    rw (up_unit f.minimum e.minimum u k.0 high, later) refl

ends_tell : (e : Entry) (es : List Entry) → rising less_minimum (e ∷ es) ≡ true → (le Number.zero (front_of e es).minimum && le e.minimum one) ≡ unit_minima (e ∷ es)
ends_tell e es r =
    let low = le Number.zero (front_of e es).minimum in
    let high = le e.minimum one in
    same_test (low && high) (unit_minima (e ∷ es))
    (λ h. let k = and-true low high h in ends_unit e es r k.0 k.1)
    (λ h.
    let a = and-true low (le (front_of e es).minimum one) (front_unit e es h) in
    let b = and-true (le Number.zero e.minimum) high (and-true (within Number.zero one e.minimum) (unit_minima es) h).0 in
    rw (a.0, b.1) refl)

-- the first and the last as the code reads them
pub ends_read : (cap : ℕ) (marks : List ℕ) (minima : List Float) (head len last : ℕ) → head < cap → 0 < len → last ≡ wrap cap (head + (len - 1)) → rising less_minimum (ring_of cap marks minima head len) ≡ true
    → (le Number.zero (get_or minima head nan) && le (get_or minima last nan) one) ≡ unit_minima (ring_of cap marks minima head len)
ends_read cap marks minima head zero last hh some at r = absurd (omega arith)
ends_read cap marks minima head (suc n) last hh some at r =
    let e = entry_at marks minima (wrap cap (head + n)) in
    let up : head + (suc n - 1) ≡ head + n = omega arith in
    ap (λ (i : ℕ). le Number.zero (get_or minima head nan) && le (get_or minima i nan) one) (at ∙ ap (wrap cap) up)
    ∙ ap (λ (x : Entry). le Number.zero x.minimum && le e.minimum one) (sym (front_place cap marks minima head n hh))
    ∙ ends_tell e (ring_of cap marks minima head n) r
