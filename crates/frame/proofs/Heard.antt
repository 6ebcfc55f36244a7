-- A channel's share in a peak of 0 or more: three plain tests find it, and it is 0 or more again.
use mathlib.Core.Path.{◌≡◌, refl, sym, ap, ◌∙◌}
use mathlib.Core.Bool.{Bool, true, false, cond, ◌||◌}
use mathlib.Core.List.{List, [], ◌∷◌}
use Prim.Native.Nat.{ℕ, zero, suc, ◌<◌}
use native.Mathlib.Omega.{arith}
use lib.ListN.{length, get_or, set, replicate, length-replicate}
use lib.Ieee.{Float, nan, inf, fin, lt, le, neg, is_nan}
use Rattle.arithmetic.specs.Number
use Rattle.arithmetic.specs.Number.{abs_of, max_of}
use Rattle.arithmetic.specs.Sanitize.{finite_or_zero}
use Rattle.arithmetic.proofs.Order.{clash, and-true, le→not-lt, lt→le, le_then_le}
use Rattle.detector.specs.Oversample.{larger}
use Rattle.detector.proofs.Peak.{first, second, second_taken, second_left}
use Rattle.frame.specs.Frame.{heard}
use Rattle.frame.specs.Passes.{all_from_zero}

-- ---- a number of 0 or more
not-below : (p : Float) → le Number.zero p ≡ true → lt p Number.zero ≡ false
unfolding le
not-below nan h = refl
not-below (inf true) h = clash false h refl
not-below (inf false) h = refl
not-below (fin s m e) h = le→not-lt (fin s m e) Number.zero tt tt h

no_nan : (p : Float) → le Number.zero p ≡ true → is_nan p ≡ false
unfolding le is_nan
no_nan nan h = clash false h refl
no_nan (inf s) h = refl
no_nan (fin s m e) h = refl

-- what is above it is 0 or more too
pub above : (p q : Float) → le Number.zero p ≡ true → lt p q ≡ true → le Number.zero q ≡ true
unfolding le
above nan q h k = clash false k refl
above (inf true) q h k = clash false h refl
above (inf false) nan h k = clash false k refl
above (inf false) (inf s) h k = clash false k refl
above (inf false) (fin s m e) h k = clash false k refl
above (fin s m e) nan h k = clash false k refl
above (fin s m e) (inf true) h k = clash false k refl
above (fin s m e) (inf false) h k = refl
above (fin s m e) (fin t n d) h k = le_then_le Number.zero (fin s m e) (fin t n d) tt tt tt h (lt→le (fin s m e) (fin t n d) k)

-- ---- one test: the larger of two
module _ (p q : Float) (h : le Number.zero p ≡ true) where
  -- from 0 or more there is no question about a NaN
  pub max_is : max_of p q ≡ second p q
  max_is = rw (no_nan p h) (go (lt p q))
    where
      go : (b : Bool) → cond (b || false) q p ≡ cond b q p
      go true = refl
      go false = refl

  from_zero : le Number.zero (second p q) ≡ true
  from_zero = go (lt p q) refl
    where
      go : (b : Bool) → lt p q ≡ b → le Number.zero (cond b q p) ≡ true
      go true e = above p q h e
      go false e = h

  pub max_from_zero : le Number.zero (max_of p q) ≡ true
  max_from_zero = rw max_is from_zero

-- ---- three tests: what each leaves
module _ (p x a : Float) (h : le Number.zero p ≡ true) (y t u r : Float) (Y : y ≡ finite_or_zero x) (T : t ≡ first p y) (U : u ≡ second t (neg y)) (R : r ≡ second u a) where
  two_tests : u ≡ second p (abs_of y)
  unfolding larger
  two_tests = go (lt t (neg y)) refl
    where
      go : (b : Bool) → lt t (neg y) ≡ b → u ≡ larger p y
      go true e = U ∙ rw e (second_taken p (not-below p h) y t T e)
      go false e = U ∙ rw e (second_left p (not-below p h) y t T e)

  pub heard_so : (r ≡ heard true p x a) × (le Number.zero r ≡ true)
  heard_so =
      let m = abs_of y in
      let u-from : le Number.zero u ≡ true = rw two_tests (from_zero p m h) in
      let e : u ≡ max_of p (abs_of (finite_or_zero x)) = two_tests ∙ sym (max_is p m h) ∙ rw Y refl in
      (R ∙ sym (max_is u a u-from) ∙ ap (λ (z : Float). max_of z a) e, rw R (from_zero u a u-from))

-- ---- lists of peaks
pub peak_from_zero : (l : List Float) (i : ℕ) → all_from_zero l ≡ true → i < length l → le Number.zero (get_or l i nan) ≡ true
unfolding all_from_zero
peak_from_zero [] i k h = absurd (omega arith)
peak_from_zero (x ∷ xs) zero k h = (and-true (le Number.zero x) (all_from_zero xs) k).0
peak_from_zero (x ∷ xs) (suc i) k h = peak_from_zero xs i (and-true (le Number.zero x) (all_from_zero xs) k).1 (omega arith)

pub set_from_zero : (l : List Float) (i : ℕ) (y : Float) → all_from_zero l ≡ true → le Number.zero y ≡ true → all_from_zero (set l i y) ≡ true
unfolding all_from_zero
set_from_zero [] i y k h = refl
set_from_zero (x ∷ xs) zero y k h = rw (h, (and-true (le Number.zero x) (all_from_zero xs) k).1) refl
set_from_zero (x ∷ xs) (suc i) y k h =
    let o = and-true (le Number.zero x) (all_from_zero xs) k in
    rw (o.0, set_from_zero xs i y o.1 h) refl

-- peaks that start at 0.0
pub zeros_length : (n : ℕ) (zs : List Float) → zs ≡ replicate n Number.zero → length zs ≡ n
zeros_length n zs e = ap (λ (l : List Float). length l) e ∙ length-replicate n Number.zero
