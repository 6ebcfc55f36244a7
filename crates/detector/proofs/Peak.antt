-- The larger magnitude: it is not below 0, and no answer has a minus sign. First, that two tests, of a value and of its negation, find it too, as `frame` takes a sample's.
use mathlib.Core.Path.{◌≡◌, refl}
use mathlib.Core.Bool.{Bool, true, false, not, cond, ◌&&◌}
use mathlib.Core.List.{List, [], ◌∷◌}
use Prim.Native.Nat.{◌*◌}
use native.Mathlib.Omega.{arith}
use borrow.Author.Tests.{le-ltb}
use lib.Dec.{eqb}
use lib.ListN.{length}
use lib.Ieee.{Float, nan, inf, fin, up, down, lt, neg}
use Rattle.arithmetic.specs.Number.{zero, abs_of, sign_of, with_sign}
use Rattle.arithmetic.proofs.Order.{clash, not-lt→le, le→not-lt, le_then_le}
use Rattle.detector.specs.Oversample.{remembered, shifted, sums_of, larger, largest_from, largest_of, pushed_at, detected, peak_abs_of}
use Rattle.detector.specs.Run.{pushes_of}
use Rattle.std.specs.Prelude.{None}

-- ---- two tests

-- what is not below 0 is not below a value with a minus sign
under : (p s : Float) → lt p zero ≡ false → lt p (with_sign true s) ≡ false
unfolding lt
under nan s h = refl
under (inf true) s h = clash true refl h
under (inf false) nan h = refl
under (inf false) (inf t) h = refl
under (inf false) (fin t n d) h = refl
under (fin b m e) nan h = refl
under (fin b m e) (inf t) h = refl
under (fin b m e) (fin t n d) h =
    le→not-lt (fin b m e) (fin true n d) tt tt
    (le_then_le (fin true n d) zero (fin b m e) tt tt tt (not-lt→le zero (fin true n d) tt tt refl) (not-lt→le (fin b m e) zero tt tt h))

pub no_nan_above : (p : Float) → lt p nan ≡ false
unfolding lt
no_nan_above nan = refl
no_nan_above (inf s) = refl
no_nan_above (fin s m e) = refl

-- what the first test leaves, and what the second makes of it
abbrev pub first : Float → Float → Float
first p s = cond (lt p s) s p

abbrev pub second : Float → Float → Float
second t n = cond (lt t n) n t

module _ (p : Float) (h : lt p zero ≡ false) where
  -- a value with a plus sign: the second test changes nothing
  plus : (s : Float) → lt s (with_sign true s) ≡ false → second (first p s) (with_sign true s) ≡ first p s
  plus s k = go (lt p s) refl
    where
      go : (b : Bool) → lt p s ≡ b → second (first p s) (with_sign true s) ≡ first p s
      go true e = rw e (rw k)
      go false e = rw e (rw (under p s h))

  both : (s : Float) → second (first p s) (neg s) ≡ larger p s
  unfolding larger neg lt
  both nan = simp (no_nan_above p)
  both (inf false) = plus (inf false) refl
  both (inf true) = rw (under p (inf true) h)
  both (fin false m e) = plus (fin false m e) refl
  both (fin true m e) = rw (under p (fin true m e) h)

  -- the same for a value t that the first test left
  pub second_taken : (s t : Float) → t ≡ first p s → lt t (neg s) ≡ true → neg s ≡ larger p s
  second_taken s t e k = rw (← both s, ← e, k)

  pub second_left : (s t : Float) → t ≡ first p s → lt t (neg s) ≡ false → t ≡ larger p s
  second_left s t e k = rw (← both s, ← e, k)

-- ---- a number that is not below 0

-- a magnitude is not below 0
plain : (s : Float) → lt (abs_of s) zero ≡ false
unfolding lt
plain nan = refl
plain (inf t) = refl
plain (fin t m e) = le-ltb (m * up e * 1) (0 * down e) (omega arith)

pub larger_not_below : (p s : Float) → lt p zero ≡ false → lt (larger p s) zero ≡ false
unfolding larger
larger_not_below p s h = go (lt p (abs_of s)) refl
  where
    go : (b : Bool) → lt p (abs_of s) ≡ b → lt (larger p s) zero ≡ false
    go true e = rw e (plain s)
    go false e = rw e h

-- what `larger_of` promises of a result that equals the larger one
pub both_ways : {r : Float} (p s : Float) → lt p zero ≡ false → r ≡ larger p s → (r ≡ larger p s) × (lt r zero ≡ false)
both_ways p s h e = (e, rw e (larger_not_below p s h))

-- ---- no answer has a minus sign, not even a zero
abbrev pub all_unsigned : List Float → Bool
all_unsigned [] = true
all_unsigned (x ∷ xs) = not (sign_of x) && all_unsigned xs

pub abs_unsigned : (s : Float) → sign_of (abs_of s) ≡ false
abs_unsigned nan = refl
abs_unsigned (inf t) = refl
abs_unsigned (fin t m e) = refl

largest_unsigned : (p : Float) (ss : List Float) → sign_of p ≡ false → sign_of (largest_from p ss) ≡ false
unfolding largest_from larger
largest_unsigned p [] h = h
largest_unsigned p (s ∷ ss) h = largest_unsigned (larger p s) ss (go (lt p (abs_of s)))
  where
    go : (b : Bool) → sign_of (cond b (abs_of s) p) ≡ false
    go true = abs_unsigned s
    go false = h

module _ (phases : List (List Float)) where
  pub push_unsigned : (store : List Float) (x : Float) → sign_of (peak_abs_of phases store x).peak ≡ false
  unfolding peak_abs_of detected largest_of
  push_unsigned store x = go (eqb (length store) remembered)
    where
      go : (b : Bool) → sign_of (cond b (detected phases (shifted store x)) (pushed_at zero None store)).peak ≡ false
      go true = largest_unsigned zero (sums_of phases (shifted store x)) refl
      go false = refl

  pub answers_unsigned : (store run : List Float) → all_unsigned (pushes_of phases store run).peaks ≡ true
  unfolding pushes_of
  answers_unsigned store [] = refl
  answers_unsigned store (x ∷ xs) = rw (push_unsigned store x) (answers_unsigned (peak_abs_of phases store x).store xs)
