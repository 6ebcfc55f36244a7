-- The magnitude of a number by its pattern: without the sign's bit it is the pattern of the magnitude.
use mathlib.Core.Path.{◌≡◌, refl, sym, ap, ◌∙◌, subst}
use mathlib.Core.Bool.{Bool, true, false, not, cond}
use native.Mathlib.Nat.{zero-add}
use lib.Dec.{T}
use lib.Ieee.{Float, nan, inf, fin, binary64, eq, lt, ne, fits, is_nan, of_bits, to_bits, nan_bits}
use lib.Ieee.Bits.{of_bits-to_bits, nan_bits_is}
use Rattle.arithmetic.specs.Number
use Rattle.arithmetic.specs.Number.{abs_of}
use Rattle.arithmetic.specs.Narrow.{units_of}
use Rattle.arithmetic.specs.Part.{magnitude_of}
use Rattle.arithmetic.proofs.Order.{clash}
use Rattle.arithmetic.proofs.Fitting.{fits_signed}
use Rattle.arithmetic.proofs.Cases.{ne_nan}
use Rattle.arithmetic.proofs.NanPattern.{writes_number}
use Rattle.arithmetic.proofs.Places32.{pattern, split, magnitude}
use Rattle.detector.specs.Oversample.{larger}
use Rattle.detector.proofs.Peak.{no_nan_above}

pub is_number : (x : Float) → eq x x ≡ true → T (not (is_nan x))
unfolding ne
is_number x h = writes_number x (ap not h)

abs_fits : (x : Float) → T (fits binary64 x) → T (fits binary64 (abs_of x))
unfolding fits
abs_fits nan h = h
abs_fits (inf s) h = h
abs_fits (fin s m e) h = fits_signed s false m e h

bits_nan : magnitude_of nan ≡ to_bits binary64 nan
unfolding to_bits
bits_nan = refl

bits_inf : (s : Bool) → magnitude_of (inf s) ≡ to_bits binary64 (inf false)
unfolding to_bits
bits_inf true = refl
bits_inf false = refl

unsigned-bits : (x : Float) → T (fits binary64 x) → magnitude_of x ≡ to_bits binary64 (abs_of x)
unsigned-bits nan h = bits_nan
unsigned-bits (inf s) h = bits_inf s
unsigned-bits (fin s m e) h =
    let n = units_of (fin s m e) in
    magnitude s n (to_bits binary64 (fin s m e)) (split s m e h) ∙ sym ((split false m e (fits_signed s false m e h)).bits ∙ zero-add (pattern n))

by_bits : (x : Float) → T (fits binary64 x) → of_bits binary64 (magnitude_of x) ≡ abs_of x
by_bits x h = ap (of_bits binary64) (unsigned-bits x h) ∙ of_bits-to_bits binary64 (abs_of x) (abs_fits x h)

abs_number : (x : Float) → T (not (is_nan x)) → T (not (is_nan (abs_of x)))
unfolding is_nan
abs_number nan h = h
abs_number (inf s) h = h
abs_number (fin s m e) h = h

module _ (x : Float) (h : fits binary64 x ≡ true) where
  pub by_pattern : of_bits binary64 (magnitude_of x) ≡ abs_of x
  by_pattern = by_bits x (subst T (sym h) tt)

  pub pattern_is_number : eq x x ≡ true → T (not (nan_bits binary64 (magnitude_of x)))
  pattern_is_number e = subst (λ (b : Bool). T (not b)) (sym (nan_bits_is binary64 (magnitude_of x) ∙ ap is_nan by_pattern)) (abs_number x (is_number x e))

-- ---- what `larger_of` makes of it
-- the magnitude, and 0.0 for a NaN
abbrev heard_as : Float → Float
heard_as s = cond (eq s s) (abs_of s) Number.zero

not_above_lem : (p s : Float) → eq s s ≡ false → lt p (abs_of s) ≡ false
unfolding ne is_nan
not_above_lem p nan t = no_nan_above p
not_above_lem p (inf s) t = clash false (sym (ne_nan (inf s)) ∙ ap not t) refl
not_above_lem p (fin s m e) t = clash false (sym (ne_nan (fin s m e)) ∙ ap not t) refl

module _ (p s m : Float) (e : m ≡ heard_as s) where
  pub larger_wins : lt p Number.zero ≡ false → lt p m ≡ true → m ≡ larger p s
  unfolding larger
  larger_wins h w = go (eq s s) refl
    where
      go : (b : Bool) → eq s s ≡ b → m ≡ larger p s
      go true t = let k : m ≡ abs_of s = e ∙ rw t in rw (← k, w)
      go false t = let k : m ≡ Number.zero = e ∙ rw t in clash (lt p m) w (rw k h)

  pub larger_stays : lt p m ≡ false → p ≡ larger p s
  unfolding larger
  larger_stays w = go (eq s s) refl
    where
      go : (b : Bool) → eq s s ≡ b → p ≡ larger p s
      go true t = let k : m ≡ abs_of s = e ∙ rw t in rw (← k, w)
      go false t = rw (not_above_lem p s t)
