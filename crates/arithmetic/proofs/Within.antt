-- Values within two ends: what is clamped lies within them, and what lies within them is left alone. Sanitizing leaves a finite value alone. A gain lies within 0 and 1.
use Rattle.std.proofs.Common.{◌≡◌, Bool, true, false, T, sym, refl}
use lib.Ieee.{Float, nan, inf, fin, lt, le}
use lib.Ieee.Scale.{finite}
use Rattle.arithmetic.specs.Number.{zero, one, within, not_above, clamp_of}
use Rattle.arithmetic.specs.Sanitize.{finite_or_zero, unit_gain}
use Rattle.arithmetic.proofs.Order.{and-true, clash, not-lt→le, le→not-lt, le_self}

-- ---- what lies between finite ends is finite
above_low : (lo : Float) (s : Bool) → T (finite lo) → le lo (inf s) ≡ true → s ≡ false
unfolding le
above_low nan s p h = absurd p
above_low (inf t) s p h = absurd p
above_low (fin t m e) true p h = sym h
above_low (fin t m e) false p h = refl

below_high : (hi : Float) (s : Bool) → T (finite hi) → le (inf s) hi ≡ true → s ≡ true
unfolding le
below_high nan s p h = absurd p
below_high (inf t) s p h = absurd p
below_high (fin t m e) true p h = refl
below_high (fin t m e) false p h = h

pub not_le_nan : (x : Float) → le x nan ≡ false
unfolding le
not_le_nan nan = refl
not_le_nan (inf s) = refl
not_le_nan (fin s m e) = refl

module _ (lo hi : Float) (p : T (finite lo)) (q : T (finite hi)) where
  pub within→finite : (x : Float) → within lo hi x ≡ true → T (finite x)
  within→finite nan h = clash (le lo nan) (and-true (le lo nan) (le nan hi) h).0 (not_le_nan lo)
  within→finite (inf s) h =
      let k = and-true (le lo (inf s)) (le (inf s) hi) h in
      clash s (below_high hi s q k.1) (above_low lo s p k.0)
  within→finite (fin s m e) h = tt

  pub clamp_inside : (x : Float) → within lo hi x ≡ true → clamp_of x lo hi ≡ x
  clamp_inside x h =
      let k = and-true (le lo x) (le x hi) h in
      let f = within→finite x h in
      simp (le→not-lt x lo f p k.0, le→not-lt hi x q f k.1)

  pub clamp_within : (x : Float) → T (finite x) → le lo hi ≡ true → within lo hi (clamp_of x lo hi) ≡ true
  clamp_within x f o = low (lt x lo) refl
    where
      high : (b : Bool) → lt hi x ≡ b → le lo x ≡ true → within lo hi (not_above hi x) ≡ true
      high true e k = simp (e, o, le_self hi q)
      high false e k = simp (e, k, not-lt→le hi x q f e)

      low : (b : Bool) → lt x lo ≡ b → within lo hi (clamp_of x lo hi) ≡ true
      low true e = simp (e, le→not-lt hi lo q p o, le_self lo p, o)
      low false e = rw e (high (lt hi x) refl (not-lt→le x lo f p e))

-- ---- sanitizing
pub sanitized_finite : (x : Float) → T (finite (finite_or_zero x))
sanitized_finite nan = tt
sanitized_finite (inf s) = tt
sanitized_finite (fin s m e) = tt

pub sanitized_same : (x : Float) → T (finite x) → finite_or_zero x ≡ x
sanitized_same nan p = absurd p
sanitized_same (inf s) p = absurd p
sanitized_same (fin s m e) p = refl

pub unit_ends : le zero one ≡ true
unfolding le
unit_ends = refl

pub gain_within : (x : Float) → within zero one (unit_gain x) ≡ true
gain_within x = clamp_within zero one tt tt (finite_or_zero x) (sanitized_finite x) unit_ends

pub unit→finite : (x : Float) → within zero one x ≡ true → T (finite x)
unit→finite x h = within→finite zero one tt tt x h

pub unit_same : (x : Float) → within zero one x ≡ true → unit_gain x ≡ x
unit_same x h = rw (sanitized_same x (unit→finite x h)) (clamp_inside zero one tt tt x h)
