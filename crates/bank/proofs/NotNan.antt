-- A NaN is never a derived value, so that 18 refuses a stored one.
use mathlib.Core.Path.{◌≡◌, refl, sym, ap, ◌∙◌, subst}
use mathlib.Core.Bool.{true, false}
use Prim.Native.Nat.{ℕ}
use lib.Dec.{T}
use lib.Ieee.{Float, nan, binary64, div, le, of_bits, fits}
use lib.Ieee.Scale.{finite}
use lib.Ieee.Fits.{sub-fits}
use Rattle.arithmetic.specs.Number.{zero, one, bits, within, same_value}
use Rattle.arithmetic.specs.Exp.{exp_of}
use Rattle.arithmetic.proofs.Order.{and-true, clash}
use Rattle.arithmetic.proofs.Within.{unit→finite}
use Rattle.arithmetic.proofs.Same.{same_nan}
use Rattle.arithmetic.proofs.Unit.{exp_unit, complement_unit}
use Rattle.bank.specs.Smoother.{steps_of, coeff_of, derived}
use Rattle.bank.specs.declared.param.Smoothing.{Smoothing}
use Rattle.bank.specs.declared.param.Smoothing.TheVariants.{Step, Linear, OnePole}
use Rattle.bank.specs.declared.smoother.Smoother.{Smoother}
use Rattle.bank.proofs.Domain.{pole_domain, steps_least}
use Rattle.bank.proofs.Prepared.{one_fits, steps_fit}

-- every coefficient lies within 0 and 1
pub coeff_unit : (shape : Smoothing) (n : Float) → le one n ≡ true → within zero one (coeff_of shape n) ≡ true
unfolding coeff_of of_bits le
coeff_unit Step n h = refl
coeff_unit Linear n h = refl
coeff_unit OnePole n h = complement_unit (exp_of (div binary64 (bits 0xbff0_0000_0000_0000) n)) (exp_unit (div binary64 (bits 0xbff0_0000_0000_0000) n) (pole_domain n h))

coeff_fits : (shape : Smoothing) (n : Float) → T (fits binary64 (coeff_of shape n))
unfolding coeff_of
coeff_fits Step n = one_fits
coeff_fits Linear n = one_fits
coeff_fits OnePole n = sub-fits binary64 one (exp_of (div binary64 (bits 0xbff0_0000_0000_0000) n))

not_above_nan : (y : Float) → le one y ≡ true → y ≡ nan → ⊥
unfolding le
not_above_nan y h e = clash false (sym (ap (le one) e) ∙ h) refl

pub nan_steps : (rate : ℕ) (s : Smoother) → s.steps ≡ nan → derived rate s ≡ true → ⊥
unfolding derived
nan_steps rate s e h =
    let n = steps_of s.smoothing_ms rate in
    let k = (and-true (same_value s.steps n) (same_value s.coeff (coeff_of s.shape n)) h).0 in
    not_above_nan n (steps_least s.smoothing_ms rate) (same_nan n (steps_fit s.smoothing_ms rate) (sym (ap (λ (x : Float). same_value x n) e) ∙ k))

pub nan_coeff : (rate : ℕ) (s : Smoother) → s.coeff ≡ nan → derived rate s ≡ true → ⊥
unfolding derived
nan_coeff rate s e h =
    let n = steps_of s.smoothing_ms rate in
    let d = coeff_of s.shape n in
    let k = (and-true (same_value s.steps n) (same_value s.coeff d) h).1 in
    let z = same_nan d (coeff_fits s.shape n) (sym (ap (λ (x : Float). same_value x d) e) ∙ k) in
    no_nan d (unit→finite d (coeff_unit s.shape n (steps_least s.smoothing_ms rate))) z
  where
    no_nan : (y : Float) → T (finite y) → y ≡ nan → ⊥
    no_nan y p e = subst (λ (x : Float). T (finite x)) e p
