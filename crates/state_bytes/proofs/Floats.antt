-- What the limiter computes are values of binary64: sums and products are rounded to it, and clamping, sanitizing and choosing keep to it.
use mathlib.Core.Bool.{true, false, cond, ◌||◌}
use mathlib.Core.List.{List, [], ◌∷◌}
use Prim.Native.Nat.{ℕ, ◌<◌, ◌^◌}
use native.Mathlib.Omega.{arith}
use lib.Dec.{leb}
use lib.Ieee.{Float, nan, inf, fin, binary64, add, sub, mul, div, lt, le, eq, is_nan, fits}
use lib.Ieee.Fits.{cond-fits, add-fits, sub-fits, mul-fits}
use lib.Ieee.Bits.{of_bits-fits}
use Rattle.arithmetic.specs.Number
use Rattle.arithmetic.specs.Number.{bits, one, frames_of_ms, max_of, not_below, clamp_of, ceil_of}
use Rattle.arithmetic.specs.Sanitize.{finite_or_zero, unit_gain}
use Rattle.arithmetic.proofs.Fitting.{zero-fits, finite_fits}
use Rattle.arithmetic.specs.Exp.{exp_of, high_of, steps_of, reduced, scaled}
use Rattle.envelope.specs.Mean.{is_all_one, weighted_from, mean_of}
use Rattle.envelope.specs.Follow.{moved, followed}
use Rattle.settings.specs.Derived.{minus_one, coefficient_of}
use Rattle.settings.specs.Target.{argument_of, kept, target_of}
use Rattle.state_bytes.proofs.Storable.{Fits}

-- whatever the pattern
pub bits_fit : (w : ℕ) → Fits (bits w)
bits_fit w = of_bits-fits binary64 w

pub one_fits : Fits one
unfolding fits
one_fits = tt

pub clamp_fits : (x lo hi : Float) → Fits x → Fits lo → Fits hi → Fits (clamp_of x lo hi)
clamp_fits x lo hi f g h =
    let y = not_below lo x in
    cond-fits binary64 (lt hi y) hi y h (cond-fits binary64 (lt x lo) lo x g f)

pub max_fits : (x y : Float) → Fits x → Fits y → Fits (max_of x y)
max_fits x y f g = cond-fits binary64 (lt x y || is_nan x) y x g f

pub unit_fits : (x : Float) → Fits x → Fits (unit_gain x)
unit_fits x h = clamp_fits (finite_or_zero x) Number.zero one (finite_fits x h) zero-fits one_fits

-- a whole number of 64 bits
pub ceil_small : (x : Float) → ceil_of x < 2 ^ 64
ceil_small nan = omega arith
ceil_small (inf true) = omega arith
ceil_small (inf false) = omega arith
ceil_small (fin true m e) = omega arith
ceil_small (fin false m e) = omega arith

-- ---- exp, the target and the release coefficient
pub exp_fits : (x : Float) → Fits (exp_of x)
unfolding exp_of
exp_fits x =
    let h = high_of x in
    cond-fits binary64 (leb h 0x3e30_0000) (add binary64 one x) (cond (leb h 0x3fd6_2e42) (scaled x x Number.zero 0) (reduced x (steps_of h x))) (add-fits binary64 one x)
    (cond-fits binary64 (leb h 0x3fd6_2e42) (scaled x x Number.zero 0) (reduced x (steps_of h x)) (mul-fits binary64 _ _) (mul-fits binary64 _ _))

pub target_fits : (threshold margin : Float) → Fits (target_of threshold margin)
unfolding target_of
target_fits threshold margin = exp_fits (kept (argument_of threshold margin))

pub coefficient_fits : (ms : Float) (rate : ℕ) → Fits (coefficient_of ms rate)
coefficient_fits ms rate =
    let rel = frames_of_ms ms rate in
    let gone = exp_of (div binary64 minus_one rel) in
    cond-fits binary64 (eq rel Number.zero) one (sub binary64 one gone) one_fits (sub-fits binary64 one gone)

-- ---- the mean, and the gain that follows it
weighted_fits : (acc : Float) (ws fs : List Float) → Fits acc → Fits (weighted_from acc ws fs)
weighted_fits acc ws [] h = h
weighted_fits acc [] (f ∷ fs) h = h
weighted_fits acc (w ∷ ws) (f ∷ fs) h = weighted_fits (add binary64 acc (mul binary64 w f)) ws fs (add-fits binary64 acc (mul binary64 w f))

pub mean_fits : (weights floors : List Float) → Fits (mean_of weights floors)
unfolding mean_of
mean_fits weights floors = cond-fits binary64 (is_all_one floors) one (weighted_from Number.zero weights floors) one_fits (weighted_fits Number.zero weights floors zero-fits)

pub followed_fits : (gain mean coeff : Float) → Fits mean → Fits (followed gain mean coeff)
unfolding followed
followed_fits gain mean coeff h =
    unit_fits (moved (unit_gain gain) mean coeff)
    (cond-fits binary64 (le mean (unit_gain gain)) mean (add binary64 (unit_gain gain) (mul binary64 (sub binary64 mean (unit_gain gain)) coeff)) h (add-fits binary64 _ _))
