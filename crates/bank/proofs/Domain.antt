-- The argument of `exp` for a smoothing coefficient lies from −1 to 0, so that 26 never arises.
use mathlib.Core.Path.{◌≡◌, refl, sym, ◌∙◌, subst}
use mathlib.Core.Bool.{Bool, true, false}
use Rattle.std.specs.Prelude.{Result}
use Rattle.std.specs.Result.{result_unwrap_or}
use Prim.Native.Nat.{ℕ, ◌*◌, ◌≤◌, ◌<◌}
use native.Mathlib.Omega.{arith}
use lib.Dec.{lit<}
use lib.IntN.{pos}
use lib.Ieee.{Float, nan, inf, fin, binary64, up, down, round, sub, div, neg, lt, le, is_nan, of_bits}
use lib.Ieee.Bits.{is_true}
use lib.Ieee.Fits.{down_pos}
use lib.Ieee.Order.{round_mono}
use lib.Ieee.Positive.{first_pos}
use borrow.Author.Tests.{leb-true, le-leb, ne_eqb}
use Rattle.arithmetic.specs.Number.{zero, one, max_of, sign_of}
use Rattle.arithmetic.specs.Exp.{in_domain, exp_of, exp_reply}
use Rattle.arithmetic.specs.Answers.{reply_of}
use Rattle.arithmetic.specs.declared.math.OutOfDomain.{OutOfDomain}
use Rattle.arithmetic.proofs.Order.{left, right, le_is, clash, not-lt→le}
use Rattle.arithmetic.proofs.Exp.{value_or}
use Rattle.arithmetic.proofs.Cut.{neg-round, sign_round}
use Rattle.bank.specs.Smoother.{steps_of, coeff_of}
use Rattle.bank.specs.declared.param.Smoothing.{Smoothing}
use Rattle.bank.specs.declared.param.Smoothing.TheVariants.{OnePole}

abbrev minus_one : Float
minus_one = fin true 1 (pos 0)

-- ---- at least 1
above_one : (x : Float) → le one (max_of x one) ≡ true
unfolding le lt is_nan
above_one nan = refl
above_one (inf true) = refl
above_one (inf false) = refl
above_one (fin s m e) = go (lt (fin s m e) one) refl
  where
    go : (b : Bool) → lt (fin s m e) one ≡ b → le one (max_of (fin s m e) one) ≡ true
    go true h = rw h refl
    go false h = rw h (not-lt→le (fin s m e) one tt tt h)

pub steps_least : (ms : Float) (rate : ℕ) → le one (steps_of ms rate) ≡ true
unfolding steps_of
steps_least ms rate = above_one _

-- ---- −1 / steps
-- a magnitude of at most 1, turned negative
small : (y : Float) → sign_of y ≡ false → le y one ≡ true → in_domain (neg y) ≡ true
unfolding le neg of_bits
small nan s h = clash false h refl
small (inf true) s h = clash true refl s
small (inf false) s h = clash false h refl
small (fin true m e) s h = clash true refl s
small (fin false m e) s h =
    let k = leb-true (left (fin false m e) one) (right (fin false m e) one) (sym (le_is (fin false m e) one tt tt) ∙ h) in
    rw (
      le_is (fin true 175 (pos 2)) (fin true m e) tt tt,
      le-leb (left (fin true 175 (pos 2)) (fin true m e)) (right (fin true 175 (pos 2)) (fin true m e)) (omega arith),
      le_is (fin true m e) zero tt tt,
      le-leb (left (fin true m e) zero) (right (fin true m e) zero) (omega arith),
    )
    refl

rounded_small : (a c : ℕ) → 0 < c → a ≤ c → le (round binary64 false a c) one ≡ true
rounded_small a c C h =
    subst (λ (z : Float). le (round binary64 false a c) z ≡ true) exact
    (is_true _ (round_mono binary64 a c 1 1 C (lit< tt) (omega arith)))
  where
    exact : round binary64 false 1 1 ≡ one
    exact = unfold round in refl

pub pole_domain : (n : Float) → le one n ≡ true → in_domain (div binary64 minus_one n) ≡ true
unfolding le div of_bits
pole_domain nan h = clash false h refl
pole_domain (inf true) h = clash false h refl
pole_domain (inf false) h = refl
pole_domain (fin true m e) h =
    absurd (omega (arith, down_pos e, leb-true (left one (fin true m e)) (right one (fin true m e)) (sym (le_is one (fin true m e) tt tt) ∙ h)))
pole_domain (fin false m e) h =
    let k : down e ≤ m * up e = omega (arith, leb-true (left one (fin false m e)) (right one (fin false m e)) (sym (le_is one (fin false m e) tt tt) ∙ h)) in
    let p = first_pos m (up e) (omega (arith, down_pos e)) in
    let C : 0 < m * up e * 1 = omega (arith, down_pos e) in
    rw (ne_eqb m 0 (λ z. omega arith), ← neg-round binary64 false (1 * down e) (m * up e * 1))
    (small (round binary64 false (1 * down e) (m * up e * 1)) (sign_round binary64 false (1 * down e) (m * up e * 1)) (rounded_small (1 * down e) (m * up e * 1) C (omega arith)))

-- ---- what `exp` answers there, for a coefficient: its value
pub exp_value : (n other : Float) (r : Result Float OutOfDomain) → le one n ≡ true → reply_of r ≡ exp_reply (div binary64 minus_one n) → result_unwrap_or r other ≡ exp_of (div binary64 minus_one n)
exp_value n other r h e = value_or (div binary64 minus_one n) (pole_domain n h) r other e

pub coeff_pole : (shape : Smoothing) (n v : Float) → shape ≡ OnePole → v ≡ exp_of (div binary64 minus_one n) → sub binary64 one v ≡ coeff_of shape n
unfolding coeff_of of_bits
coeff_pole shape n v k e = rw (k, e) refl
