-- What the branches of the leaf functions come to, case by case, on plain values.
use Rattle.std.proofs.Common.{◌≡◌, ℕ, ◌+◌, ◌*◌, ◌<◌, Bool, true, false, not, ◌&&◌, T, eqb, ltb, ℤ, sym, refl, ap, ◌∙◌, inl, inr, le_refl, eq-zero-or-pos, mul-pos, zero-mul, arith, lit<, ltb-false, ltb-true, le-ltb, eq-eqb, eqb-true}
use mathlib.Core.Bool.{beq}
use native.Mathlib.Nat.{sub_self}
use Rattle.std.specs.Float.{float_is_finite, float_with_sign, is_sign_negative}
use lib.Ieee.{Float, nan, inf, fin, binary64, up, down, lt, le, eq, ne, neg, sub, div, sum, round, is_nan, of_bits}
use lib.Ieee.Scale.{finite}
use lib.Ieee.Fits.{up_pos, down_pos}
use lib.Ieee.Exact.{HasValue, round_exact}
use borrow.Author.Tests.{eqb-false}
use Rattle.arithmetic.specs.Number.{abs_of, sign_of, with_sign, copysign_of}
use Rattle.arithmetic.specs.Number
use Rattle.arithmetic.specs.Sanitize.{finite_or_zero, denormal_floor, flush_denormal}
use Rattle.arithmetic.proofs.Order.{left, right, plus, minus, den, lt_is, eq_is, clash, and_yes, not-lt→le, lt_then_le, le_then_lt}

-- ---- against zero
-- a finite value is below zero where its minus part is not 0
at_one : (a d : ℕ) → a * 1 + 0 * d ≡ a
at_one a d = omega arith

one_at : (b d : ℕ) → 0 * d + b * 1 ≡ b
one_at b d = omega arith

lt_zero : (x : Float) → T (finite x) → lt x Number.zero ≡ ltb (plus x) (minus x)
lt_zero x p = lt_is x Number.zero p tt ∙ rw (at_one (plus x) (den x), one_at (minus x) (den x)) refl

eq-zero : (x : Float) → T (finite x) → eq x Number.zero ≡ eqb (plus x) (minus x)
eq-zero x p = eq_is x Number.zero p tt ∙ rw (at_one (plus x) (den x), one_at (minus x) (den x)) refl

no_product : (m : ℕ) (e : ℤ) → m * up e ≡ 0 → m ≡ 0
no_product m e h = elim (eq-zero-or-pos m) [ inl z ↦ z | inr g ↦ absurd (let k = mul-pos g (up_pos e) in omega arith) ]

-- a test that computes to false did not pass
never : {A : Type 0} → false ≡ true → A
never h = clash false h refl

-- ---- the sign, as the tests against zero tell it
pub sign_below : (x : Float) → lt x Number.zero ≡ true → sign_of x ≡ true
unfolding lt
sign_below nan h = never h
sign_below (inf s) h = h
sign_below (fin true m e) h = refl
sign_below (fin false m e) h = absurd (omega (arith, ltb-true (m * up e) 0 (sym (lt_zero (fin false m e) tt) ∙ h)))

pub sign_other : (x : Float) → lt x Number.zero ≡ false → eq x Number.zero ≡ false → sign_of x ≡ false
unfolding lt
sign_other nan h k = refl
sign_other (inf s) h k = h
sign_other (fin false m e) h k = refl
sign_other (fin true m e) h k =
    absurd
    (eqb-false 0 (m * up e) (sym (eq-zero (fin true m e) tt) ∙ k)
    (omega (arith, ltb-false 0 (m * up e) (sym (lt_zero (fin true m e) tt) ∙ h))))

-- what equals zero has no magnitude
eq_none : (s : Bool) (m : ℕ) (e : ℤ) → eq (fin s m e) Number.zero ≡ true → m * up e ≡ 0
eq_none true m e h = sym (eqb-true 0 (m * up e) (sym (eq-zero (fin true m e) tt) ∙ h))
eq_none false m e h = eqb-true (m * up e) 0 (sym (eq-zero (fin false m e) tt) ∙ h)

unlike_plus : (s : Bool) → not (beq false s) ≡ s
unlike_plus true = refl
unlike_plus false = refl

pub sign_zero : (x : Float) → eq x Number.zero ≡ true → lt (div binary64 Number.one x) Number.zero ≡ sign_of x
unfolding lt eq div
sign_zero nan h = never h
sign_zero (inf s) h = never h
sign_zero (fin s m e) h = rw (eq-eqb m 0 (no_product m e (eq_none s m e h))) (unlike_plus s)

-- ---- std's words
pub finite_same : (x : Float) → float_is_finite x ≡ finite x
unfolding float_is_finite
finite_same nan = refl
finite_same (inf s) = refl
finite_same (fin s m e) = refl

pub abs_same : (x : Float) → float_with_sign false x ≡ abs_of x
unfolding float_with_sign
abs_same nan = refl
abs_same (inf s) = refl
abs_same (fin s m e) = refl

signed_same : (t : Bool) (x : Float) → float_with_sign t x ≡ with_sign t x
unfolding float_with_sign
signed_same t nan = refl
signed_same t (inf s) = refl
signed_same t (fin s m e) = refl

sign_same : (y : Float) → is_sign_negative y ≡ sign_of y
unfolding is_sign_negative
sign_same nan = refl
sign_same (inf s) = refl
sign_same (fin s m e) = refl

pub copied_same : (x y : Float) → float_with_sign (is_sign_negative y) x ≡ copysign_of x y
copied_same x y = rw (← sign_same y) (signed_same (is_sign_negative y) x)

-- the sign of a NaN counts as clear
pub copied_nan : (x y : Float) → is_nan y ≡ true → float_with_sign false x ≡ copysign_of x y
unfolding is_nan
copied_nan x nan h = signed_same false x
copied_nan x (inf s) h = never h
copied_nan x (fin s m e) h = never h

-- ---- finite_or_zero
-- a second time changes nothing
pub sanitized_again : (x : Float) → finite_or_zero (finite_or_zero x) ≡ finite_or_zero x
sanitized_again nan = refl
sanitized_again (inf s) = refl
sanitized_again (fin s m e) = refl

-- ---- a value less itself
no_value : (r : Float) (c : ℕ) → 0 < c → HasValue r false 0 c → eq r Number.zero ≡ true
no_value nan c C h = absurd h
no_value (inf s) c C h = absurd h
no_value (fin s m e) c C h = rw h.0 (eq-zero (fin false m e) tt ∙ eq-eqb (m * up e) 0 (none (m * up e) h.1))
  where
    none : (a : ℕ) → a * c ≡ 0 * down e → a ≡ 0
    none a k = elim (eq-zero-or-pos a) [ inl z ↦ z | inr g ↦ absurd (let l = mul-pos g C in omega arith) ]

round_none : (c : ℕ) → 0 < c → eq (round binary64 false 0 c) Number.zero ≡ true
round_none c C = no_value (round binary64 false 0 c) c C (round_exact binary64 false 0 c 0 0 C (lit< tt) (lit< tt) (simp zero-mul))

nothing_left : (s : Bool) (a c : ℕ) → 0 < c → eq (sum binary64 s a (not s) a c) Number.zero ≡ true
unfolding sum
nothing_left true a c C = rw (le-ltb a a (le_refl a), sub_self a) (round_none c C)
nothing_left false a c C = rw (le-ltb a a (le_refl a), sub_self a) (round_none c C)

pub less_itself : (s : Bool) (m : ℕ) (e : ℤ) → eq (sub binary64 (fin s m e) (fin s m e)) Number.zero ≡ true
unfolding sub
less_itself s m e = nothing_left s (m * up e * down e) (down e * down e) (mul-pos (down_pos e) (down_pos e))

pub finite_test : (x : Float) → eq (sub binary64 x x) Number.zero ≡ finite x
unfolding sub eq
finite_test nan = refl
finite_test (inf true) = refl
finite_test (inf false) = refl
finite_test (fin s m e) = less_itself s m e

-- ---- a value that differs from itself
eq_self : (s : Bool) (m : ℕ) (e : ℤ) → eq (fin s m e) (fin s m e) ≡ true
eq_self s m e = eq_is (fin s m e) (fin s m e) tt tt ∙ eq-eqb (left (fin s m e) (fin s m e)) (right (fin s m e) (fin s m e)) refl

pub ne_nan : (x : Float) → ne x x ≡ is_nan x
unfolding ne is_nan
ne_nan nan = refl
ne_nan (inf true) = refl
ne_nan (inf false) = refl
ne_nan (fin s m e) = rw (eq_self s m e) refl

-- ---- flush_denormal
plus_from_zero : (m : ℕ) (e : ℤ) → le Number.zero (fin false m e) ≡ true
plus_from_zero m e = not-lt→le (fin false m e) Number.zero tt tt (lt_zero (fin false m e) tt ∙ le-ltb (m * up e) 0 (omega arith))

minus_to_zero : (m : ℕ) (e : ℤ) → le (fin true m e) Number.zero ≡ true
unfolding lt
minus_to_zero m e = not-lt→le Number.zero (fin true m e) tt tt refl

mirrored : (m n : ℕ) (e d : ℤ) → lt (fin true n d) (fin true m e) ≡ lt (fin false m e) (fin false n d)
unfolding lt
mirrored m n e d = refl

-- a magnitude is below a bound above 0 where the value lies between the bound and its negative
between : (n : ℕ) (d : ℤ) → lt Number.zero (fin false n d) ≡ true → lt (fin true n d) Number.zero ≡ true → (y : Float) → lt y (fin false n d) && lt (fin true n d) y ≡ lt (abs_of y) (fin false n d)
unfolding lt
between n d h k nan = refl
between n d h k (inf true) = refl
between n d h k (inf false) = refl
between n d h k (fin false m e) =
    ap (λ (b : Bool). lt (fin false m e) (fin false n d) && b) (lt_then_le (fin true n d) Number.zero (fin false m e) tt tt tt k (plus_from_zero m e))
    ∙ and_yes (lt (fin false m e) (fin false n d))
between n d h k (fin true m e) =
    ap (λ (b : Bool). b && lt (fin true n d) (fin true m e)) (le_then_lt (fin true m e) Number.zero (fin false n d) tt tt tt (minus_to_zero m e) h)
    ∙ mirrored m n e d

floor_between : (y : Float) → lt y denormal_floor && lt (neg denormal_floor) y ≡ lt (abs_of y) denormal_floor
unfolding of_bits neg lt
floor_between y = between _ _ refl refl y

module _ (x y : Float) (f : y ≡ finite_or_zero x) where
  pub flushed : lt y denormal_floor && lt (neg denormal_floor) y ≡ true → Number.zero ≡ flush_denormal x
  flushed h = rw (← f, sym (floor_between y) ∙ h) refl

  pub kept_loud : lt y denormal_floor && lt (neg denormal_floor) y ≡ false → y ≡ flush_denormal x
  kept_loud h = rw (← f, sym (floor_between y) ∙ h) refl
