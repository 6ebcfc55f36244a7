-- Sameness by bit patterns, on values that fit binary64, as every f64 of a program does.
use Rattle.std.proofs.Common.{◌≡◌, true, false, T, sym, refl, ap, ◌∙◌, add-zero, one-mul, zero-mul, mul-one, arith, eq-eqb, eqb-true}
use lib.Ieee.{Float, nan, inf, fin, binary64, to_bits, of_bits, fits, eq}
use lib.Ieee.Back.{whole_unique}
use lib.Ieee.Bits.{of_bits-to_bits}
use Rattle.arithmetic.specs.Number.{one, same_value}
use Rattle.arithmetic.proofs.Order.{left, right, clash, eq_is, den_pos}

pub same_self : (x : Float) → same_value x x ≡ true
same_self x = eq-eqb (to_bits binary64 x) (to_bits binary64 x) refl

pub same_value_lem : (x y : Float) → T (fits binary64 x) → T (fits binary64 y) → same_value x y ≡ true → x ≡ y
same_value_lem x y p q h = sym (of_bits-to_bits binary64 x p) ∙ ap (of_bits binary64) (eqb-true (to_bits binary64 x) (to_bits binary64 y) h) ∙ of_bits-to_bits binary64 y q

nan_bits_lem : of_bits binary64 (to_bits binary64 nan) ≡ nan
unfolding of_bits to_bits
nan_bits_lem = refl

-- the same value as a NaN is a NaN
pub same_nan : (y : Float) → T (fits binary64 y) → same_value nan y ≡ true → y ≡ nan
same_nan y p h = sym (of_bits-to_bits binary64 y p) ∙ ap (of_bits binary64) (sym (eqb-true (to_bits binary64 nan) (to_bits binary64 y) h)) ∙ nan_bits_lem

-- 1.0 is written in one way
pub one_same : (x : Float) → T (fits binary64 x) → eq x one ≡ true → x ≡ one
unfolding eq fits
one_same nan f h = clash false h refl
one_same (inf s) f h = clash false h refl
one_same (fin true m e) f h =
    let k = eqb-true (left (fin true m e) one) (right (fin true m e) one) (sym (eq_is (fin true m e) one tt tt) ∙ h) in
    absurd (let d = den_pos (fin true m e) in let l = simp (zero-mul, mul-one, one-mul, add-zero) at k in omega arith)
one_same (fin false m e) f h =
    let k = eqb-true (left (fin false m e) one) (right (fin false m e) one) (sym (eq_is (fin false m e) one tt tt) ∙ h) in
    let l = simp (zero-mul, mul-one, one-mul, add-zero) at k in
    whole_unique binary64 (fin false m e) one false 1 f tt (refl, simp (mul-one, one-mul) l) (refl, refl)
