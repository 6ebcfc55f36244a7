-- A quotient of a value by one that is not larger: it is never below 1, or it is a NaN.
use Rattle.std.proofs.Common.{◌≡◌, ℕ, ◌*◌, ◌<◌, ◌≤◌, Bool, true, false, cond, ◌||◌, T, eqb, ℤ, pos, sym, refl, ◌∙◌, subst, inl, inr, eq-zero-or-pos, mul-pos, arith, lit<, eqb-true}
use lib.Ieee.{Float, nan, inf, fin, binary64, up, down, round, div, lt, le, is_nan, fits}
use lib.Ieee.Back.{whole_unique}
use lib.Ieee.Bits.{is_true}
use lib.Ieee.Fits.{up_pos, down_pos, round-fits}
use lib.Ieee.Order.{round_mono}
use borrow.Author.Tests.{eqb-false}
use Rattle.arithmetic.specs.Number.{one, sign_of, min_of}
use Rattle.arithmetic.proofs.Order.{left, right, eq_is, clash, not-lt→le, le-both→eq}
use Rattle.arithmetic.proofs.Cut.{sign_round}
use Rattle.arithmetic.proofs.Within.{not_le_nan}
use Rattle.arithmetic.proofs.UnitBound.{le→numbers}

-- ---- a fraction that is not below 1, rounded
one_fits : T (fits binary64 one)
unfolding fits
one_fits = tt

is_one : (r : Float) → T (fits binary64 r) → sign_of r ≡ false → le one r ≡ true → min_of r one ≡ one
unfolding lt is_nan
is_one nan f s h = refl
is_one (inf true) f s h = clash true refl s
is_one (inf false) f s h = refl
is_one (fin true m e) f s h = clash true refl s
is_one (fin false m e) f s h = go (lt one (fin false m e)) refl
  where
    go : (b : Bool) → lt one (fin false m e) ≡ b → cond (lt one (fin false m e) || false) one (fin false m e) ≡ one
    go true k = rw k refl
    go false k =
        rw k
        (whole_unique binary64 (fin false m e) one false 1 f one_fits
        (refl, omega (arith, eqb-true (left (fin false m e) one) (right (fin false m e) one) (sym (eq_is (fin false m e) one tt tt) ∙ le-both→eq (fin false m e) one tt tt (not-lt→le one (fin false m e) tt tt k) h)))
        (refl, refl))

ratio : (a c : ℕ) → 0 < c → c ≤ a → min_of (round binary64 false a c) one ≡ one
ratio a c C h =
    is_one (round binary64 false a c) (round-fits binary64 false a c) (sign_round binary64 false a c)
    (subst (λ (z : Float). le z (round binary64 false a c) ≡ true) whole (is_true _ (round_mono binary64 1 1 a c (lit< tt) C (omega arith))))
  where
    whole : round binary64 false 1 1 ≡ one
    whole = unfold round in refl

-- ---- the quotient
none : (m : ℕ) (e d : ℤ) → m * up e * down d ≡ 0 → m ≡ 0
none m e d h = elim (eq-zero-or-pos m) [ inl z ↦ z | inr g ↦ absurd (let k = mul-pos (mul-pos g (up_pos e)) (down_pos d) in omega arith) ]

-- a value with a plus sign that is at most one with a minus sign: both are zeros
zeros : (n : ℕ) (d : ℤ) (m : ℕ) (e : ℤ) → le (fin false n d) (fin true m e) ≡ true → (n ≡ 0) × (m ≡ 0)
zeros n d m e h =
    let k = le→numbers (fin false n d) (fin true m e) tt tt h in
    (none n d e (omega arith), none m e d (omega arith))

-- "The larger over the smaller, or 1 where that is a NaN or above 1" is 1. The smaller one has no minus sign: one over minus zero would be below 1.
pub no_less_than_one : (target p : Float) → sign_of p ≡ false → le p target ≡ true → min_of (div binary64 target p) one ≡ one
unfolding div lt le is_nan
no_less_than_one nan p s h = clash (le p nan) h (not_le_nan p)
no_less_than_one (inf t) nan s h = clash false h refl
no_less_than_one (inf t) (inf u) s h = refl
no_less_than_one (inf true) (fin u n d) s h = clash false h refl
no_less_than_one (inf false) (fin true n d) s h = clash true refl s
no_less_than_one (inf false) (fin false n d) s h = refl
no_less_than_one (fin t m e) nan s h = clash false h refl
no_less_than_one (fin t m e) (inf true) s h = clash true refl s
no_less_than_one (fin t m e) (inf false) s h = clash false h refl
no_less_than_one (fin t m e) (fin true n d) s h = clash true refl s
no_less_than_one (fin true m e) (fin false n d) s h = let k = zeros n d m e h in rw (k.0, k.1) refl
no_less_than_one (fin false m e) (fin false n d) s h = go (eqb n 0) refl (eqb m 0)
  where
    go : (b : Bool) → eqb n 0 ≡ b → (z : Bool) → min_of (cond b (cond z nan (inf false)) (round binary64 false (m * up e * down d) (n * up d * down e))) one ≡ one
    go true k true = refl
    go true k false = refl
    go false k z =
        ratio (m * up e * down d) (n * up d * down e) (elim (eq-zero-or-pos n) [ inl q ↦ absurd (eqb-false n 0 k q) | inr g ↦ mul-pos (mul-pos g (up_pos d)) (down_pos e) ]) (omega (arith, le→numbers (fin false n d) (fin false m e) tt tt h))

-- why the sign is asked: 1 over minus zero
pub below_one : min_of (div binary64 one (fin true 0 (pos 0))) one ≡ inf true
unfolding div lt is_nan
below_one = refl
