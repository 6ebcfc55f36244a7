-- −k is at most 1010 for −700 to 0: the steps from −x to it keep the order, and at 700 they end below 1011.
use Rattle.std.proofs.Common.{◌≡◌, ℕ, zero, suc, ◌+◌, ◌*◌, ◌/◌, ◌^◌, ◌<◌, ◌≤◌, Bool, true, false, cond, not, T, ltb, ℤ, pos, negsuc, sym, refl, ap, ◌∙◌, subst, mul_assoc, mul_comm, div-lt_iff_lt-mul, mul-le-mul_left, mul-pos, zero-mul, mul-one, mul_left_comm, arith, lit<, leb-true}
use native.Mathlib.Nat.{zero-div}
use lib.Ieee.{Float, nan, inf, fin, Format, binary64, prec, emax, low, up, down, odd, units, round, neg, add, sub, mul, lt, le, to_bits, to_unsigned, of_bits}
use lib.Ieee.Bits.{is_true}
use lib.Ieee.Fits.{round_is, down_pos}
use lib.Ieee.Order.{round_mono}
use lib.Ieee.Scale.{finite}
use Rattle.arithmetic.specs.Number
use Rattle.arithmetic.specs.Number.{sign_of}
use Rattle.arithmetic.specs.Exp.{half, minus700, in_domain, high_of, cutting}
use Rattle.arithmetic.proofs.Order.{left, right, le_is, clash, and-true, lt_then_le, le_then_lt}
use Rattle.arithmetic.proofs.Within.{within→finite}

-- ---- the sign goes through rounding
neg-odd : (d : ℕ) (s : Bool) (q k l : ℕ) → neg (odd d s q k l) ≡ odd d (not s) q k l
unfolding neg odd
neg-odd d s zero k l = refl
neg-odd d s (suc q) k l = refl

neg-units : (f : Format) (s : Bool) (q k : ℕ) → neg (units f s q k) ≡ units f (not s) q k
unfolding units neg
neg-units f s q k = go (ltb (q * 2 ^ k) (2 ^ (low f + suc (emax f))))
  where
    go : (t : Bool) → neg (cond t (odd (suc (prec f)) s q k (low f)) (inf s)) ≡ cond t (odd (suc (prec f)) (not s) q k (low f)) (inf (not s))
    go true = neg-odd (suc (prec f)) s q k (low f)
    go false = refl

pub neg-round : (f : Format) (s : Bool) (a c : ℕ) → neg (round f s a c) ≡ round f (not s) a c
neg-round f s a c = ap neg (round_is f s a c) ∙ neg-units f s _ _ ∙ sym (round_is f (not s) a c)

sign_odd : (d : ℕ) (s : Bool) (q k l : ℕ) → sign_of (odd d s q k l) ≡ s
unfolding odd
sign_odd d s zero k l = refl
sign_odd d s (suc q) k l = refl

pub sign_round : (f : Format) (s : Bool) (a c : ℕ) → sign_of (round f s a c) ≡ s
unfolding units
sign_round f s a c = ap sign_of (round_is f s a c) ∙ go _ _
  where
    go : (q k : ℕ) → sign_of (units f s q k) ≡ s
    go q k = at (ltb (q * 2 ^ k) (2 ^ (low f + suc (emax f))))
      where
        at : (t : Bool) → sign_of (cond t (odd (suc (prec f)) s q k (low f)) (inf s)) ≡ s
        at true = sign_odd (suc (prec f)) s q k (low f)
        at false = refl

-- ---- what 700 becomes
abbrev product700 : Float
product700 = fin false 8883055847636247 (negsuc 42)

abbrev sum700 : Float
sum700 = fin false 8887453894147351 (negsuc 42)

at_product : round binary64 false (3248660424278399 * 1 * 700) (2 ^ 51 * 1) ≡ product700
unfolding round
at_product = refl

at_sum : round binary64 false (8883055847636247 * 1 * 2 + 1 * 1 * 2 ^ 43) (2 ^ 43 * 2) ≡ sum700
unfolding round
at_sum = refl

scaled_le : (i t n d : ℕ) → n ≤ 700 * d → i * 1 * n * (t * 1) ≤ i * 1 * 700 * (t * d)
scaled_le i t n d h = simp (mul-one, mul_assoc, mul_comm) (simp (mul_assoc, mul_left_comm) at (mul-le-mul_left (i * t) h))

product_le : (n d : ℕ) → 0 < d → n ≤ 700 * d → le (round binary64 false (3248660424278399 * 1 * n) (2 ^ 51 * d)) product700 ≡ true
product_le n d D h =
    subst (λ (z : Float). le (round binary64 false (3248660424278399 * 1 * n) (2 ^ 51 * d)) z ≡ true) at_product
    (is_true _ (round_mono binary64 (3248660424278399 * 1 * n) (2 ^ 51 * d) (3248660424278399 * 1 * 700) (2 ^ 51 * 1) (mul-pos (lit< tt) D) (lit< tt) (scaled_le 3248660424278399 (2 ^ 51) n d h)))

-- rounding gives nothing below zero
pub zero_round : (a c : ℕ) → 0 < c → le Number.zero (round binary64 false a c) ≡ true
zero_round a c C =
    subst (λ (z : Float). le z (round binary64 false a c) ≡ true) nothing
    (is_true _ (round_mono binary64 0 1 a c (lit< tt) C (simp zero-mul (omega arith))))
  where
    nothing : round binary64 false 0 1 ≡ Number.zero
    nothing = unfold round in refl

abbrev pub opened : Float → Float
opened y = add binary64 y (fin false 1 (negsuc 0))

sum-le : (n d : ℕ) → n * 2 ^ 43 ≤ 8883055847636247 * d → (n * 2 + 1 * 1 * d) * (2 ^ 43 * 2) ≤ (8883055847636247 * 1 * 2 + 1 * 1 * 2 ^ 43) * (d * 2)
sum-le n d h = omega arith

-- a y from 0 to `product700` and half more lies from 0 to `sum700`
half_more : (y : Float) → sign_of y ≡ false → T (finite y) → le y product700 ≡ true → (le Number.zero (opened y) ≡ true) × (le (opened y) sum700 ≡ true)
half_more nan s p h = absurd p
half_more (inf t) s p h = absurd p
half_more (fin true m e) s p h = clash true refl s
half_more (fin false m e) s p h = (
  rw add_is (zero_round (m * up e * 2 + 1 * 1 * down e) (down e * 2) (mul-pos (down_pos e) (lit< tt))),
  rw add_is
      (subst (λ (z : Float). le (round binary64 false (m * up e * 2 + 1 * 1 * down e) (down e * 2)) z ≡ true) at_sum
      (is_true _
      (round_mono binary64 (m * up e * 2 + 1 * 1 * down e) (down e * 2) (8883055847636247 * 1 * 2 + 1 * 1 * 2 ^ 43) (2 ^ 43 * 2) (mul-pos (down_pos e) (lit< tt)) (lit< tt)
      (sum-le (m * up e) (down e) (omega (arith, leb-true (left (fin false m e) product700) (right (fin false m e) product700) (sym (le_is (fin false m e) product700 tt tt) ∙ h))))))),
)
  where
    add_is : opened (fin false m e) ≡ round binary64 false (m * up e * 2 + 1 * 1 * down e) (down e * 2)
    add_is = unfold add in refl

-- ---- the steps at −x
-- −(y − 1/2) with y negative is its magnitude and half more
pub turned : (y : Float) → sign_of y ≡ false → T (finite y) → neg (sub binary64 (neg y) half) ≡ opened y
unfolding sub neg of_bits
turned nan s p = absurd p
turned (inf t) s p = absurd p
turned (fin true m e) s p = clash true refl s
turned (fin false m e) s p = neg-round binary64 true (m * up e * 2 + 1 * 1 * down e) (down e * 2)

-- what a cut at z, from 0 to `sum700`, may rely on
pub record Bounded (z : Float) : Type 0 where
  pub above : lt (fin true 1 (pos 0)) z ≡ true
  pub below : lt z (fin false 1 (pos 64)) ≡ true
  pub small : to_unsigned 64 z ≤ 1010

few : (z : Float) → T (finite z) → le z sum700 ≡ true → to_unsigned 64 z ≤ 1010
unfolding to_unsigned
few nan p h = absurd p
few (inf t) p h = absurd p
few (fin true m e) p h = omega arith
few (fin false m e) p h =
    let k = leb-true (left (fin false m e) sum700) (right (fin false m e) sum700) (sym (le_is (fin false m e) sum700 tt tt) ∙ h) in
    let l : m * up e / down e < 1011 = (div-lt_iff_lt-mul (down_pos e)).1 (omega (arith, down_pos e)) in
    omega arith

bounded : (z : Float) → le Number.zero z ≡ true → le z sum700 ≡ true → Bounded z
unfolding lt
bounded z h k =
    let p = within→finite Number.zero sum700 tt tt z (rw (h, k) refl) in
    record {
      above = lt_then_le (fin true 1 (pos 0)) Number.zero z tt tt p refl h;
      below = le_then_lt z sum700 (fin false 1 (pos 64)) p tt tt k refl;
      small = few z p k;
    }

-- the magnitude of an x from −700 on
pub magnitude : (m : ℕ) (e : ℤ) → le minus700 (fin true m e) ≡ true → m * up e ≤ 700 * down e
unfolding of_bits
magnitude m e h = omega (arith, leb-true (left (fin true 175 (pos 2)) (fin true m e)) (right (fin true 175 (pos 2)) (fin true m e)) (sym (le_is (fin true 175 (pos 2)) (fin true m e) tt tt) ∙ h))

below-zero : (m : ℕ) (e : ℤ) → le minus700 (fin true m e) ≡ true → Bounded (cutting (fin true m e))
unfolding mul of_bits
below-zero m e h =
    let a = 3248660424278399 * 1 * (m * up e) in
    let c = 2 ^ 51 * down e in
    let C = mul-pos {m = 2 ^ 51} (lit< tt) (down_pos e) in
    let y = round binary64 false a c in
    let k = product_le (m * up e) (down e) (down_pos e) (magnitude m e h) in
    let p = within→finite Number.zero product700 tt tt y (rw (zero_round a c C, k) refl) in
    let o = half_more y (sign_round binary64 false a c) p k in
    subst Bounded (sym (ap (λ (z : Float). neg (sub binary64 z half)) (sym (neg-round binary64 false a c)) ∙ turned y (sign_round binary64 false a c) p)) (bounded (opened y) o.0 o.1)

-- what is not above zero and has no sign is zero, whose upper bits are 0
no_bits : (m : ℕ) (e : ℤ) → le (fin false m e) Number.zero ≡ true → high_of (fin false m e) ≡ 0
unfolding to_bits
no_bits m e h =
    let z : m * up e ≡ 0 = omega (arith, leb-true (left (fin false m e) Number.zero) (right (fin false m e) Number.zero) (sym (le_is (fin false m e) Number.zero tt tt) ∙ h)) in
    rw (z, zero-div (down e)) refl

pub cut_bounded : (x : Float) → in_domain x ≡ true → 0 < high_of x → Bounded (cutting x)
unfolding le of_bits
cut_bounded nan d h = clash false d refl
cut_bounded (inf true) d h = clash false d refl
cut_bounded (inf false) d h = clash false d refl
cut_bounded (fin true m e) d h = below-zero m e (and-true (le minus700 (fin true m e)) (le (fin true m e) Number.zero) d).0
cut_bounded (fin false m e) d h = absurd (omega (arith, no_bits m e (and-true (le minus700 (fin false m e)) (le (fin false m e) Number.zero) d).1))
