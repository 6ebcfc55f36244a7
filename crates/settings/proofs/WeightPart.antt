-- The product of a weight and 2^60 is exact, so its whole part is the definition's.
use Rattle.std.proofs.Common.{◌≡◌, ℕ, zero, suc, ◌+◌, ◌-◌, ◌*◌, ◌/◌, ◌%◌, ◌^◌, ◌<◌, ◌≤◌, Bool, true, false, ◌&&◌, T, eqb, ltb, leb, ℤ, pos, negsuc, sym, refl, ap, ◌∙◌, subst, le_trans, lt_trans, le_of_eq, lt_of_le_of_lt, mul-le-mul_right, mul_assoc, mul-pos, one-mul, mul-one, sub-add_cancel, not-le_of_lt, arith, lit<, lt→ltb, pow_pos, pow-add, shl_lt, ltb-true, lt-ltb, leb-false, leb-true}
use native.Mathlib.Nat.{div-le_of_le-mul}
use lib.Pow.{pow-lt}
use lib.Ieee.{Float, nan, inf, fin, binary64, up, down, lt, le, mul, round, fits, to_unsigned}
use lib.Ieee.Fits.{up_pos, down_pos}
use lib.Ieee.Positive.{first_pos}
use lib.Ieee.Exact.{HasValue, round_exact}
use lib.Ieee.Nearest.{div_same}
use Rattle.arithmetic.specs.Number
use Rattle.arithmetic.specs.Number.{one}
use Rattle.arithmetic.proofs.Order.{clash, and-true, left, right, le_is}
use Rattle.arithmetic.proofs.Values.{lt_values}
use Rattle.arithmetic.proofs.Whole.{over_zero, cut_low, digits}
use Rattle.settings.specs.Weights.{in_unit, part_of}

-- the exponent of a value that the format holds is −1074 at least
reach : (s : Bool) (m k : ℕ) → 0 < m → fits binary64 (fin s m (negsuc k)) ≡ true → suc k ≤ 1074
unfolding fits
reach s zero k M h = absurd (omega arith)
reach s (suc m) k M h =
    let d = (and-true (eqb (suc m % 2) 1 && ltb (suc m) (2 ^ 53)) (leb (2 ^ suc k) (2 ^ 1074)) (and-true (eqb (suc m % 2) 1 && ltb (suc m) (2 ^ 53) && leb (2 ^ suc k) (2 ^ 1074)) (ltb (suc m * 1) (2 ^ 1024 * 2 ^ suc k)) h).0).1 in
    go (leb (suc k) 1074) refl (leb-true (2 ^ suc k) (2 ^ 1074) d)
  where
    go : (b : Bool) → leb (suc k) 1074 ≡ b → 2 ^ suc k ≤ 2 ^ 1074 → suc k ≤ 1074
    go true e l = leb-true (suc k) 1074 e
    go false e l = absurd (not-le_of_lt (pow-lt {i = 1074} {j = suc k} (leb-false (suc k) 1074 e)) l)

-- w × 2^60, as the fraction that it is
exact : (m : ℕ) (e : ℤ) → fits binary64 (fin false m e) ≡ true → 0 < m → m * up e ≤ down e
    → HasValue (mul binary64 (fin false m e) (fin false 1 (pos 60))) false (m * up e * 2 ^ 60) (down e)
unfolding mul
exact m (pos k) f M h =
    round_exact binary64 false (m * 2 ^ k * 2 ^ 60) 1 m (k + 1134) (lit< tt) (digits false m (pos k) f)
    (lt_of_le_of_lt (low_enough m k h) (pow-lt {i = 1134} {j = 2098} (lit< tt))) (whole m k)
  where
    low_enough : (m k : ℕ) → m * 2 ^ k ≤ 1 → m * 2 ^ (k + 1134) ≤ 2 ^ 1134
    low_enough m k h = rw (pow-add 2 k 1134) (le_trans (le_of_eq (sym (mul_assoc m (2 ^ k) (2 ^ 1134)))) (le_trans (mul-le-mul_right (2 ^ 1134) h) (le_of_eq (one-mul (2 ^ 1134)))))

    whole : (m k : ℕ) → m * 2 ^ k * 2 ^ 60 * 2 ^ 1074 ≡ m * 2 ^ (k + 1134) * 1
    whole m k = rw (pow-add 2 k 1134, mul-one (m * (2 ^ k * 2 ^ 1134))) (simp mul_assoc)
exact m (negsuc k) f M h =
    subst (λ (d : ℕ). HasValue (round binary64 false (m * 1 * 2 ^ 60) (2 ^ suc k * 1)) false (m * 1 * 2 ^ 60) d) (mul-one (2 ^ suc k))
    (round_exact binary64 false (m * 1 * 2 ^ 60) (2 ^ suc k * 1) m (1134 - suc k) (mul-pos (pow_pos (suc k)) (lit< tt)) (digits false m (negsuc k) f) (lt_trans (shl_lt {a = m} 53 (1134 - suc k) (digits false m (negsuc k) f)) (pow-lt {i = 53 + (1134 - suc k)} {j = 2098} (omega arith))) (shifted m k (reach false m k M f)))
  where
    shifted : (m k : ℕ) → suc k ≤ 1074 → m * 1 * 2 ^ 60 * 2 ^ 1074 ≡ m * 2 ^ (1134 - suc k) * (2 ^ suc k * 1)
    shifted m k h =
        let j : 2 ^ (1134 - suc k) * 2 ^ suc k ≡ 2 ^ 1134 = sym (pow-add 2 (1134 - suc k) (suc k)) ∙ ap (λ (z : ℕ). 2 ^ z) (sub-add_cancel {n = 1134} {m = suc k} (omega arith)) in
        rw (mul-one m, mul-one (2 ^ suc k), mul_assoc m (2 ^ (1134 - suc k)) (2 ^ suc k), j) (mul_assoc m (2 ^ 60) (2 ^ 1074))

-- what the cut of w × 2^60 may rely on, and gives
pub record Cut (w : Float) : Type 0 where
  pub above : T (lt (fin true 1 (pos 0)) (mul binary64 w (fin false 1 (pos 60))))
  pub below : T (lt (mul binary64 w (fin false 1 (pos 60))) (fin false 1 (pos 64)))
  pub part : to_unsigned 64 (mul binary64 w (fin false 1 (pos 60))) ≡ part_of w
  pub most : part_of w ≤ 2 ^ 60

-- the whole part of a value that is the fraction n / d, below 2^64
whole : (x : Float) (n d : ℕ) → 0 < d → HasValue x false n d → n / d < 2 ^ 64 → to_unsigned 64 x ≡ n / d
unfolding to_unsigned
whole nan n d D v h = absurd v
whole (inf s) n d D v h = absurd v
whole (fin true m e) n d D v h = clash true refl v.0
whole (fin false m e) n d D v h =
    let k : m * up e / down e ≡ n / d = div_same (m * up e) (down e) n d (down_pos e) D v.1 in
    omega arith

cut_of : (m : ℕ) (e : ℤ) → fits binary64 (fin false m e) ≡ true → 0 < m → m * up e ≤ down e → Cut (fin false m e)
cut_of m e f M h =
    let n = m * up e in
    let x = mul binary64 (fin false m e) (fin false 1 (pos 60)) in
    let v = exact m e f M h in
    let N = mul-pos M (up_pos e) in
    let D = down_pos e in
    let o : n * 2 ^ 60 / down e ≤ 2 ^ 60 = div-le_of_le-mul (down e) (mul-le-mul_right (2 ^ 60) h) in
    record {
      above = cut_low x (lt_values Number.zero x 0 1 (n * 2 ^ 60) (down e) (lit< tt) D (refl, refl) v ∙ lt-ltb (0 * down e) (n * 2 ^ 60 * 1) (omega arith));
      below = subst T (sym (lt_values x (fin false 1 (pos 64)) (n * 2 ^ 60) (down e) (2 ^ 64) 1 D (lit< tt) v (refl, refl))) (lt→ltb (n * 2 ^ 60 * 1) (2 ^ 64 * down e) (omega arith));
      part = whole x (n * 2 ^ 60) (down e) D v (omega arith);
      most = o;
    }

pub cut_weight : (w : Float) → fits binary64 w ≡ true → in_unit w ≡ true → Cut w
cut_weight w f h =
    let k = and-true (lt Number.zero w) (le w one) h in
    over_zero (λ w. lt Number.zero w ≡ true → fits binary64 w ≡ true → le w one ≡ true → Cut w) (λ p f l. unfold le in clash false l refl) unit w k.0 k.0 f k.1
  where
    unit : (m : ℕ) (e : ℤ) → lt Number.zero (fin false m e) ≡ true → fits binary64 (fin false m e) ≡ true → le (fin false m e) one ≡ true → Cut (fin false m e)
    unit m e p f l =
        let g = ltb-true (0 * down e) (m * up e * 1) (sym (lt_values Number.zero (fin false m e) 0 1 (m * up e) (down e) (lit< tt) (down_pos e) (refl, refl) (refl, refl)) ∙ p) in
        let b = leb-true (left (fin false m e) one) (right (fin false m e) one) (sym (le_is (fin false m e) one tt tt) ∙ l) in
        cut_of m e f (first_pos m (up e) (omega arith)) (omega arith)
