-- "Times 2 to the k" rounds nothing: −k is at most 1010, and what is multiplied is 1/4 at least, so that its product with 2 to the k is a value of the format.
-- The law is `powered`, at the end, and `unpowered` where k is 0.
use Rattle.std.proofs.Common.{◌≡◌, ℕ, zero, suc, ◌+◌, ◌-◌, ◌*◌, ◌%◌, ◌^◌, ◌<◌, ◌≤◌, Bool, true, false, ◌&&◌, T, eqb, ltb, leb, ℤ, pos, negsuc, sym, refl, ap, ◌∙◌, subst, lt_trans, lt_of_lt_of_le, mul_assoc, mul-pos, one-mul, lt_of_not-le, mul-one, arith, lit<, lit≤, ltb→lt, pow_pos, pow_mono, pow-add, shl_lt, le-ltb}
use lib.Pow.{pow-lt}
use lib.Ieee.{Float, nan, inf, fin, binary64, up, down, round, add, sub, mul, fits}
use lib.Ieee.Exact.{HasValue, round_exact}
use lib.Ieee.Fits.{down_pos, add-fits, and_l, and_r}
use lib.Ieee.Positive.{num, den, den_pos}
use lib.Ieee.Scale.{finite}
use Rattle.arithmetic.specs.Number
use Rattle.arithmetic.specs.Number.{one, sign_of}
use Rattle.arithmetic.specs.Exp.{in_domain, high_of, steps_of, hi_of, lo_of, correction, combined, power_of, scaled, reduced, exp_of}
use Rattle.arithmetic.proofs.Power.{powers}
use Rattle.arithmetic.proofs.Cut.{sign_round}
use Rattle.arithmetic.proofs.Exp.{at_middle, past}
use Rattle.arithmetic.proofs.UnitBound.{exact, round_above, round_bound}
use Rattle.arithmetic.proofs.UnitScaled.{Small, widen, at_power, rest, rest_small}
use Rattle.arithmetic.proofs.UnitReduced.{own_value}
use Rattle.arithmetic.proofs.Unit.{unreduced, steps}

-- ---- 1 and a magnitude of at most 3/4 are 1/4 at least
-- a finite value without a sign, 1/4 at least
record Medium (y : Float) : Type 0 where
  no_sign : sign_of y ≡ false
  known : T (finite y)
  least : den y ≤ num y * 4

medium : (p c : ℕ) → 0 < c → c ≤ p * 4 → p ≤ 2 * c → Medium (round binary64 false p c)
medium p c C l h =
    let b = round_bound (exact 2 0 (lit< tt) (lit≤ tt)) false p c C (omega arith) in
    record {
      no_sign = sign_round binary64 false p c;
      known = b.known;
      least = omega (arith, round_above (exact 1 2 (lit< tt) (lit≤ tt)) p c C (omega arith) b.known);
    }

beside_one : (x : Float) → Small 48 x → Medium (add binary64 one x)
unfolding add
beside_one nan h = absurd h.known
beside_one (inf t) h = absurd h.known
beside_one (fin false m e) h = medium (1 * 1 * down e + m * up e * 1) (1 * down e) (omega (arith, down_pos e)) (omega arith) (omega (arith, h.most))
beside_one (fin true m e) h =
    rw (le-ltb (1 * 1 * down e) (m * up e * 1) (omega (arith, h.most)))
    (medium (1 * 1 * down e - m * up e * 1) (1 * down e) (omega (arith, down_pos e)) (omega (arith, h.most)) (omega arith))

-- ---- what fits the format and is 1/4 at least has no digit below 2 to the −54, so none of the product's is below 2 to the −1074
few_digits : (k m : ℕ) → m < 2 ^ 53 → 2 ^ k ≤ m * 4 → k < 55
few_digits k m h l = lt_of_not-le (λ g. absurd (omega (arith, pow_mono {i = 55} {j = k} g)))

-- m × 2 to the e − n is m × 2 to the j smallest values
record Whole (m : ℕ) (e : ℤ) (n : ℕ) : Type 0 where
  digits : m < 2 ^ 53
  j : ℕ
  is : up e * 2 ^ 1074 ≡ 2 ^ j * (down e * 2 ^ n)
  fine : m * 2 ^ j < 2 ^ 2098

whole : (n : ℕ) → n ≤ 1010 → (s : Bool) (m : ℕ) (e : ℤ) → T (fits binary64 (fin s m e)) → down e ≤ m * up e * 4 → Whole m e n
unfolding fits
whole n N s zero e f l = absurd (omega (arith, down_pos e))
whole n N s (suc m) (pos k) f l =
    let a = eqb (suc m % 2) 1 && ltb (suc m) (2 ^ 53) in
    let b = a && leb 1 (2 ^ 1074) in
    let top = ltb→lt (suc m * 2 ^ k) (2 ^ 1024 * 1) (and_r b (ltb (suc m * 2 ^ k) (2 ^ 1024 * 1)) f) in
    let i = 1074 - n in
    record {
      digits = ltb→lt (suc m) (2 ^ 53) (and_r (eqb (suc m % 2) 1) (ltb (suc m) (2 ^ 53)) (and_l a (leb 1 (2 ^ 1074)) (and_l b (ltb (suc m * 2 ^ k) (2 ^ 1024 * 1)) f)));
      j = k + i;
      is = sym (pow-add 2 k 1074) ∙ powers (k + 1074) (k + i) n (omega arith) ∙ ap (λ (z : ℕ). 2 ^ (k + i) * z) (sym (one-mul (2 ^ n)));
      fine = subst (λ (z : ℕ). z < 2 ^ 2098) (mul_assoc (suc m) (2 ^ k) (2 ^ i) ∙ ap (λ (z : ℕ). suc m * z) (sym (pow-add 2 k i)))
          (lt_of_lt_of_le (shl_lt {a = suc m * 2 ^ k} 1024 i (subst (λ (z : ℕ). suc m * 2 ^ k < z) (mul-one (2 ^ 1024)) top)) (pow_mono {i = 1024 + i} {j = 2098} (omega arith)));
    }
whole n N s (suc m) (negsuc k) f l =
    let a = eqb (suc m % 2) 1 && ltb (suc m) (2 ^ 53) in
    let b = a && leb (2 ^ suc k) (2 ^ 1074) in
    let digits = ltb→lt (suc m) (2 ^ 53) (and_r (eqb (suc m % 2) 1) (ltb (suc m) (2 ^ 53)) (and_l a (leb (2 ^ suc k) (2 ^ 1074)) (and_l b (ltb (suc m * 1) (2 ^ 1024 * 2 ^ suc k)) f))) in
    let few = few_digits (suc k) (suc m) digits (omega arith) in
    let i = 1074 - n - suc k in
    record {
      digits = digits;
      j = i;
      is = one-mul (2 ^ 1074) ∙ powers 1074 i (suc k + n) (omega arith) ∙ ap (λ (z : ℕ). 2 ^ i * z) (pow-add 2 (suc k) n);
      fine = lt_trans (shl_lt {a = suc m} 53 i digits) (pow-lt {i = 53 + i} {j = 2098} (omega arith));
    }

power_exact : (n : ℕ) → n ≤ 1010 → (y : Float) → T (fits binary64 y) → Medium y → HasValue (mul binary64 y (power_of n)) false (num y) (den y * 2 ^ n)
power_exact n N nan f y = absurd y.known
power_exact n N (inf s) f y = absurd y.known
power_exact n N (fin s m e) f y =
    let w = whole n N s m e f y.least in
    let i = w.j in
    subst (λ (z : Float). HasValue z false (m * up e) (down e * 2 ^ n)) (sym (at_power n (fin s m e) y.no_sign tt))
    (round_exact binary64 false (m * up e) (down e * 2 ^ n) m i (mul-pos (down_pos e) (pow_pos n)) w.digits w.fine
    (mul_assoc m (up e) (2 ^ 1074) ∙ ap (λ (z : ℕ). m * z) w.is ∙ sym (mul_assoc m (2 ^ i) (down e * 2 ^ n))))

-- ---- the law
-- y has the value a / c, and v the value a / (c × 2^n): the quotient of y by 2^n, not rounded
pub record Divided (y : Float) (n : ℕ) (v : Float) : Type 0 where
  pub top : ℕ
  pub bottom : ℕ
  pub positive : 0 < bottom
  pub before : HasValue y false top bottom
  pub after : HasValue v false top (bottom * 2 ^ n)

-- the sum 1 + (x × c / (2 − c) − lo + hi) that is multiplied by 2 to the k
abbrev pub summed : Float → Float → Float → Float
summed r hi lo = combined r (correction r (mul binary64 r r)) hi lo

divided : (r hi lo : Float) (n : ℕ) → Small 32 r → Small 24 hi → Small 1 lo → n ≤ 1010 → Divided (summed r hi lo) n (scaled r hi lo n)
divided r hi lo n R h l N =
    let y = summed r hi lo in
    let t = beside_one (rest r R hi lo) (rest_small r R hi lo h l) in
    record {
      top = num y;
      bottom = den y;
      positive = den_pos y;
      before = own_value y t.no_sign t.known;
      after = power_exact n N y (add-fits binary64 one (rest r R hi lo)) t;
    }

-- where k is not 0: n = −k is 1 to 1010, and the answer is the sum divided by 2^n exactly
pub record Powered (x : Float) (n : ℕ) : Type 0 where
  pub some : 0 < n
  pub few : n ≤ 1010
  pub exactly : Divided (summed (sub binary64 (hi_of x n) (lo_of n)) (hi_of x n) (lo_of n)) n (exp_of x)

pub powered : (x : Float) → in_domain x ≡ true → 0x3fd6_2e42 < high_of x → Powered x (steps_of (high_of x) x)
powered x d k =
    let n = steps_of (high_of x) x in
    let s = steps x d k in
    let q = s.reduces in
    record {
      some = s.some;
      few = s.few;
      exactly = subst (Divided (summed (sub binary64 (hi_of x n) (lo_of n)) (hi_of x n) (lo_of n)) n) (sym is) (divided (sub binary64 (hi_of x n) (lo_of n)) (hi_of x n) (lo_of n) n q.argument q.high q.low s.few);
    }
  where
    is : exp_of x ≡ reduced x (steps_of (high_of x) x)
    is = unfold exp_of in past (high_of x) x (exp_of x) k

-- where k is 0: the answer is the sum, divided by 1
pub unpowered : (x : Float) → in_domain x ≡ true → 0x3e30_0000 < high_of x → high_of x ≤ 0x3fd6_2e42 → Divided (summed x x Number.zero) 0 (exp_of x)
unpowered x d a b =
    let X = unreduced x d b in
    subst (Divided (summed x x Number.zero) 0) is (divided x x Number.zero 0 (widen 32 x (lit≤ tt) X) X (record { known = tt; most = lit≤ tt }) (lit≤ tt))
  where
    is : scaled x x Number.zero 0 ≡ exp_of x
    is = unfold exp_of in at_middle (high_of x) x (scaled x x Number.zero 0) a b refl
