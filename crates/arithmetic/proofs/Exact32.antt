-- Narrowing changes no f32: a value that binary32 holds is narrowed to itself, so 32 bits widened and narrowed come back, but for a NaN's.
use Rattle.std.proofs.Common.{◌≡◌, ℕ, zero, suc, ◌+◌, ◌-◌, ◌*◌, ◌/◌, ◌%◌, ◌^◌, ◌<◌, ◌≤◌, Bool, cond, not, ◌&&◌, T, eqb, ltb, leb, ℤ, pos, negsuc, sym, refl, ap, ◌∙◌, subst, le_of_suc-le-suc, mul-le-mul_right, mul_assoc, mul_comm, mul-lt-mul_of_pos_right, one-mul, lt_of_not-le, zero-mul, mul-one, mul_right_comm, not-le_of_lt, mul_left_comm, arith, ltb→lt, leb→le, pow_pos, pow-add}
use native.Mathlib.Nat.{eq_of_mul-eq-mul_right}
use lib.Pow.{pow-lt}
use lib.Ieee.{Float, nan, inf, fin, Format, binary32, prec, emax, low, hid, top, up, down, size, round, fits, is_nan, of_bits, to_bits}
use lib.Ieee.Bits.{of_bits-to_bits, of_bits-fits, to_bits-of_bits}
use lib.Ieee.Exact.{HasValue, round_exact}
use lib.Ieee.Fits.{down_pos, round-fits, and_l, and_r}
use lib.Ieee.Nearest.{div_same}
use Rattle.arithmetic.specs.Narrow.{widened, narrowed}

-- ---- a value of a format is determined by its sign and its magnitude
crossed : (x y de dd a c : ℕ) → 0 < c → x * c ≡ a * de → y * c ≡ a * dd → x * dd ≡ y * de
crossed x y de dd a c C p q =
    eq_of_mul-eq-mul_right c C (x * dd) (y * de)
    (mul_right_comm x dd c ∙ ap (λ (z : ℕ). z * dd) p ∙ mul_right_comm a de dd ∙ ap (λ (z : ℕ). z * de) (sym q) ∙ mul_right_comm y c de)

same_bits : (f : Format) (x y : Float) (s : Bool) (a c : ℕ) → 0 < c → HasValue x s a c → HasValue y s a c → to_bits f x ≡ to_bits f y
unfolding to_bits
same_bits f nan y s a c C v w = absurd v
same_bits f (inf t) y s a c C v w = absurd v
same_bits f (fin t m e) nan s a c C v w = absurd w
same_bits f (fin t m e) (inf u) s a c C v w = absurd w
same_bits f (fin t m e) (fin u n g) s a c C v w =
    let l = 2 ^ low f in
    ap (λ (b : Bool). cond b (top f) 0 + (size (m * up e * l / down e) - prec f) * hid f + m * up e * l / down e / 2 ^ (size (m * up e * l / down e) - prec f)) (v.0 ∙ sym w.0)
    ∙ ap (λ (z : ℕ). cond u (top f) 0 + (size z - prec f) * hid f + z / 2 ^ (size z - prec f))
    (div_same (m * up e * l) (down e) (n * up g * l) (down g) (down_pos e) (down_pos g)
    (mul_right_comm (m * up e) l (down g) ∙ ap (λ (z : ℕ). z * l) (crossed (m * up e) (n * up g) (down e) (down g) a c C v.1 w.1) ∙ mul_right_comm (n * up g) (down e) l))

pub value_unique : (f : Format) (x y : Float) (s : Bool) (a c : ℕ) → 0 < c → T (fits f x) → T (fits f y) → HasValue x s a c → HasValue y s a c → x ≡ y
value_unique f x y s a c C p q v w = sym (of_bits-to_bits f x p) ∙ ap (of_bits f) (same_bits f x y s a c C v w) ∙ of_bits-to_bits f y q

-- ---- m × 2^e, where the format f holds it, is m × 2^j of the format's smallest values
pub record Digits (f : Format) (m : ℕ) (e : ℤ) : Type 0 where
  pub few : m < 2 ^ prec f
  pub j : ℕ
  pub is : m * up e * 2 ^ low f ≡ m * 2 ^ j * down e
  pub fine : m * 2 ^ j < 2 ^ (low f + suc (emax f))

record Places (e : ℤ) (l : ℕ) : Type 0 where
  j : ℕ
  is : up e * 2 ^ l ≡ 2 ^ j * down e

places : (e : ℤ) (l : ℕ) → down e ≤ 2 ^ l → Places e l
places (pos k) l h = record { j = k + l; is = sym (mul-one (2 ^ (k + l)) ∙ pow-add 2 k l) }
places (negsuc k) l h =
    let g : suc k ≤ l = le_of_suc-le-suc (lt_of_not-le (λ g. not-le_of_lt (pow-lt {i = l} {j = suc k} g) h)) in
    record { j = l - suc k; is = one-mul (2 ^ l) ∙ ap (λ (z : ℕ). 2 ^ z) (omega arith) ∙ pow-add 2 (l - suc k) (suc k) }

below : (x w d u l : ℕ) → 0 < l → x * l ≡ w * d → x < u * d → w < l * u
below x w d u l L e h =
    let k : w * d < l * u * d = subst (λ (z : ℕ). z < l * u * d) e (subst (λ (z : ℕ). x * l < z) (simp (mul_assoc, mul_comm, mul_left_comm)) (mul-lt-mul_of_pos_right h L)) in
    lt_of_not-le (λ g. not-le_of_lt k (mul-le-mul_right d g))

pub digits : (f : Format) (s : Bool) (m : ℕ) (e : ℤ) → T (fits f (fin s m e)) → Digits f m e
unfolding fits
digits f s zero e t = record { few = pow_pos (prec f); j = 0; is = simp zero-mul; fine = pow_pos (low f + suc (emax f)) }
digits f s (suc m) e t =
    let a = eqb (suc m % 2) 1 && ltb (suc m) (2 ^ prec f) in
    let b = a && leb (down e) (2 ^ low f) in
    let r = and_l b (ltb (suc m * up e) (2 ^ suc (emax f) * down e)) t in
    let p = places e (low f) (leb→le (down e) (2 ^ low f) (and_r a (leb (down e) (2 ^ low f)) r)) in
    let is = mul_assoc (suc m) (up e) (2 ^ low f) ∙ ap (λ (z : ℕ). suc m * z) p.is ∙ sym (mul_assoc (suc m) (2 ^ p.j) (down e)) in
    record {
      few = ltb→lt (suc m) (2 ^ prec f) (and_r (eqb (suc m % 2) 1) (ltb (suc m) (2 ^ prec f)) (and_l a (leb (down e) (2 ^ low f)) r));
      j = p.j;
      is = is;
      fine = subst (λ (z : ℕ). suc m * 2 ^ p.j < z) (sym (pow-add 2 (low f) (suc (emax f))))
          (below (suc m * up e) (suc m * 2 ^ p.j) (down e) (2 ^ suc (emax f)) (2 ^ low f) (pow_pos (low f)) is (ltb→lt (suc m * up e) (2 ^ suc (emax f) * down e) (and_r b (ltb (suc m * up e) (2 ^ suc (emax f) * down e)) t)));
    }

-- ---- the laws
pub narrowed_fits : (x : Float) → T (fits binary32 (narrowed x))
unfolding narrowed fits
narrowed_fits nan = tt
narrowed_fits (inf s) = tt
narrowed_fits (fin s m e) = round-fits binary32 s (m * up e) (down e)

pub narrowed_exact : (x : Float) → T (fits binary32 x) → narrowed x ≡ x
unfolding narrowed
narrowed_exact nan h = refl
narrowed_exact (inf s) h = refl
narrowed_exact (fin s m e) h =
    let d = digits binary32 s m e h in
    value_unique binary32 (round binary32 s (m * up e) (down e)) (fin s m e) s (m * up e) (down e) (down_pos e) (round-fits binary32 s (m * up e) (down e)) h
    (round_exact binary32 s (m * up e) (down e) m d.j (down_pos e) d.few d.fine d.is)
    (refl, refl)

pub narrowed_widened : (n : ℕ) → narrowed (widened n) ≡ widened n
narrowed_widened n = narrowed_exact (widened n) (of_bits-fits binary32 n)

-- 32 bits that are no NaN's come back
pub bits_back : (n : ℕ) → n < 2 ^ 32 → T (not (is_nan (widened n))) → to_bits binary32 (narrowed (widened n)) ≡ n
bits_back n h p = ap (to_bits binary32) (narrowed_widened n) ∙ to_bits-of_bits binary32 n h p
