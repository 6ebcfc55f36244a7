-- h, the upper 32 bits of a value without its sign, against the value's magnitude: the pattern of a larger magnitude is no smaller.
use Rattle.std.proofs.Common.{◌≡◌, ℕ, ◌+◌, ◌-◌, ◌*◌, ◌/◌, ◌%◌, ◌^◌, ◌<◌, ◌≤◌, Bool, true, false, cond, ℤ, sym, ap, ◌∙◌, subst, inl, inr, le_trans, le_of_eq, lt_of_lt_of_le, le_of_suc-le-suc, lt_of_le_of_lt, le_of_lt, mul-le-mul_right, mul_assoc, div-lt_iff_lt-mul, eq-or-lt_of_le, mul-lt-mul_of_pos_right, lt_of_not-le, le-div_iff_mul-le, mul_right_comm, not-le_of_lt, arith, lit<, lit≤, pow_pos, pow-add}
use lib.Pow.{shr_mono}
use lib.Ieee.{fin, up, down, size, to_bits}
use lib.Ieee.Digits.{size-lt, size-le, size_reaches}
use lib.Ieee.Fits.{down_pos, kept-lt}
use Rattle.arithmetic.specs.Exp.{high_of}

-- the digits that are dropped of n, and the pattern that n smallest values have
abbrev dropped : ℕ → ℕ
dropped n = size n - 53

abbrev pattern : ℕ → ℕ
pattern n = dropped n * 2 ^ 52 + n / 2 ^ dropped n

fewer : (x y : ℕ) → x ≤ y → x - 53 ≤ y - 53
fewer x y h = omega arith

dropped_mono : (a b : ℕ) → a ≤ b → dropped a ≤ dropped b
dropped_mono a b h = fewer (size a) (size b) (size-le a (size b) (lt_of_le_of_lt h (size-lt b)))

-- where digits are dropped the leading one is kept
leading : (n : ℕ) → 0 < dropped n → 2 ^ 52 ≤ n / 2 ^ dropped n
leading n h =
    (le-div_iff_mul-le (pow_pos (dropped n))).1
    (le_trans (le_of_eq (sym (pow-add 2 52 (dropped n)))) (size_reaches n (52 + dropped n) (all (size n) h)))
  where
    all : (z : ℕ) → 0 < z - 53 → 52 + (z - 53) < z
    all z h = omega arith

pattern_mono : (a b : ℕ) → a ≤ b → pattern a ≤ pattern b
pattern_mono a b h =
    elim (eq-or-lt_of_le (dropped_mono a b h)) [
      | inl e ↦ subst (λ (k : ℕ). k * 2 ^ 52 + a / 2 ^ k ≤ pattern b) (sym e) (same (dropped b))
      | inr l ↦ apart (dropped a) (dropped b) (a / 2 ^ dropped a) (b / 2 ^ dropped b) l (kept-lt 53 a) (leading b (omega arith))
    ]
  where
    same : (k : ℕ) → k * 2 ^ 52 + a / 2 ^ k ≤ k * 2 ^ 52 + b / 2 ^ k
    same k = omega (arith, shr_mono {a = a} {b = b} k h)

    apart : (j k p q : ℕ) → j < k → p < 2 ^ 53 → 2 ^ 52 ≤ q → j * 2 ^ 52 + p ≤ k * 2 ^ 52 + q
    apart j k p q l x y = omega arith

-- ---- a value by its size in smallest values, against w / 2^l
abbrev count : ℕ → ℤ → ℕ
count m e = m * up e * 2 ^ 1074 / down e

abbrev mark : ℕ → ℕ → ℕ
mark w l = w * 2 ^ (1074 - l)

module _ (m : ℕ) (e : ℤ) (w l : ℕ) (L : l ≤ 1074) where
  parted : m * up e * 2 ^ l * 2 ^ (1074 - l) ≡ m * up e * 2 ^ 1074
  parted = mul_assoc (m * up e) (2 ^ l) (2 ^ (1074 - l)) ∙ ap (λ (z : ℕ). m * up e * z) (sym (pow-add 2 l (1074 - l)) ∙ ap (λ (z : ℕ). 2 ^ z) (whole l L))
    where
      whole : (l : ℕ) → l ≤ 1074 → l + (1074 - l) ≡ 1074
      whole l h = omega arith

  reaches : w * down e ≤ m * up e * 2 ^ l → mark w l ≤ count m e
  reaches h =
      (le-div_iff_mul-le (down_pos e)).1
      (le_trans (le_of_eq (mul_right_comm w (2 ^ (1074 - l)) (down e))) (le_trans (mul-le-mul_right (2 ^ (1074 - l)) h) (le_of_eq parted)))

  stays : m * up e * 2 ^ l < w * down e → count m e < mark w l
  stays h =
      (div-lt_iff_lt-mul (down_pos e)).1
      (lt_of_le_of_lt (le_of_eq (sym parted)) (lt_of_lt_of_le (mul-lt-mul_of_pos_right h (pow_pos (1074 - l))) (le_of_eq (mul_right_comm w (down e) (2 ^ (1074 - l))))))

without_sign : (s : Bool) (a b : ℕ) → a + b < 2 ^ 63 → (cond s (2 ^ 63) 0 + a + b) / 2 ^ 32 % 2 ^ 31 ≡ (a + b) / 2 ^ 32
without_sign true a b h = omega arith
without_sign false a b h = omega arith

upper : (p H : ℕ) → H * 2 ^ 32 ≤ p → H ≤ p / 2 ^ 32
upper p H h = omega arith

lower : (p q H : ℕ) → p ≤ q → q < H * 2 ^ 32 → p / 2 ^ 32 < H
lower p q H h k = omega arith

-- for a value of magnitude at most 700
module _ (s : Bool) (m : ℕ) (e : ℤ) (h : m * up e ≤ 700 * down e) where
  high_is : high_of (fin s m e) ≡ pattern (count m e) / 2 ^ 32
  unfolding to_bits
  high_is =
      without_sign s (dropped (count m e) * 2 ^ 52) (count m e / 2 ^ dropped (count m e))
      (lt_of_le_of_lt (pattern_mono (count m e) (mark 701 0) (le_of_lt (stays m e 701 0 (lit≤ tt) (omega (arith, down_pos e))))) (lit< (unfold size in tt)))

  -- below the upper word H of the value w / 2^l, the magnitude is below that value
  under_mark : (w l H : ℕ) → l ≤ 1074 → H * 2 ^ 32 ≤ pattern (mark w l) → high_of (fin s m e) < H → m * up e * 2 ^ l < w * down e
  under_mark w l H L p k =
      lt_of_not-le
      (λ n. not-le_of_lt k (subst (λ (z : ℕ). H ≤ z) (sym high_is) (upper (pattern (count m e)) H (le_trans p (pattern_mono (mark w l) (count m e) (reaches m e w l L n))))))

  -- from it on, it is not
  from_mark : (w l H : ℕ) → l ≤ 1074 → pattern (mark w l - 1) < H * 2 ^ 32 → H ≤ high_of (fin s m e) → w * down e ≤ m * up e * 2 ^ l
  from_mark w l H L p k =
      le_of_suc-le-suc
      (lt_of_not-le
      (λ n. not-le_of_lt
      (subst (λ (z : ℕ). z < H) (sym high_is)
      (lower (pattern (count m e)) (pattern (mark w l - 1)) H (pattern_mono (count m e) (mark w l - 1) (before (count m e) (mark w l) (stays m e w l L n))) p))
      k))
    where
      before : (a b : ℕ) → a < b → a ≤ b - 1
      before a b h = omega arith

  -- the five marks: 2^−28, 3/8, 21/64, 17/16 and 1
  pub past_first : 0x3e30_0000 < high_of (fin s m e) → down e ≤ m * up e * 2 ^ 28
  past_first k = omega (arith, from_mark 1 28 0x3e30_0000 (lit≤ tt) (lit< (unfold size in tt)) (omega arith))

  pub within_none : high_of (fin s m e) ≤ 0x3fd6_2e42 → m * up e * 64 < 24 * down e
  within_none k = under_mark 24 6 0x3fd8_0000 (lit≤ tt) (lit≤ (unfold size in tt)) (omega arith)

  pub past_none : 0x3fd6_2e42 < high_of (fin s m e) → 21 * down e ≤ m * up e * 64
  past_none k = from_mark 21 6 0x3fd5_0000 (lit≤ tt) (lit< (unfold size in tt)) (omega arith)

  pub within_one : high_of (fin s m e) < 0x3ff0_a2b2 → m * up e * 64 < 68 * down e
  within_one k = under_mark 68 6 0x3ff1_0000 (lit≤ tt) (lit≤ (unfold size in tt)) (omega arith)

  pub past_one : 0x3ff0_a2b2 ≤ high_of (fin s m e) → down e ≤ m * up e
  past_one k = omega (arith, from_mark 1 0 0x3ff0_0000 (lit≤ tt) (lit< (unfold size in tt)) (omega arith))
