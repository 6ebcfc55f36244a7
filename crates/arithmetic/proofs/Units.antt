-- The nearest f32 over whole numbers. An f64's magnitude is n multiples of 2^−1074 (`units_of`), and rounding takes n to the nearest multiple of the f32's spacing there, `grid n`:
-- that is the rounded value where it is below 2^128 (`narrowed_value`), and from there on the result is an infinity (`narrowed_over`).
use Rattle.std.proofs.Common.{◌≡◌, ℕ, ◌+◌, ◌-◌, ◌*◌, ◌/◌, ◌^◌, ◌<◌, ◌≤◌, max, Bool, cond, T, ◌⊎◌, ℤ, sym, refl, ap, ◌∙◌, subst, inl, inr, le_trans, le_of_eq, lt_of_lt_of_le, mul_assoc, mul_comm, eq-zero-or-pos, le_antisymm, lt_of_mul-lt-mul_right, mul-pos, lt_of_not-le, le-div_iff_mul-le, mul_right_comm, not-le_of_lt, le_of_mul-le-mul_right, mul-div_cancel, arith, pow_pos, pow_mono, pow-add, shr_lt, le-ltb}
use native.Mathlib.Nat.{eq_of_mul-eq-mul_right}
use lib.Ieee.{Float, nan, inf, fin, binary32, binary64, up, down, size, odd, units, round, fits}
use lib.Ieee.Digits.{size-lt, size-le, size_reaches}
use lib.Ieee.Fits.{down_pos, round_is}
use lib.Ieee.Exact.{HasValue, units_val}
use lib.Ieee.Nearest.{closest, closest_same, div_same}
use lib.Ieee.Scale.{round_same}
use Rattle.arithmetic.specs.Narrow.{narrowed, units_of, spacing}
use Rattle.arithmetic.proofs.Power.{powers}
use Rattle.arithmetic.proofs.Exact32.{Digits, digits}

-- n to the nearest multiple of the spacing there, a tie to the even one
abbrev pub grid : ℕ → ℕ
grid n = closest n (spacing n) * spacing n

-- ---- a value that fits is a whole number of units
pub units_shifted : (s : Bool) (m : ℕ) (e : ℤ) (d : Digits binary64 m e) → units_of (fin s m e) ≡ m * 2 ^ d.j
units_shifted s m e d = ap (λ (z : ℕ). z / down e) d.is ∙ mul-div_cancel (m * 2 ^ d.j) (down_pos e)

units-is : (s : Bool) (m : ℕ) (e : ℤ) → T (fits binary64 (fin s m e)) → m * up e * 2 ^ 1074 ≡ units_of (fin s m e) * down e
units-is s m e f = let d = digits binary64 s m e f in d.is ∙ ap (λ (z : ℕ). z * down e) (sym (units_shifted s m e d))

pub units_value : (s : Bool) (m : ℕ) (e : ℤ) → T (fits binary64 (fin s m e)) → HasValue (fin s m e) s (units_of (fin s m e)) (2 ^ 1074)
units_value s m e f = (refl, units-is s m e f)

pub narrowed_rounds : (s : Bool) (m : ℕ) (e : ℤ) → T (fits binary64 (fin s m e)) → narrowed (fin s m e) ≡ round binary32 s (units_of (fin s m e)) (2 ^ 1074)
unfolding narrowed
narrowed_rounds s m e f = round_same binary32 s (m * up e) (down e) (units_of (fin s m e)) (2 ^ 1074) (down_pos e) (pow_pos 1074) (units-is s m e f)

-- ---- in units of 2^−1074 the f32's smallest value is 2^925: `round` drops what is past 24 digits, and of fewer digits nothing
-- with j digits cut off, a number has j digits fewer
size_cut : (n j : ℕ) → size (n / 2 ^ j) ≡ size n - j
size_cut n j = le_antisymm (size-le (n / 2 ^ j) (size n - j) (shr_lt (size n - j) j (lt_of_lt_of_le (size-lt n) (pow_mono {i = size n} {j = size n - j + j} (omega arith))))) (least (eq-zero-or-pos (size n - j)))
  where
    least : (size n - j ≡ 0) ⊎ (0 < size n - j) → size n - j ≤ size (n / 2 ^ j)
    least (inl e) = omega arith
    least (inr l) =
        let i = size n - j - 1 in
        let h : 2 ^ i * 2 ^ j ≤ n = le_trans (le_of_eq (sym (pow-add 2 i j))) (size_reaches n (i + j) (omega arith)) in
        omega (arith, lt_of_not-le (λ (g : size (n / 2 ^ j) ≤ i). not-le_of_lt (lt_of_lt_of_le (size-lt (n / 2 ^ j)) (pow_mono g)) ((le-div_iff_mul-le (pow_pos j)).1 h)))

-- so many digits are dropped
abbrev dropped : ℕ → ℕ
dropped n = size n - 949

spacing_is : (n : ℕ) → spacing n ≡ 2 ^ 925 * 2 ^ dropped n
spacing_is n = powers (max (size n) 949 - 24) 925 (dropped n) (omega arith)

dropped_is : (n : ℕ) → size (n * 2 ^ 149 / 2 ^ 1074) - 24 ≡ dropped n
dropped_is n =
    ap (λ (z : ℕ). size z - 24) (div_same (n * 2 ^ 149) (2 ^ 1074) n (2 ^ 925) (pow_pos 1074) (pow_pos 925) (mul_assoc n (2 ^ 149) (2 ^ 925)))
    ∙ ap (λ (z : ℕ). z - 24) (size_cut n 925)
    ∙ together (size n)
  where
    together : (z : ℕ) → z - 925 - 24 ≡ z - 949
    together z = omega arith

rounds : (s : Bool) (n : ℕ) → round binary32 s n (2 ^ 1074) ≡ units binary32 s (closest n (spacing n)) (dropped n)
rounds s n =
    round_is binary32 s n (2 ^ 1074)
    ∙ ap (λ (k : ℕ). units binary32 s (closest (n * 2 ^ 149) (2 ^ 1074 * 2 ^ k)) k) (dropped_is n)
    ∙ ap (λ (q : ℕ). units binary32 s q (dropped n)) same
  where
    same : closest (n * 2 ^ 149) (2 ^ 1074 * 2 ^ dropped n) ≡ closest n (spacing n)
    same = closest_same (n * 2 ^ 149) (2 ^ 1074 * 2 ^ dropped n) n (spacing n) (mul-pos (pow_pos 1074) (pow_pos (dropped n))) (pow_pos (max (size n) 949 - 24))
        (ap (λ (z : ℕ). n * 2 ^ 149 * z) (spacing_is n) ∙ mul_assoc n (2 ^ 149) (2 ^ 925 * 2 ^ dropped n) ∙ ap (λ (z : ℕ). n * z) (sym (mul_assoc (2 ^ 149) (2 ^ 925) (2 ^ dropped n))))

-- the rounded number in units of 2^−149, and in those of 2^−1074
grid_is : (n : ℕ) → grid n ≡ closest n (spacing n) * 2 ^ dropped n * 2 ^ 925
grid_is n = ap (λ (z : ℕ). closest n (spacing n) * z) (spacing_is n ∙ mul_comm (2 ^ 925) (2 ^ dropped n)) ∙ sym (mul_assoc (closest n (spacing n)) (2 ^ dropped n) (2 ^ 925))

-- from one fraction to another of the same size
pub rescale : (x : Float) (s : Bool) (a c b d : ℕ) → 0 < c → b * c ≡ a * d → HasValue x s a c → HasValue x s b d
rescale nan s a c b d p h v = v
rescale (inf t) s a c b d p h v = v
rescale (fin t m e) s a c b d p h v = (
  v.0,
  eq_of_mul-eq-mul_right c p (m * up e * d) (b * down e)
      (mul_right_comm (m * up e) d c ∙ ap (λ (z : ℕ). z * d) v.1 ∙ mul_right_comm a (down e) d ∙ ap (λ (z : ℕ). z * down e) (sym h) ∙ mul_right_comm b c (down e)),
)

round_value : (s : Bool) (n : ℕ) → grid n < 2 ^ 1202 → HasValue (round binary32 s n (2 ^ 1074)) s (grid n) (2 ^ 1074)
round_value s n h =
    let w = closest n (spacing n) * 2 ^ dropped n in
    subst (λ (z : Float). HasValue z s (grid n) (2 ^ 1074)) (sym (rounds s n))
    (rescale (units binary32 s (closest n (spacing n)) (dropped n)) s w (2 ^ 149) (grid n) (2 ^ 1074) (pow_pos 149)
    (ap (λ (z : ℕ). z * 2 ^ 149) (grid_is n) ∙ mul_assoc w (2 ^ 925) (2 ^ 149))
    (units_val binary32 s (closest n (spacing n)) (dropped n) (lt_of_mul-lt-mul_right (2 ^ 925) (subst (λ (z : ℕ). z < 2 ^ 1202) (grid_is n) h))))

round_over : (s : Bool) (n : ℕ) → 2 ^ 1202 ≤ grid n → round binary32 s n (2 ^ 1074) ≡ inf s
unfolding units
round_over s n h =
    rounds s n
    ∙ ap (λ (b : Bool). cond b (odd 25 s (closest n (spacing n)) (dropped n) 149) (inf s))
    (le-ltb (closest n (spacing n) * 2 ^ dropped n) (2 ^ 277) (le_of_mul-le-mul_right (subst (λ (z : ℕ). 2 ^ 1202 ≤ z) (grid_is n) h) (pow_pos 925)))

-- ---- the laws
pub narrowed_value : (s : Bool) (m : ℕ) (e : ℤ) → T (fits binary64 (fin s m e)) → grid (units_of (fin s m e)) < 2 ^ 1202 → HasValue (narrowed (fin s m e)) s (grid (units_of (fin s m e))) (2 ^ 1074)
narrowed_value s m e f h = subst (λ (z : Float). HasValue z s (grid (units_of (fin s m e))) (2 ^ 1074)) (sym (narrowed_rounds s m e f)) (round_value s (units_of (fin s m e)) h)

pub narrowed_over : (s : Bool) (m : ℕ) (e : ℤ) → T (fits binary64 (fin s m e)) → 2 ^ 1202 ≤ grid (units_of (fin s m e)) → narrowed (fin s m e) ≡ inf s
narrowed_over s m e f h = narrowed_rounds s m e f ∙ round_over s (units_of (fin s m e)) h
