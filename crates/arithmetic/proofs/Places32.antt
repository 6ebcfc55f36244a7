-- The nearest f32 over the 64 bits, as facts of whole numbers. A finite f64's pattern without its sign is j × 2^52 + w, where its magnitude is w × 2^j units of 2^−1074 and w has 53 digits,
-- or fewer at j = 0 (`Split`). So rounding to 24 digits is rounding 29 places off w, or off the pattern itself (`normal_bits`); and below 2^−126 it is counting 2^−149s in w (`count-is`).
use Rattle.std.proofs.Common.{◌≡◌, ℕ, zero, suc, ◌+◌, ◌-◌, ◌*◌, ◌/◌, ◌%◌, ◌^◌, ◌<◌, ◌≤◌, max, Bool, true, false, cond, T, ◌⊎◌, ℤ, sym, refl, ap, ◌∙◌, subst, inl, inr, le_trans, le_of_eq, lt_of_lt_of_le, lt_of_le_of_lt, add-zero, add_assoc, mul-le-mul_right, mod-lt, mul_assoc, eq-zero-or-pos, le_antisymm, eq-or-lt_of_le, mul-lt-mul_of_pos_right, one-mul, lt_of_not-le, div-add-mod', le-div_iff_mul-le, zero-mul, mul_right_comm, not-le_of_lt, mul-div_cancel, add-one, arith, lit<, lit≤, pow_pos, pow_mono, pow-add, shl_lt, shr_lt}
use Prim.Native.Nat.{compare, Ordering}
use native.Mathlib.Nat.{mod-le, add-sub_cancel_left, div-eq_of_lt, div-eq_of_lt-le, mul-add-div_right}
use lib.Ieee.{Float, nan, inf, fin, Format, binary64, prec, low, hid, top, down, size, nearest, fits, to_bits}
use lib.Ieee.Bits.{to_bits-lt}
use lib.Ieee.Digits.{size-lt, size-le, size_reaches}
use lib.Ieee.Exact.{HasValue}
use lib.Ieee.Fits.{down_pos, kept-lt, nearest-le}
use lib.Ieee.Nearest.{closest, closest_same}
use Rattle.arithmetic.specs.Narrow.{overflow, units_of, spacing}
use Rattle.arithmetic.specs.Part.{least_normal_bits, overflow_bits}
use Rattle.arithmetic.proofs.Units.{grid, units_shifted}
use Rattle.arithmetic.proofs.Power.{powers}
use Rattle.arithmetic.proofs.Fitting.{fits_signed}
use Rattle.arithmetic.proofs.Exact32
use Rattle.arithmetic.proofs.Closest.{Compared, compared, grid_below, grid_above}

-- ---- the code's rounding: with half a unit less one added, and one more where the quotient is odd
pub closest_is : (n u : ℕ) → 0 < u → u % 2 ≡ 0 → (n + (u / 2 - 1) + n / u % 2) / u ≡ closest n u
closest_is n u U even =
    ap (λ (z : ℕ). z / u) shape
    ∙ mul-add-div_right U (n / u) (n % u + (u / 2 - 1) + n / u % 2)
    ∙ go (compare (n % u * 2) u) (compared (n % u * 2) u)
  where
    shape : n + (u / 2 - 1) + n / u % 2 ≡ n / u * u + (n % u + (u / 2 - 1) + n / u % 2)
    shape = omega (arith, div-add-mod' n u)

    once : (t : ℕ) → u ≤ t → t < u + u → t / u ≡ 1
    once t a b = div-eq_of_lt-le u (omega arith) (omega arith)

    tie : (p r : ℕ) → p < 2 → r * 2 ≡ u → (r + (u / 2 - 1) + p) / u ≡ p
    tie zero r h e = div-eq_of_lt (omega arith)
    tie (suc zero) r h e = once (r + (u / 2 - 1) + 1) (omega arith) (omega arith)
    tie (suc (suc p)) r h e = absurd (omega arith)

    go : (o : Ordering) → Compared o (n % u * 2) u → n / u + (n % u + (u / 2 - 1) + n / u % 2) / u ≡ nearest (n / u) o
    go Ordering.lt h = ap (λ (z : ℕ). n / u + z) (div-eq_of_lt (omega arith)) ∙ add-zero (n / u)
    go Ordering.eq h = ap (λ (z : ℕ). n / u + z) (tie (n / u % 2) (n % u) (mod-lt (n / u) (omega arith)) h)
    go Ordering.gt h = ap (λ (z : ℕ). n / u + z) (once (n % u + (u / 2 - 1) + n / u % 2) (omega arith) (omega (arith, mod-lt n U))) ∙ add-one (n / u)

-- below half a unit it is none
closest_none : (n u : ℕ) → n * 2 < u → closest n u ≡ 0
closest_none n u h = ap (λ (z : ℕ). nearest z (compare (n % u * 2) u)) (div-eq_of_lt (omega arith)) ∙ go (compare (n % u * 2) u) (compared (n % u * 2) u)
  where
    go : (o : Ordering) → Compared o (n % u * 2) u → nearest 0 o ≡ 0
    go Ordering.lt k = refl
    go Ordering.eq k = refl
    go Ordering.gt k = absurd (omega (arith, mod-le n u))

-- ---- the pattern of a value by its units
pub bits_of : (f : Format) (x : Float) (s : Bool) (n : ℕ) → HasValue x s n (2 ^ low f) → to_bits f x ≡ cond s (top f) 0 + (size n - prec f) * hid f + n / 2 ^ (size n - prec f)
unfolding to_bits
bits_of f nan s n v = absurd v
bits_of f (inf t) s n v = absurd v
bits_of f (fin t m e) s n v =
    ap (λ (b : Bool). to_bits f (fin b m e)) v.0
    ∙ ap (λ (x : ℕ). cond s (top f) 0 + (size x - prec f) * hid f + x / 2 ^ (size x - prec f)) (ap (λ (z : ℕ). z / down e) v.1 ∙ mul-div_cancel n (down_pos e))

-- what an f64 keeps of n units: their last digit's place, and the significand, of 53 digits at most
abbrev pub place : ℕ → ℕ
place n = size n - 53

abbrev pub significand : ℕ → ℕ
significand n = n / 2 ^ place n

-- a pattern without its sign
abbrev pub pattern : ℕ → ℕ
pattern n = place n * 2 ^ 52 + significand n

size_of : (n i j : ℕ) → j ≡ suc i → 2 ^ i ≤ n → n < 2 ^ j → size n ≡ j
size_of n i j e h k = le_antisymm (size-le n j k) (omega (arith, lt_of_not-le (λ (g : size n ≤ i). not-le_of_lt (lt_of_lt_of_le (size-lt n) (pow_mono g)) h)))

-- w × 2^j units, with w from 2^52 to 2^53, have the pattern j × 2^52 + w: at 2^53 the carry makes it the next exponent's
pattern_of : (w j : ℕ) → 2 ^ 52 ≤ w → w ≤ 2 ^ 53 → pattern (w * 2 ^ j) ≡ j * 2 ^ 52 + w
pattern_of w j a b = go (eq-or-lt_of_le b)
  where
    at : (w j : ℕ) → 2 ^ 52 ≤ w → w < 2 ^ 53 → pattern (w * 2 ^ j) ≡ j * 2 ^ 52 + w
    at w j a l =
        let e : size (w * 2 ^ j) ≡ 53 + j = size_of (w * 2 ^ j) (52 + j) (53 + j) (omega arith) (le_trans (le_of_eq (pow-add 2 52 j)) (mul-le-mul_right (2 ^ j) a)) (shl_lt 53 j l) in
        ap (λ (k : ℕ). k * 2 ^ 52 + w * 2 ^ j / 2 ^ k) (ap (λ (z : ℕ). z - 53) e ∙ add-sub_cancel_left 53 j)
        ∙ ap (λ (z : ℕ). j * 2 ^ 52 + z) (mul-div_cancel w (pow_pos j))

    carried : (w : ℕ) → w ≡ 2 ^ 53 → w * 2 ^ j ≡ 2 ^ 52 * 2 ^ (1 + j)
    carried w e = ap (λ (z : ℕ). z * 2 ^ j) e ∙ sym (pow-add 2 53 j) ∙ powers (53 + j) 52 (1 + j) (omega arith)

    go : (w ≡ 2 ^ 53) ⊎ (w < 2 ^ 53) → pattern (w * 2 ^ j) ≡ j * 2 ^ 52 + w
    go (inl e) = ap pattern (carried w e) ∙ at (2 ^ 52) (1 + j) (lit≤ tt) (lit< tt) ∙ omega arith
    go (inr l) = at w j a l

-- ---- a finite value's units and its pattern
pub record Split (s : Bool) (n b : ℕ) : Type 0 where
  pub is : n ≡ significand n * 2 ^ place n
  pub few : significand n < 2 ^ 53
  pub full : 0 < place n → 2 ^ 52 ≤ significand n
  pub small : pattern n < 2 ^ 63
  pub bits : b ≡ cond s (2 ^ 63) 0 + pattern n

kept_whole : (n m i : ℕ) → n ≡ m * 2 ^ i → m < 2 ^ 53 → n ≡ significand n * 2 ^ place n
kept_whole n m i e h =
    let j = place n in
    let l : size n ≤ 53 + i = size-le n (53 + i) (subst (λ (z : ℕ). z < 2 ^ (53 + i)) (sym e) (shl_lt 53 i h)) in
    let d : n ≡ m * 2 ^ (i - j) * 2 ^ j = e ∙ ap (λ (z : ℕ). m * z) (powers i (i - j) j (omega arith)) ∙ sym (mul_assoc m (2 ^ (i - j)) (2 ^ j)) in
    d ∙ ap (λ (z : ℕ). z * 2 ^ j) (sym (ap (λ (z : ℕ). z / 2 ^ j) d ∙ mul-div_cancel (m * 2 ^ (i - j)) (pow_pos j)))

pub split : (s : Bool) (m : ℕ) (e : ℤ) → T (fits binary64 (fin s m e)) → Split s (units_of (fin s m e)) (to_bits binary64 (fin s m e))
unfolding to_bits
split s m e f =
    let n = units_of (fin s m e) in
    let j = place n in
    let d = Exact32.digits binary64 s m e f in
    record {
      is = kept_whole n m d.j (units_shifted s m e d) d.few;
      few = kept-lt 53 n;
      full = λ h. (le-div_iff_mul-le (pow_pos j)).1 (le_trans (le_of_eq (sym (pow-add 2 52 j))) (size_reaches n (52 + j) (omega arith)));
      small = omega (arith, to_bits-lt binary64 (fin true m e) (fits_signed s true m e f));
      bits = add_assoc (cond s (2 ^ 63) 0) (j * 2 ^ 52) (n / 2 ^ j);
    }

-- ---- from 2^−126 on an f32 keeps 24 digits of the 53
pub sign-is : (s : Bool) (k : ℕ) → cond s k 0 ≡ cond s 1 0 * k
sign-is true k = sym (one-mul k)
sign-is false k = sym (zero-mul k)

-- 2^29 rounded off, over plain numbers: the carry goes into what stands above the digits, which is a multiple of 2^30
abbrev pub rounding : ℕ → ℕ → Type 0
rounding n q = (n + (2 ^ 29 / 2 - 1) + n / 2 ^ 29 % 2) / 2 ^ 29 ≡ q

-- of the digits those that an f32 keeps
abbrev kept : ℕ → ℕ
kept n = closest (significand n) (2 ^ 29)

pub rounding_of : (n : ℕ) → rounding n (closest n (2 ^ 29))
rounding_of n = closest_is n (2 ^ 29) (lit< tt) refl

least : (w q : ℕ) → rounding w q → 2 ^ 52 ≤ w → 2 ^ 52 ≤ q * 2 ^ 29
least w q h l = omega arith

most : (w q : ℕ) → rounding w q → w < 2 ^ 53 → q * 2 ^ 29 ≤ 2 ^ 53
most w q h l = omega arith

above : (a w b p q : ℕ) → b ≡ a * 2 ^ 30 + w → rounding b p → rounding w q → p * 2 ^ 29 ≡ a * 2 ^ 30 + q * 2 ^ 29
above a w b p q e h k = carry (b / 2 ^ 29 % 2) h (ap (λ (t : ℕ). (w + (2 ^ 29 / 2 - 1) + t) / 2 ^ 29) (parity (b / 2 ^ 29) (w / 2 ^ 29) quotient) ∙ k)
  where
    quotient : b / 2 ^ 29 ≡ a * 2 + w / 2 ^ 29
    quotient = omega (arith, e)

    parity : (x y : ℕ) → x ≡ a * 2 + y → x % 2 ≡ y % 2
    parity x y e = omega (arith, e)

    carry : (t : ℕ) → (b + (2 ^ 29 / 2 - 1) + t) / 2 ^ 29 ≡ p → (w + (2 ^ 29 / 2 - 1) + t) / 2 ^ 29 ≡ q → p * 2 ^ 29 ≡ a * 2 ^ 30 + q * 2 ^ 29
    carry t h k = omega (arith, e, h, k)

-- w × 2^j units against 2^128 − 2^103, by their pattern
under_overflow : (w j : ℕ) → 2 ^ 52 ≤ w → w < 2 ^ 53 → j * 2 ^ 52 + w < overflow_bits → w * 2 ^ j < overflow
under_overflow w j a b l = go (eq-or-lt_of_le {n = j} {m = 1149} (omega arith))
  where
    go : (j ≡ 1149) ⊎ (j < 1149) → w * 2 ^ j < overflow
    go (inl e) = subst (λ (z : ℕ). w * 2 ^ z < overflow) (sym e) (mul-lt-mul_of_pos_right {m = w} {n = 2 ^ 53 - 2 ^ 28} {k = 2 ^ 1149} (omega arith) (pow_pos 1149))
    go (inr h) = lt_of_lt_of_le (shl_lt 53 j b) (le_trans (pow_mono {i = 53 + j} {j = 1201} (omega arith)) (lit≤ tt))

over_overflow : (w j : ℕ) → 2 ^ 52 ≤ w → w < 2 ^ 53 → overflow_bits ≤ j * 2 ^ 52 + w → overflow ≤ w * 2 ^ j
over_overflow w j a b l = go (eq-or-lt_of_le {n = 1149} {m = j} (omega arith))
  where
    go : (1149 ≡ j) ⊎ (1149 < j) → overflow ≤ w * 2 ^ j
    go (inl e) = subst (λ (z : ℕ). overflow ≤ w * 2 ^ z) e (mul-le-mul_right {m = 2 ^ 53 - 2 ^ 28} {n = w} (2 ^ 1149) (omega arith))
    go (inr h) = le_trans (le_trans (lit≤ tt) (pow_mono {i = 1202} {j = 52 + j} (omega arith))) (le_trans (le_of_eq (pow-add 2 52 j)) (mul-le-mul_right (2 ^ j) a))

-- a normal pattern's significand, and how many of their places lie below 2^−149
abbrev pub digits_at : ℕ → ℕ
digits_at b = 2 ^ 52 + b % 2 ^ 52

abbrev pub unit_place : ℕ → ℕ
unit_place b = 926 - b % 2 ^ 63 / 2 ^ 52

module _ (s : Bool) (n b : ℕ) (p : Split s n b) where
  pub magnitude : b % 2 ^ 63 ≡ pattern n
  magnitude = omega (arith, p.bits, sign-is s (2 ^ 63), p.small)

  module _ (normal : least_normal_bits ≤ b % 2 ^ 63) where
    high : 896 ≤ place n
    high = omega (arith, magnitude, p.few)

    spacing_is : spacing n ≡ 2 ^ 29 * 2 ^ place n
    spacing_is = powers (max (size n) 949 - 24) 29 (place n) (omega (arith, high))

    grid_is : grid n ≡ kept n * 2 ^ 29 * 2 ^ place n
    grid_is =
        ap (λ (z : ℕ). z * spacing n) same
        ∙ ap (λ (z : ℕ). kept n * z) spacing_is
        ∙ sym (mul_assoc (kept n) (2 ^ 29) (2 ^ place n))
      where
        same : closest n (spacing n) ≡ kept n
        same =
            closest_same n (spacing n) (significand n) (2 ^ 29) (pow_pos (max (size n) 949 - 24)) (pow_pos 29)
            (ap (λ (z : ℕ). z * 2 ^ 29) p.is ∙ mul_right_comm (significand n) (2 ^ place n) (2 ^ 29) ∙ mul_assoc (significand n) (2 ^ 29) (2 ^ place n) ∙ ap (λ (z : ℕ). significand n * z) (sym spacing_is))

    lo : 2 ^ 52 ≤ kept n * 2 ^ 29
    lo = least (significand n) (kept n) (rounding_of (significand n)) (p.full (omega (arith, high)))

    hi : kept n * 2 ^ 29 ≤ 2 ^ 53
    hi = most (significand n) (kept n) (rounding_of (significand n)) p.few

    -- the code's number is the pattern of the rounded value
    pub normal_bits : closest b (2 ^ 29) * 2 ^ 29 ≡ cond s (2 ^ 63) 0 + pattern (grid n)
    normal_bits =
        above (cond s 1 0 * 2 ^ 33 + place n * 2 ^ 22) (significand n) b (closest b (2 ^ 29)) (kept n) (omega (arith, p.bits, sign-is s (2 ^ 63))) (rounding_of b) (rounding_of (significand n))
        ∙ regroup (cond s 1 0) (cond s (2 ^ 63) 0) (place n) (kept n * 2 ^ 29) (sign-is s (2 ^ 63))
        ∙ ap (λ (z : ℕ). cond s (2 ^ 63) 0 + z) (sym (ap pattern grid_is ∙ pattern_of (kept n * 2 ^ 29) (place n) lo hi))
      where
        regroup : (c d j g : ℕ) → d ≡ c * 2 ^ 63 → (c * 2 ^ 33 + j * 2 ^ 22) * 2 ^ 30 + g ≡ d + (j * 2 ^ 52 + g)
        regroup c d j g e = omega arith

    pub normal_under : b % 2 ^ 63 < overflow_bits → grid n < 2 ^ 1202
    normal_under h = grid_below n (subst (λ (z : ℕ). z < overflow) (sym p.is) (under_overflow (significand n) (place n) (p.full (omega (arith, high))) p.few (omega (arith, magnitude))))

    pub normal_over : overflow_bits ≤ b % 2 ^ 63 → 2 ^ 1202 ≤ grid n
    normal_over h = grid_above n (subst (λ (z : ℕ). overflow ≤ z) (sym p.is) (over_overflow (significand n) (place n) (p.full (omega (arith, high))) p.few (omega (arith, magnitude))))

  -- ---- below 2^−126 it keeps whole numbers of 2^−149, each of 2^925 units
  below_place : (k : ℕ) → b % 2 ^ 63 < k * 2 ^ 52 → n < 2 ^ (53 + (k - 2))
  below_place k h = subst (λ (z : ℕ). z < 2 ^ (53 + (k - 2))) (sym p.is) (lt_of_lt_of_le (shl_lt 53 (place n) p.few) (pow_mono {i = 53 + place n} {j = 53 + (k - 2)} (omega (arith, go (eq-zero-or-pos (place n))))))
    where
      go : (place n ≡ 0) ⊎ (0 < place n) → place n ≤ k - 2
      go (inl e) = omega arith
      go (inr l) = omega (arith, magnitude, p.full l)

  module _ (small : b % 2 ^ 63 < least_normal_bits) where
    small_spacing : spacing n ≡ 2 ^ 925
    small_spacing = ap (λ (z : ℕ). 2 ^ z) (least_spacing (size n) (size-le n 948 (below_place 897 small)))
      where
        least_spacing : (z : ℕ) → z ≤ 948 → max z 949 - 24 ≡ 925
        least_spacing z h = omega arith

    pub small_grid : grid n ≡ closest n (2 ^ 925) * 2 ^ 925
    small_grid = ap (λ (z : ℕ). closest n z * z) small_spacing

    pub count-le : closest n (2 ^ 925) ≤ 2 ^ 23
    count-le = le_trans (nearest-le (n / 2 ^ 925) (compare (n % 2 ^ 925 * 2) (2 ^ 925))) (shr_lt 23 925 (below_place 897 small))

    pub small_under : grid n < 2 ^ 1202
    small_under = subst (λ (z : ℕ). z < 2 ^ 1202) (sym small_grid) (lt_of_le_of_lt (mul-le-mul_right (2 ^ 925) count-le) (lit< tt))

    -- counted from the significand, where there are any
    pub count-is : 873 ≤ b % 2 ^ 63 / 2 ^ 52 → closest n (2 ^ 925) ≡ closest (digits_at b) (2 ^ unit_place b)
    count-is h =
        let l : 872 ≤ place n = omega (arith, magnitude, p.few) in
        let f = p.full (omega (arith, l)) in
        let w : significand n ≡ 2 ^ 52 + b % 2 ^ 52 = omega (arith, p.bits, sign-is s (2 ^ 63), p.few, f) in
        let i : 925 - place n ≡ unit_place b = omega (arith, magnitude, p.few, f, l) in
        closest_same n (2 ^ 925) (significand n) (2 ^ (925 - place n)) (pow_pos 925) (pow_pos (925 - place n))
        (ap (λ (z : ℕ). z * 2 ^ (925 - place n)) p.is
        ∙ mul_assoc (significand n) (2 ^ place n) (2 ^ (925 - place n))
        ∙ ap (λ (z : ℕ). significand n * z) (sym (powers 925 (place n) (925 - place n) (omega (arith, small, magnitude, f)))))
        ∙ ap (λ (z : ℕ). closest (significand n) (2 ^ z)) i
        ∙ ap (λ (z : ℕ). closest z (2 ^ unit_place b)) w

    pub count_none : b % 2 ^ 63 / 2 ^ 52 < 873 → closest n (2 ^ 925) ≡ 0
    count_none h = closest_none n (2 ^ 925) (shl_lt 924 1 (below_place 873 (omega (arith, h))))
