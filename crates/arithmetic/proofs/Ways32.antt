-- What the ways of `narrow` return, each the nearest f32: `narrow_nan`, `narrow_normal_lem` and `narrow_over`; `narrow_none` and `narrow_small_lem` for what lies below 2^−126.
use Rattle.std.proofs.Common.{◌≡◌, ℕ, ◌+◌, ◌-◌, ◌*◌, ◌/◌, ◌%◌, ◌^◌, ◌<◌, ◌≤◌, Bool, true, false, cond, not, ◌&&◌, T, ltb, leb, sym, refl, ap, ◌∙◌, subst, true≢false, le_trans, le_of_eq, lt_of_lt_of_le, lt_of_le_of_lt, add-zero, add_assoc, mul_assoc, one-mul, div-one, arith, lit<, pow_pos, pow_mono, shl_exact, shr_lt, ltb-false, ltb-true, le-leb, leb-true}
use Prim.Native.Nat.{compare}
use native.Mathlib.Nat.{mul-mod_left}
use lib.Ieee.{Float, nan, inf, fin, binary32, binary64, size, fits, ne, is_nan, of_bits, to_bits, nan_bits}
use denote.Floats.{passes}
use lib.Ieee.Compare.{differs_from_itself}
use lib.Ieee.Bits.{of_bits-to_bits, to_bits-of_bits, to_bits-lt, of_bits-fits, nan_bits_is}
use lib.Ieee.Digits.{size-le}
use lib.Ieee.Fits.{fits_widens, nearest-le, inf-fits}
use lib.Ieee.Nearest.{closest}
use lib.Ieee.Scale.{finite}
use Rattle.arithmetic.specs.Narrow.{narrowed, units_of}
use Rattle.arithmetic.specs.Part.{least_normal_bits, overflow_bits, magnitude_of, is_normal}
use Rattle.arithmetic.proofs.Order.{clash, and-true}
use Rattle.arithmetic.proofs.NanPattern.{reads_number}
use Rattle.arithmetic.proofs.Exact32.{narrowed_fits}
use Rattle.arithmetic.proofs.Units.{grid, narrowed_value, narrowed_over, rescale}
use Rattle.arithmetic.proofs.Power.{powers}
use Rattle.arithmetic.proofs.Places32.{bits_of, place, significand, Split, split, sign-is, rounding, rounding_of, magnitude, normal_bits, normal_under, normal_over, small_grid, count-le, small_under, count-is, count_none, digits_at, unit_place}

count_bits : (s : Bool) (q : ℕ) → q ≤ 2 ^ 23 → cond s (2 ^ 31) 0 + (size q - 24) * 2 ^ 23 + q / 2 ^ (size q - 24) ≡ cond s (2 ^ 31) 0 + q
count_bits s q h =
    ap (λ (k : ℕ). cond s (2 ^ 31) 0 + k * 2 ^ 23 + q / 2 ^ k) (none (size q) (size-le q 24 (lt_of_le_of_lt h (lit< tt))))
    ∙ ap (λ (z : ℕ). z + q / 1) (add-zero (cond s (2 ^ 31) 0))
    ∙ ap (λ (z : ℕ). cond s (2 ^ 31) 0 + z) (div-one q)
  where
    none : (z : ℕ) → z ≤ 24 → z - 24 ≡ 0
    none z h = omega arith

bits_inf : (s : Bool) → to_bits binary64 (inf s) ≡ cond s (2 ^ 63) 0 + 2047 * 2 ^ 52
unfolding to_bits
bits_inf s = refl

bits_nan : to_bits binary64 nan ≡ 0x7ff8_0000_0000_0000
unfolding to_bits
bits_nan = refl

-- an infinity's pattern with the sign of b
abbrev infinity_at : ℕ → ℕ
infinity_at b = b - b % 2 ^ 63 + 0x7ff0_0000_0000_0000

-- ---- the ways
pub narrow_nan : (x : Float) → ne x x ≡ true → x ≡ narrowed x
narrow_nan x h = subst (λ (y : Float). y ≡ narrowed y) (sym (differs_from_itself x (passes (ne x x) h))) (unfold narrowed in refl)

-- neither a NaN nor an infinity has such a pattern
pub normal_finite : (x : Float) → is_normal (magnitude_of x) ≡ true → T (finite x)
unfolding to_bits
normal_finite nan t = absurd (true≢false (sym t))
normal_finite (inf true) t = absurd (true≢false (sym t))
normal_finite (inf false) t = absurd (true≢false (sym t))
normal_finite (fin s m e) t = tt

pub normal_known : (x : Float) → is_normal (magnitude_of x) ≡ true → T (not (is_nan x))
normal_known x t = go x (normal_finite x t)
  where
    go : (x : Float) → T (finite x) → T (not (is_nan x))
    go nan p = absurd p
    go (inf s) p = absurd p
    go (fin s m e) p = unfold is_nan in tt

module _ (x : Float) (f : fits binary64 x ≡ true) where
  pub bits_lt : to_bits binary64 x < 2 ^ 64
  bits_lt = to_bits-lt binary64 x (passes (fits binary64 x) f)

  pub read_back : of_bits binary64 (to_bits binary64 x) ≡ x
  read_back = of_bits-to_bits binary64 x (passes (fits binary64 x) f)

  -- all digits kept, and no infinity
  module _ (t : is_normal (magnitude_of x) ≡ true) where
    normal : least_normal_bits ≤ magnitude_of x
    normal = leb-true least_normal_bits (magnitude_of x) (and-true (leb least_normal_bits (magnitude_of x)) (ltb (magnitude_of x) overflow_bits) t).0

    under : magnitude_of x < overflow_bits
    under = ltb-true (magnitude_of x) overflow_bits (and-true (leb least_normal_bits (magnitude_of x)) (ltb (magnitude_of x) overflow_bits) t).1

    pub normal_room : (0 < 2 ^ 29) × ((2 ^ 29 % 2 ≡ 0) × (to_bits binary64 x + 2 ^ 29 < 2 ^ 64))
    normal_room = (lit< tt, (refl, omega (arith, bits_lt, under)))

    module _ (r : ℕ) (R : r ≡ closest (to_bits binary64 x) (2 ^ 29)) where
      near : rounding (to_bits binary64 x) r
      near = rounding_of (to_bits binary64 x) ∙ sym R

      pub normal_fits : r * 2 ^ 29 < 2 ^ 64
      normal_fits = omega (arith, bits_lt, under, near)

      pub normal_number : T (not (nan_bits binary64 (r * 2 ^ 29)))
      normal_number = reads_number binary64 (r * 2 ^ 29) (beside (to_bits binary64 x) (r * 2 ^ 29) normal under (omega (arith, near)) (omega (arith, near)))
        where
          beside : (b g : ℕ) → least_normal_bits ≤ b % 2 ^ 63 → b % 2 ^ 63 < overflow_bits → g ≤ b + 2 ^ 28 → b ≤ g + 2 ^ 28 → g % 2 ^ 63 ≤ 2047 * 2 ^ 52
          beside b g l h a e = omega (arith, l, h, a, e)

      pub narrow_normal_lem : of_bits binary64 (r * 2 ^ 29) ≡ narrowed x
      narrow_normal_lem = ap (λ (q : ℕ). of_bits binary64 (q * 2 ^ 29)) R ∙ go x (passes (fits binary64 x) f) normal under
        where
          go : (x : Float) → T (fits binary64 x) → least_normal_bits ≤ magnitude_of x → magnitude_of x < overflow_bits → of_bits binary64 (closest (to_bits binary64 x) (2 ^ 29) * 2 ^ 29) ≡ narrowed x
          go nan f l h = absurd (omega (arith, h, bits_nan))
          go (inf s) f l h = absurd (omega (arith, h, bits_inf s, sign-is s (2 ^ 63)))
          go (fin s m e) f l h =
              let y = narrowed (fin s m e) in
              let n = units_of (fin s m e) in
              let b = to_bits binary64 (fin s m e) in
              let p = split s m e f in
              ap (of_bits binary64)
              (normal_bits s n b p l
              ∙ sym (add_assoc (cond s (2 ^ 63) 0) (place (grid n) * 2 ^ 52) (significand (grid n)))
              ∙ sym (bits_of binary64 y s (grid n) (narrowed_value s m e f (normal_under s n b p l h))))
              ∙ of_bits-to_bits binary64 y (fits_widens y (narrowed_fits (fin s m e)))

  -- an infinity
  pub over_fits : infinity_at (to_bits binary64 x) < 2 ^ 64
  over_fits = omega (arith, bits_lt)

  pub over_number : T (not (nan_bits binary64 (infinity_at (to_bits binary64 x))))
  over_number = reads_number binary64 (infinity_at (to_bits binary64 x)) (omega (arith, bits_lt))

  pub narrow_over : ne x x ≡ false → is_normal (magnitude_of x) ≡ false → least_normal_bits ≤ magnitude_of x
      → of_bits binary64 (infinity_at (to_bits binary64 x)) ≡ narrowed x
  unfolding ne
  narrow_over N t l = go x (passes (fits binary64 x) f) N (past (magnitude_of x) t l)
    where
      past : (m : ℕ) → is_normal m ≡ false → least_normal_bits ≤ m → overflow_bits ≤ m
      past m t l = ltb-false m overflow_bits (subst (λ (a : Bool). a && ltb m overflow_bits ≡ false) (le-leb least_normal_bits m l) t)

      infinite : (s : Bool) (b : ℕ) → b - b % 2 ^ 63 ≡ cond s (2 ^ 63) 0 → of_bits binary64 (infinity_at b) ≡ inf s
      infinite s b e = ap (λ (z : ℕ). of_bits binary64 (z + 2047 * 2 ^ 52)) e ∙ ap (of_bits binary64) (sym (bits_inf s)) ∙ of_bits-to_bits binary64 (inf s) (inf-fits binary64 s)

      go : (x : Float) → T (fits binary64 x) → ne x x ≡ false → overflow_bits ≤ magnitude_of x → of_bits binary64 (infinity_at (to_bits binary64 x)) ≡ narrowed x
      go nan f N h = clash true refl N
      go (inf s) f N h = infinite s (to_bits binary64 (inf s)) (omega (arith, bits_inf s, sign-is s (2 ^ 63))) ∙ sym (unfold narrowed in refl)
      go (fin s m e) f N h =
          let n = units_of (fin s m e) in
          let b = to_bits binary64 (fin s m e) in
          let p = split s m e f in
          infinite s b (omega (arith, p.bits, magnitude s n b p)) ∙ sym (narrowed_over s m e f (normal_over s n b p (omega (arith, h)) h))

-- ---- below 2^−126
-- the value of a pattern that is no NaN's has that pattern
pattern_back : (b : ℕ) → b < 2 ^ 64 → b % 2 ^ 63 ≤ 2047 * 2 ^ 52 → to_bits binary64 (of_bits binary64 b) ≡ b
pattern_back b l h = to_bits-of_bits binary64 b l (subst (λ (t : Bool). T (not t)) (nan_bits_is binary64 b) (reads_number binary64 b h))

-- the unit as the code shifts it
abbrev shifted : ℕ → ℕ
shifted b = 1 * 2 ^ unit_place b % 2 ^ 64

-- some number of 2^−149: its pattern is that number
module _ (b : ℕ) (small : b % 2 ^ 63 < least_normal_bits) (B : b < 2 ^ 64) where
  counted : (q : ℕ) → ((s : Bool) (n : ℕ) → Split s n b → closest n (2 ^ 925) ≡ q) → of_bits binary32 (b / 2 ^ 63 * 2 ^ 31 + q) ≡ narrowed (of_bits binary64 b)
  counted q k = go (of_bits binary64 b) (of_bits-fits binary64 b) (pattern_back b B (omega (arith, small)))
    where
      go : (x : Float) → T (fits binary64 x) → to_bits binary64 x ≡ b → of_bits binary32 (b / 2 ^ 63 * 2 ^ 31 + q) ≡ narrowed x
      go nan f e = absurd (omega (arith, small, e, bits_nan))
      go (inf s) f e = absurd (omega (arith, small, e, bits_inf s, sign-is s (2 ^ 63)))
      go (fin s m e) f r =
          let x = narrowed (fin s m e) in
          let n = units_of (fin s m e) in
          let p = subst (Split s n) r (split s m e f) in
          let v = rescale x s (grid n) (2 ^ 1074) q (2 ^ 149) (pow_pos 1074)
          (sym (ap (λ (z : ℕ). z * 2 ^ 149) (small_grid s n b p small ∙ ap (λ (z : ℕ). z * 2 ^ 925) (k s n p)) ∙ mul_assoc q (2 ^ 925) (2 ^ 149)))
          (narrowed_value s m e f (small_under s n b p small)) in
          ap (of_bits binary32)
          (ap (λ (z : ℕ). z + q) (omega (arith, p.bits, p.small, sign-is s (2 ^ 63), sign-is s (2 ^ 31)))
          ∙ sym (count_bits s q (subst (λ (z : ℕ). z ≤ 2 ^ 23) (k s n p) (count-le s n b p small)))
          ∙ sym (bits_of binary32 x s q v))
          ∙ of_bits-to_bits binary32 x (narrowed_fits (fin s m e))

  pub narrow_none : b % 2 ^ 63 / 2 ^ 52 < 873 → of_bits binary32 (b / 2 ^ 63 * 2 ^ 31) ≡ narrowed (of_bits binary64 b)
  narrow_none h = ap (of_bits binary32) (sym (add-zero (b / 2 ^ 63 * 2 ^ 31))) ∙ counted 0 (λ s n p. count_none s n b p small h)

  module _ (some : 873 ≤ b % 2 ^ 63 / 2 ^ 52) where
    unit_is : shifted b ≡ 2 ^ unit_place b
    unit_is = shl_exact {a = 1} 1 (unit_place b) 64 (lit< tt) (omega (arith, some)) ∙ one-mul (2 ^ unit_place b)

    pub unit_fine : (0 < shifted b) × ((shifted b % 2 ≡ 0) × (digits_at b + shifted b < 2 ^ 64))
    unit_fine =
        let i = unit_place b in
        subst (λ (u : ℕ). (0 < u) × ((u % 2 ≡ 0) × (digits_at b + u < 2 ^ 64))) (sym unit_is) (
          pow_pos i,
          (ap (λ (z : ℕ). z % 2) (powers i (i - 1) 1 (omega (arith, small))) ∙ mul-mod_left (2 ^ (i - 1)) 2, omega (arith, pow_mono {i = i} {j = 53} (omega (arith, some)))),
        )

    module _ (r : ℕ) (R : r ≡ closest (digits_at b) (shifted b)) where
      r-is : r ≡ closest (digits_at b) (2 ^ unit_place b)
      r-is = R ∙ ap (λ (u : ℕ). closest (digits_at b) u) unit_is

      pub count_few : r ≤ 2 ^ 23
      count_few =
          let i = unit_place b in
          let w = digits_at b in
          le_trans (le_of_eq r-is)
          (le_trans (nearest-le (w / 2 ^ i) (compare (w % 2 ^ i * 2) (2 ^ i))) (shr_lt {n = w} 23 i (lt_of_lt_of_le {n = w} {m = 2 ^ 53} (omega arith) (pow_mono {i = 53} {j = 23 + i} (omega (arith, small))))))

      pub narrow_small_lem : of_bits binary32 (b / 2 ^ 63 * 2 ^ 31 + r) ≡ narrowed (of_bits binary64 b)
      narrow_small_lem = counted r (λ s n p. count-is s n b p small some ∙ sym r-is)
