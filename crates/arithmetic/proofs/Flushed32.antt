-- An output that `narrow_flushed` takes at once: its pattern is at least that of 1e-30, so its value is, and the output rule leaves it as it is.
use Rattle.std.proofs.Common.{◌≡◌, ℕ, ◌+◌, ◌*◌, ◌^◌, ◌<◌, ◌≤◌, Bool, true, false, cond, ◌&&◌, T, ltb, leb, sym, refl, ap, ◌∙◌, subst, le_trans, le_of_eq, mul-le-mul_right, mul-le-mul_left, arith, lit≤, pow_pos, pow_mono, pow-add, ltb-false, ltb-true, le-ltb, le-leb, leb-true}
use lib.Ieee.{Float, nan, inf, fin, binary64, fits, lt, ne, of_bits, to_bits, round}
use lib.Ieee.Compare.{differs_from_itself}
use lib.Ieee.Exact.{HasValue}
use lib.Ieee.Scale.{finite}
use denote.Floats.{passes}
use Rattle.arithmetic.specs.Number
use Rattle.arithmetic.specs.Narrow.{narrowed, units_of}
use Rattle.arithmetic.specs.Part.{least_normal_bits, overflow_bits, magnitude_of, is_normal}
use Rattle.arithmetic.specs.Sanitize.{denormal_floor, flush_denormal}
use Rattle.arithmetic.proofs.Order.{and-true}
use Rattle.arithmetic.proofs.Values.{lt_values}
use Rattle.arithmetic.proofs.Units.{units_value}
use Rattle.arithmetic.proofs.Power.{powers}
use Rattle.arithmetic.proofs.Fitting.{fits_signed}
use Rattle.arithmetic.proofs.Places32.{place, significand, split, magnitude}
use Rattle.arithmetic.proofs.Ways32.{normal_finite}

-- ---- a NaN becomes 0.0
flushed : of_bits binary64 0 ≡ narrowed (flush_denormal nan)
unfolding of_bits narrowed round lt
flushed = refl

pub flushed_nan : (x : Float) → ne x x ≡ true → of_bits binary64 0 ≡ narrowed (flush_denormal x)
flushed_nan x h = subst (λ (y : Float). of_bits binary64 0 ≡ narrowed (flush_denormal y)) (sym (differs_from_itself x (passes (ne x x) h))) flushed

-- ---- a pattern that is no lower is that of a value that is no lower: by the last digit's place, and where it is the same by the digits
module _ (n p d j w : ℕ) (is : n ≡ d * 2 ^ p) (few : d < 2 ^ 53) (full : 0 < p → 2 ^ 52 ≤ d) (lo : 2 ^ 52 ≤ w) (hi : w ≤ 2 ^ 53) (h : j * 2 ^ 52 + w ≤ p * 2 ^ 52 + d) where
  no_lower : w * 2 ^ j ≤ n
  no_lower = go (ltb p j) refl (ltb j p) refl
    where
      go : (a : Bool) → ltb p j ≡ a → (b : Bool) → ltb j p ≡ b → w * 2 ^ j ≤ n
      go true A b B = absurd (omega (arith, ltb-true p j A, few, lo, h))
      go false A true B =
          let l = ltb-true j p B in
          le_trans (mul-le-mul_right (2 ^ j) hi)
          (le_trans (le_of_eq (sym (pow-add 2 53 j) ∙ powers (53 + j) 52 (1 + j) (omega arith)))
          (le_trans (mul-le-mul_left (2 ^ 52) (pow_mono {i = 1 + j} {j = p} (omega (arith, l))))
          (le_trans (mul-le-mul_right (2 ^ p) (full (omega (arith, l)))) (le_of_eq (sym is)))))
      go false A false B =
          let e : p ≡ j = omega (arith, ltb-false p j A, ltb-false j p B) in
          le_trans (mul-le-mul_right (2 ^ j) (omega (arith, e, h))) (le_of_eq (ap (λ (z : ℕ). d * 2 ^ z) (sym e) ∙ sym is))

-- ---- 1e-30: its pattern, and its units
abbrev floor_bits : ℕ
floor_bits = 0x39b4_484b_feeb_c2a0

abbrev floor_units : ℕ
floor_units = 0x14_484b_feeb_c2a0 * 2 ^ 922

floor_value : HasValue denormal_floor false floor_units (2 ^ 1074)
unfolding of_bits
floor_value = (refl, refl)

-- the code's test
abbrev leaves_at_once : ℕ → Bool
leaves_at_once m = leb floor_bits m && ltb m overflow_bits

module _ (x : Float) (t : leaves_at_once (magnitude_of x) ≡ true) where
  least : floor_bits ≤ magnitude_of x
  least = leb-true floor_bits (magnitude_of x) (and-true (leb floor_bits (magnitude_of x)) (ltb (magnitude_of x) overflow_bits) t).0

  pub flush_normal : is_normal (magnitude_of x) ≡ true
  flush_normal =
      rw (le-leb least_normal_bits (magnitude_of x) (omega (arith, least)), (and-true (leb floor_bits (magnitude_of x)) (ltb (magnitude_of x) overflow_bits) t).1) refl

pub flush_kept : (x : Float) → fits binary64 x ≡ true → leaves_at_once (magnitude_of x) ≡ true → flush_denormal x ≡ x
flush_kept x f t = go x (passes (fits binary64 x) f) (normal_finite x (flush_normal x t)) (least x t)
  where
    go : (x : Float) → T (fits binary64 x) → T (finite x) → floor_bits ≤ magnitude_of x → flush_denormal x ≡ x
    go nan f p h = absurd p
    go (inf s) f p h = absurd p
    go (fin s m e) f p h =
        let n = units_of (fin s m e) in
        let q = split s m e f in
        let high = no_lower n (place n) (significand n) 922 0x14_484b_feeb_c2a0 q.is q.few q.full (lit≤ tt) (lit≤ tt) (omega (arith, h, magnitude s n (to_bits binary64 (fin s m e)) q)) in
        ap (λ (b : Bool). cond b Number.zero (fin s m e))
        (lt_values (fin false m e) denormal_floor n (2 ^ 1074) floor_units (2 ^ 1074) (pow_pos 1074) (pow_pos 1074) (units_value false m e (fits_signed s false m e f)) floor_value
        ∙ le-ltb (n * 2 ^ 1074) (floor_units * 2 ^ 1074) (mul-le-mul_right (2 ^ 1074) high))
