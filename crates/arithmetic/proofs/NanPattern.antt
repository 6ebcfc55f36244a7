-- A NaN pattern reads as `nan`, and only `nan` differs from itself; a pattern whose exponent is all ones reads as nothing finite.
use Rattle.std.proofs.Common.{◌≡◌, ℕ, zero, suc, ◌+◌, ◌*◌, ◌/◌, ◌%◌, ◌<◌, ◌≤◌, Bool, true, false, cond, not, T, eqb, sym, refl, ap, ◌∙◌, subst, le-ltb, lt-ltb, ne_eqb}
use lib.Ieee.{Float, nan, inf, fin, Format, binary32, binary64, prec, low, hid, ones, top, odd, div, ne, is_nan, of_fields, of_bits, to_bits, nan_bits}
use lib.Ieee.Bits.{nan_bits_is, nan_bits_above}
use Rattle.arithmetic.specs.Number
use Rattle.arithmetic.specs.Sanitize.{finite_or_zero}
use Rattle.arithmetic.proofs.Order.{clash}
use Rattle.arithmetic.proofs.Cases.{ne_nan}

only_nan : (x : Float) → is_nan x ≡ true → nan ≡ x
unfolding is_nan
only_nan nan h = refl
only_nan (inf s) h = clash false h refl
only_nan (fin s m e) h = clash false h refl

-- how the code makes a NaN
pub nan_quotient : div binary64 (of_bits binary64 0) (of_bits binary64 0) ≡ nan
unfolding div of_bits
nan_quotient = refl

-- patterns past the infinity's are a NaN's, in both formats
pub reads_nan : (f : Format) (n : ℕ) → ones f * hid f < n % top f → nan ≡ of_bits f n
reads_nan f n h = only_nan (of_bits f n) (sym (nan_bits_is f n) ∙ nan_bits_above f n ∙ lt-ltb (ones f * hid f) (n % top f) h)

pub reads_number : (f : Format) (n : ℕ) → n % top f ≤ ones f * hid f → T (not (nan_bits f n))
reads_number f n h = subst (λ (b : Bool). T (not b)) (sym (nan_bits_above f n ∙ le-ltb (ones f * hid f) (n % top f) h)) tt

pub writes_nan : (f : Format) (x : Float) → ne x x ≡ true → to_bits f nan ≡ to_bits f x
writes_nan f x h = ap (to_bits f) (only_nan x (sym (ne_nan x) ∙ h))

pub writes_number : (x : Float) → ne x x ≡ false → T (not (is_nan x))
writes_number x h = subst (λ (b : Bool). T (not b)) (sym (sym (ne_nan x) ∙ h)) tt

-- ---- the exponent's field tells what is finite
odd_kept : (d : ℕ) (s : Bool) (q k l : ℕ) → odd d s q k l ≡ finite_or_zero (odd d s q k l)
unfolding odd
odd_kept d s zero k l = refl
odd_kept d s (suc q) k l = refl

fields_kept : (f : Format) (s : Bool) (x t : ℕ) → eqb x (ones f) ≡ false → of_fields f s x t ≡ finite_or_zero (of_fields f s x t)
unfolding of_fields
fields_kept f s zero t h = odd_kept (prec f) s t 0 (low f)
fields_kept f s (suc x) t h = rw h (odd_kept (prec f) s (hid f + t) x (low f))

-- all ones: an infinity or a NaN
fields_silenced : (f : Format) (s : Bool) (t : ℕ) → Number.zero ≡ finite_or_zero (of_fields f s (ones f) t)
unfolding of_fields
fields_silenced f s t = at f
  where
    go : (b : Bool) → Number.zero ≡ finite_or_zero (cond b (inf s) nan)
    go true = refl
    go false = refl

    at : (f : Format) → Number.zero ≡ finite_or_zero (of_fields f s (ones f) t)
    at binary32 = go (eqb t 0)
    at binary64 = go (eqb t 0)

module _ (f : Format) (n : ℕ) where
  pub reads_silence : n % top f / hid f ≡ ones f → Number.zero ≡ finite_or_zero (of_bits f n)
  unfolding of_bits
  reads_silence h = rw h (fields_silenced f _ (n % hid f))

  module _ (h : n % top f / hid f ≡ ones f → ⊥) where
    pub reads_finite : of_bits f n ≡ finite_or_zero (of_bits f n)
    unfolding of_bits
    reads_finite = fields_kept f _ (n % top f / hid f) _ (ne_eqb _ _ h)

    pub finite_number : T (not (nan_bits f n))
    unfolding nan_bits
    finite_number = rw (ne_eqb (n % top f / hid f) (ones f) h) tt
