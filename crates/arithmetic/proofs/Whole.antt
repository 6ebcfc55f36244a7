-- `round` and `ceil`: the whole part of a value above zero, and what lies past it.
use Rattle.std.proofs.Common.{◌≡◌, ℕ, zero, suc, ◌+◌, ◌*◌, ◌/◌, ◌%◌, ◌^◌, ◌<◌, ◌≤◌, min, Bool, true, false, ◌&&◌, T, eqb, ltb, leb, ℤ, pos, negsuc, sym, refl, ap, ◌∙◌, subst, lt_trans, mul_assoc, div-lt_iff_lt-mul, add-mul, one-mul, pow-suc, le-div_iff_mul-le, zero-mul, mul-one, div-mul-le_self, div-one, mul_left_comm, arith, lit<, lt→ltb, pow_pos, shl_lt, ltb-false, ltb-true}
use native.Mathlib.Nat.{zero-div, lt-div-mul-add, div-eq_of_lt-le, div-eq_of_lt}
use lib.Pow.{pow-lt}
use lib.Ieee.{Float, nan, inf, fin, binary64, up, down, lt, add, fits, of_int, to_unsigned}
use lib.Ieee.Fits.{down_pos}
use lib.Ieee.Exact.{HasValue, round_exact}
use lib.Ieee.Back.{round_whole}
use Rattle.arithmetic.specs.Number
use Rattle.arithmetic.specs.Number.{largest, whole_by, halves_up, upward}
use Rattle.arithmetic.specs.Part.{all_whole, fractional}
use Rattle.arithmetic.proofs.Order.{clash, and-true}
use Rattle.arithmetic.proofs.Values.{lt_values, add_values}

-- a whole number that every f64 near it can tell apart, and half of one more
whole_value : (t : ℕ) → t < 2 ^ 52 → HasValue (of_int binary64 (pos t)) false t 1
unfolding of_int
whole_value t h = round_whole binary64 false t (omega arith)

half_value : (t : ℕ) → t < 2 ^ 52 → HasValue (add binary64 (of_int binary64 (pos t)) (fin false 1 (negsuc 0))) false (t * 2 + 1) 2
half_value t h =
    subst (λ (x : Float). HasValue x false (t * 2 + 1) 2) (sym (add_values binary64 (of_int binary64 (pos t)) (fin false 1 (negsuc 0)) t 1 1 2 (lit< tt) (lit< tt) (whole_value t h) (refl, refl)))
    (round_exact binary64 false (t * 2 + 1) 2 (t * 2 + 1) 1073 (lit< tt) (omega arith) (lt_trans (shl_lt {a = t * 2 + 1} 53 1073 (omega arith)) (pow-lt {i = 1126} {j = 2098} (lit< tt))) (sym (mul_assoc (t * 2 + 1) (2 ^ 1073) 2)))

-- ---- where a value lies, by the test against zero
pub over_zero : (P : Float → Type 0) → P (inf false) → ((m : ℕ) (e : ℤ) → P (fin false m e)) → (x : Float) → lt Number.zero x ≡ true → P x
unfolding lt
over_zero P i f nan h = clash false h refl
over_zero P i f (inf true) h = clash false h refl
over_zero P i f (inf false) h = i
over_zero P i f (fin true m e) h = clash false h refl
over_zero P i f (fin false m e) h = f m e

-- a value against a power of two, by its fraction
lt_power : (m : ℕ) (e : ℤ) (k : ℕ) → lt (fin false m e) (fin false 1 (pos k)) ≡ ltb (m * up e) (2 ^ k * down e)
lt_power m e k =
    lt_values (fin false m e) (fin false 1 (pos k)) (m * up e) (down e) (2 ^ k) 1 (down_pos e) (lit< tt) (refl, refl) (refl, ap (λ (z : ℕ). z * 1) (one-mul (2 ^ k)))
    ∙ ap (λ (z : ℕ). ltb z (2 ^ k * down e)) (mul-one (m * up e))

zero-lt : (m : ℕ) (e : ℤ) → lt Number.zero (fin false m e) ≡ ltb 0 (m * up e)
zero-lt m e = lt_values Number.zero (fin false m e) 0 1 (m * up e) (down e) (lit< tt) (down_pos e) (refl, refl) (refl, refl) ∙ ends (down e) (m * up e)
  where
    ends : (d n : ℕ) → ltb (0 * d) (n * 1) ≡ ltb 0 n
    ends d n = rw (zero-mul d, mul-one n) refl

-- ---- what `truncating_f64_to_u64` asks of what is not below zero
pub cut_low : (x : Float) → lt Number.zero x ≡ true → T (lt (fin true 1 (pos 0)) x)
unfolding lt
cut_low = over_zero (λ x. T (lt (fin true 1 (pos 0)) x)) tt (λ m e. lt→ltb 0 (1 * down e + m * up e * 1) (omega (arith, down_pos e)))

-- ---- the two rules for a whole number
-- what a rule for a whole number has to do: keep a whole number, reach what it is asked to reach, and give nothing for nothing
pub record Rule (rule : ℕ → ℕ → ℕ) : Type 0 where
  pub whole : (n : ℕ) → rule n 1 ≡ n
  pub reach : (n d k : ℕ) → 0 < d → k * d ≤ n → k ≤ rule n d
  pub nothing : (d : ℕ) → 0 < d → rule 0 d ≡ 0

pub rule_halves : Rule halves_up
rule_halves = record {
  whole = λ n. omega arith;
  reach = λ n d k D h. (le-div_iff_mul-le (double D)).1 (within n d k h);
  nothing = λ d D. div-eq_of_lt (omega arith);
}
  where
    double : {d : ℕ} → 0 < d → 0 < 2 * d
    double h = omega arith

    within : (n d k : ℕ) → k * d ≤ n → k * (2 * d) ≤ 2 * n + d
    within n d k h = rw (mul_left_comm k 2 d) (omega arith)

pub rule_upward : Rule upward
rule_upward = record {
  whole = λ n. omega arith;
  reach = λ n d k D h. (le-div_iff_mul-le D).1 (omega arith);
  nothing = λ d D. div-eq_of_lt (omega arith);
}

-- ---- outside 0 to 2^52, by either rule
capped : (a : ℕ) → largest ≤ a → largest ≡ min a largest
capped a h = omega arith

-- digits of a value that the format holds
pub digits : (s : Bool) (m : ℕ) (e : ℤ) → fits binary64 (fin s m e) ≡ true → m < 2 ^ 53
unfolding fits
digits s zero e h = lit< tt
digits s (suc m) e h =
    ltb-true (suc m) (2 ^ 53)
    (and-true (eqb (suc m % 2) 1) (ltb (suc m) (2 ^ 53)) (and-true (eqb (suc m % 2) 1 && ltb (suc m) (2 ^ 53)) (leb (down e) (2 ^ 1074)) (and-true (eqb (suc m % 2) 1 && ltb (suc m) (2 ^ 53) && leb (down e) (2 ^ 1074)) (ltb (suc m * up e) (2 ^ 1024 * down e)) h).0).0).1

-- from 2^52 on a value has no fraction
no_fraction : (m : ℕ) (e : ℤ) → m < 2 ^ 53 → 2 ^ 52 * down e ≤ m * up e → down e ≡ 1
no_fraction m (pos k) f h = refl
no_fraction m (negsuc k) f h = absurd (omega (arith, pow-suc 2 k, pow_pos k))

-- what is not above zero has no magnitude, and is cut to 0
no_magnitude : (m : ℕ) (e : ℤ) → lt Number.zero (fin false m e) ≡ false → m * up e ≡ 0
no_magnitude m e h = omega (arith, ltb-false 0 (m * up e) (sym (zero-lt m e) ∙ h))

cut_none : (x : Float) → lt Number.zero x ≡ false → to_unsigned 64 x ≡ 0
unfolding lt to_unsigned
cut_none nan h = refl
cut_none (inf true) h = refl
cut_none (inf false) h = clash true refl h
cut_none (fin true m e) h = refl
cut_none (fin false m e) h = rw (no_magnitude m e h, zero-div (down e)) refl

module _ (rule : ℕ → ℕ → ℕ) (r : Rule rule) where
  pub whole_none : (x : Float) → lt Number.zero x ≡ false → 0 ≡ whole_by rule x
  unfolding lt
  whole_none nan h = refl
  whole_none (inf true) h = refl
  whole_none (inf false) h = clash true refl h
  whole_none (fin true m e) h = refl
  whole_none (fin false m e) h = rw (no_magnitude m e h, r.nothing (down e) (down_pos e)) refl

  pub whole_large : (x : Float) (t : ℕ) → fits binary64 x ≡ true → lt Number.zero x ≡ true → lt x all_whole ≡ false → t ≡ to_unsigned 64 x → t ≡ whole_by rule x
  unfolding to_unsigned
  whole_large x t f p = over_zero (λ x. fits binary64 x ≡ true → lt x all_whole ≡ false → t ≡ to_unsigned 64 x → t ≡ whole_by rule x) (λ g h e. e) large x p f
    where
      large : (m : ℕ) (e : ℤ) → fits binary64 (fin false m e) ≡ true → lt (fin false m e) all_whole ≡ false → t ≡ to_unsigned 64 (fin false m e) → t ≡ whole_by rule (fin false m e)
      large m e g h k =
          let one = no_fraction m e (digits false m e g) (ltb-false (m * up e) (2 ^ 52 * down e) (sym (lt_power m e 52) ∙ h)) in
          k ∙ rw (one, r.whole (m * up e), div-one (m * up e)) refl

  -- what may have no fraction is its whole part by either
  pub whole_exact : (x : Float) → fits binary64 x ≡ true → fractional x ≡ false → to_unsigned 64 x ≡ whole_by rule x
  whole_exact x f h = go (lt Number.zero x) refl
    where
      go : (b : Bool) → lt Number.zero x ≡ b → to_unsigned 64 x ≡ whole_by rule x
      go true p = whole_large x _ f p (rw p at h) refl
      go false p = cut_none x p ∙ whole_none x p

-- ---- from 0 to 2^52, with the whole part t of n / d
cut_small : (m : ℕ) (e : ℤ) (t : ℕ) → lt (fin false m e) all_whole ≡ true → t ≡ to_unsigned 64 (fin false m e) → (t ≡ m * up e / down e) × (t < 2 ^ 52)
unfolding to_unsigned
cut_small m e t h k =
    let l : m * up e / down e < 2 ^ 52 = (div-lt_iff_lt-mul (down_pos e)).1 (ltb-true (m * up e) (2 ^ 52 * down e) (sym (lt_power m e 52) ∙ h)) in
    (omega arith, omega arith)

fits_u64 : (a : ℕ) → a ≤ 2 ^ 52 → a ≡ min a largest
fits_u64 a h = omega arith

-- the half-way point above t, against n / d
halfway : (m : ℕ) (e : ℤ) (t : ℕ) → t < 2 ^ 52 → lt (fin false m e) (add binary64 (of_int binary64 (pos t)) (fin false 1 (negsuc 0))) ≡ ltb (m * up e * 2) ((t * 2 + 1) * down e)
halfway m e t h = lt_values (fin false m e) (add binary64 (of_int binary64 (pos t)) (fin false 1 (negsuc 0))) (m * up e) (down e) (t * 2 + 1) 2 (down_pos e) (lit< tt) (refl, refl) (half_value t h)

pub next : (t d : ℕ) → (t + 1) * d ≡ t * d + d
next t d = add-mul t 1 d ∙ ap (λ (z : ℕ). t * d + z) (one-mul d)

twice : (t d : ℕ) → t * (2 * d) ≡ 2 * (t * d)
twice t d = mul_left_comm t 2 d

odd_times : (t d : ℕ) → (t * 2 + 1) * d ≡ 2 * (t * d) + d
odd_times t d = add-mul (t * 2) 1 d ∙ rw (mul_assoc t 2 d, twice t d, one-mul d) refl

module _ (n d t : ℕ) (D : 0 < d) (e : t ≡ n / d) where
  low : t * d ≤ n
  low = rw e (div-mul-le_self n d)

  high : n < t * d + d
  high = rw e (lt-div-mul-add D)

  halves_below : n * 2 < (t * 2 + 1) * d → t ≡ halves_up n d
  halves_below h = sym (div-eq_of_lt-le {k = t} (2 * d) (omega (arith, twice t d, low)) (omega (arith, next t (2 * d), twice t d, odd_times t d)))

  halves_above : (t * 2 + 1) * d ≤ n * 2 → t + 1 ≡ halves_up n d
  halves_above h =
      sym
      (div-eq_of_lt-le {k = t + 1} (2 * d) (omega (arith, next t (2 * d), twice t d, odd_times t d))
      (omega (arith, next (t + 1) (2 * d), next t (2 * d), twice t d, high)))

  upward_same : n ≤ t * d → t ≡ upward n d
  upward_same h = sym (div-eq_of_lt-le {k = t} d (omega (arith, low)) (omega (arith, next t d)))

  upward_more : t * d < n → t + 1 ≡ upward n d
  upward_more h = sym (div-eq_of_lt-le {k = t + 1} d (omega (arith, next t d)) (omega (arith, next (t + 1) d, next t d, high)))

-- ---- what the four ends of `round` and `ceil` below 2^52 come to
module _ (x : Float) (t : ℕ) (w : Float) (Q : fractional x ≡ true) (c : t ≡ to_unsigned 64 x) (g : w ≡ of_int binary64 (pos t)) where
  -- a test that came out b says that u is what the rule gives
  ends : (rule : ℕ → ℕ → ℕ) (test : Float → Bool) (b : Bool) (u : ℕ) → u ≤ t + 1
      → ((m : ℕ) (e : ℤ) → t ≡ m * up e / down e → t < 2 ^ 52 → test (fin false m e) ≡ b → u ≡ rule (m * up e) (down e))
      → test x ≡ b → u ≡ whole_by rule x
  unfolding lt
  ends rule test b u l f = over_zero (λ x. lt x all_whole ≡ true → t ≡ to_unsigned 64 x → test x ≡ b → u ≡ whole_by rule x) (λ h k. clash false h refl) end x q.0 q.1 c
    where
      q : (lt Number.zero x ≡ true) × (lt x all_whole ≡ true)
      q = and-true (lt Number.zero x) (lt x all_whole) Q

      end : (m : ℕ) (e : ℤ) → lt (fin false m e) all_whole ≡ true → t ≡ to_unsigned 64 (fin false m e) → test (fin false m e) ≡ b → u ≡ whole_by rule (fin false m e)
      end m e h k o =
          let s = cut_small m e t h k in
          let r = f m e s.0 s.1 o in
          r ∙ fits_u64 (rule (m * up e) (down e)) (omega arith)

  abbrev half : Float
  half = add binary64 w (fin false 1 (negsuc 0))

  at_half : (m : ℕ) (e : ℤ) → t < 2 ^ 52 → lt (fin false m e) half ≡ ltb (m * up e * 2) ((t * 2 + 1) * down e)
  at_half m e h = rw g (halfway m e t h)

  at_whole : (m : ℕ) (e : ℤ) → t < 2 ^ 52 → lt w (fin false m e) ≡ ltb (t * down e) (m * up e * 1)
  at_whole m e h = rw g (lt_values (of_int binary64 (pos t)) (fin false m e) t 1 (m * up e) (down e) (lit< tt) (down_pos e) (whole_value t h) (refl, refl))

  pub round_below : lt x half ≡ true → t ≡ whole_by halves_up x
  round_below = ends halves_up (λ x. lt x half) true t (omega arith) (λ m e k l h. halves_below (m * up e) (down e) t (down_pos e) k (ltb-true (m * up e * 2) ((t * 2 + 1) * down e) (sym (at_half m e l) ∙ h)))

  pub round_above : lt x half ≡ false → t + 1 ≡ whole_by halves_up x
  round_above = ends halves_up (λ x. lt x half) false (t + 1) (omega arith) (λ m e k l h. halves_above (m * up e) (down e) t (down_pos e) k (ltb-false (m * up e * 2) ((t * 2 + 1) * down e) (sym (at_half m e l) ∙ h)))

  pub ceil_more : lt w x ≡ true → t + 1 ≡ whole_by upward x
  ceil_more = ends upward (λ x. lt w x) true (t + 1) (omega arith) (λ m e k l h. upward_more (m * up e) (down e) t (down_pos e) k (omega (arith, ltb-true (t * down e) (m * up e * 1) (sym (at_whole m e l) ∙ h))))

  pub ceil_same : lt w x ≡ false → t ≡ whole_by upward x
  ceil_same = ends upward (λ x. lt w x) false t (omega arith) (λ m e k l h. upward_same (m * up e) (down e) t (down_pos e) k (omega (arith, ltb-false (t * down e) (m * up e * 1) (sym (at_whole m e l) ∙ h))))

-- the whole part leaves room for one more
pub room : (x : Float) (t : ℕ) → fractional x ≡ true → t ≡ to_unsigned 64 x → t + 1 < 2 ^ 64
unfolding lt
room x t b =
    let q = and-true (lt Number.zero x) (lt x all_whole) b in
    over_zero (λ x. lt x all_whole ≡ true → t ≡ to_unsigned 64 x → t + 1 < 2 ^ 64) (λ h k. clash false h refl) (λ m e h k. let s = cut_small m e t h k in omega arith) x q.0 q.1
