-- The arguments that the limiter hands to `exp` lie within its domain.
use Rattle.std.proofs.Common.{◌≡◌, ℕ, ◌+◌, ◌*◌, ◌<◌, Bool, true, false, cond, not, ◌&&◌, T, ltb, leb, ◌⊎◌, ℤ, pos, sym, refl, ◌∙◌, subst, inl, inr, mul-pos, zero-mul, mul-one, arith, lit<, ltb→lt, lt→ltb, ltb-false, ltb-true, lt-ltb, ne_eqb, leb-true}
use mathlib.Core.Bool.{beq}
use lib.Ieee.{Float, nan, inf, fin, binary64, unlike, up, down, round, lt, eq, le, mul, div, neg, of_int, of_bits}
use lib.Ieee.Bits.{is_true}
use lib.Ieee.Fits.{up_pos, down_pos}
use lib.Ieee.Order.{round_mono}
use lib.Ieee.Positive.{positive, positive-finite, le→cross, mul_mono, first_pos}
use lib.Ieee.Positive as P
use lib.Ieee.Scale.{finite, round_same}
use borrow.Author.Tests.{not-true}
use Rattle.arithmetic.specs.Number
use Rattle.arithmetic.specs.Number.{thousandth, frames_of_ms, sign_of}
use Rattle.arithmetic.specs.Exp.{minus700, in_domain}
use Rattle.arithmetic.proofs.Order.{not-lt→le, clash, and-true, or_yes}
use Rattle.arithmetic.proofs.Cut.{neg-round, sign_round}
use Rattle.arithmetic.proofs.Exp.{in_domain_lem}
use Rattle.arithmetic.proofs.UnitBound.{le→numbers, numbers→le}
use Rattle.settings.specs.Derived.{minus_one}
use Rattle.settings.specs.Accepted.{rate_taken, release_taken}
use Rattle.settings.specs.Target.{kept}

-- what is neither below −700 nor a NaN nor above 0 is finite
between : (a : Float) → lt a minus700 ≡ false → le a Number.zero ≡ true → T (finite a)
unfolding lt le of_bits
between nan h k = clash false k refl
between (inf true) h k = clash true refl h
between (inf false) h k = clash false k refl
between (fin s m e) h k = tt

ends : (in_domain minus700 ≡ true) × (in_domain Number.zero ≡ true)
unfolding le of_bits
ends = (refl, refl)

pub kept_within : (a : Float) → in_domain (kept a) ≡ true
kept_within a = low (lt a minus700) refl
  where
    high : (b : Bool) → le a Number.zero ≡ b → lt a minus700 ≡ false → in_domain (cond b a Number.zero) ≡ true
    high true e h = rw (not-lt→le a minus700 (between a h e) (unfold of_bits in tt) h, e) refl
    high false e h = ends.1

    low : (b : Bool) → lt a minus700 ≡ b → in_domain (kept a) ≡ true
    low true e = rw e ends.0
    low false e = rw e (high (le a Number.zero) refl e)

-- ---- −1 / rel, for the rel of accepted settings that is not 0
yes : (b : Bool) → b ≡ true → T b
yes b h = subst T (sym h) tt

-- a zero times a finite value is a zero
round-zero : (s : Bool) (c : ℕ) → 0 < c → round binary64 s 0 c ≡ fin s 0 (pos 0)
round-zero s c C = round_same binary64 s 0 c 0 1 C (lit< tt) (simp zero-mul) ∙ at s
  where
    at : (s : Bool) → round binary64 s 0 1 ≡ fin s 0 (pos 0)
    at true = unfold round in refl
    at false = unfold round in refl

zero_times : (s : Bool) (m : ℕ) (e : ℤ) (y : Float) → m * up e ≡ 0 → T (finite y) → mul binary64 (fin s m e) y ≡ fin (unlike s (sign_of y)) 0 (pos 0)
unfolding mul
zero_times s m e nan z p = absurd p
zero_times s m e (inf t) z p = absurd p
zero_times s m e (fin t n d) z p = rw (z, zero-mul (n * up d)) (round-zero (unlike s t) (down e * down d) (mul-pos (down_pos e) (down_pos d)))

-- a finite value that is not below zero is a zero, or above it
sized : (s : Bool) (m : ℕ) (e : ℤ) → lt (fin s m e) Number.zero ≡ false → (m * up e ≡ 0) ⊎ (T (positive (fin s m e)) × (lt Number.zero (fin s m e) ≡ true))
unfolding lt
sized true m e h = inl (omega (arith, ltb-false 0 (m * up e * 1 + 0 * 1 * down e) h))
sized false m e h = go (ltb 0 (m * up e)) refl
  where
    go : (b : Bool) → ltb 0 (m * up e) ≡ b → (m * up e ≡ 0) ⊎ (T (ltb 0 m) × (ltb (0 * 1 * down e) (m * up e * 1) ≡ true))
    go true k = inr (lt→ltb 0 m (first_pos m (up e) (ltb-true 0 (m * up e) k)), lt-ltb (0 * 1 * down e) (m * up e * 1) (omega (arith, ltb-true 0 (m * up e) k)))
    go false k = inl (omega (arith, ltb-false 0 (m * up e) k))

second : (p q : Bool) → p ≡ true → p && q ≡ false → q ≡ false
second true q h k = k
second false q h k = clash false h refl

-- the ends of the release times that are not 0
abbrev least : Float
least = Number.bits 0x3f84_7ae1_47ae_147b

abbrev most : Float
most = Number.bits 0x40c3_8800_0000_0000

abbrev least_frames : Float
least_frames = frames_of_ms least 8000

abbrev most_frames : Float
most_frames = frames_of_ms most 192000

module _ (rate : ℕ) (taken : rate_taken rate ≡ true) where
  least_rate : T (le (of_int binary64 (pos 8000)) (of_int binary64 (pos rate)))
  unfolding of_int
  least_rate = round_mono binary64 8000 1 rate 1 (lit< tt) (lit< tt) (omega (arith, leb-true 8000 rate (and-true (leb 8000 rate) (leb rate 192000) taken).0))

  most_rate : T (le (of_int binary64 (pos rate)) (of_int binary64 (pos 192000)))
  unfolding of_int
  most_rate = round_mono binary64 rate 1 192000 1 (lit< tt) (lit< tt) (omega (arith, leb-true rate 192000 (and-true (leb 8000 rate) (leb rate 192000) taken).1))

  rate_positive : T (positive (of_int binary64 (pos rate)))
  rate_positive = P.between (of_int binary64 (pos 8000)) (of_int binary64 (pos rate)) (of_int binary64 (pos 192000)) (unfold of_int in tt) (unfold of_int in tt) least_rate most_rate

  no_frames : (s : Bool) (m : ℕ) (e : ℤ) → m * up e ≡ 0 → eq (frames_of_ms (fin s m e) rate) Number.zero ≡ true
  unfolding of_bits eq
  no_frames s m e z =
      rw (zero_times s m e thousandth z tt, zero_times (unlike s false) 0 (pos 0) (of_int binary64 (pos rate)) refl (positive-finite (of_int binary64 (pos rate)) rate_positive)) (or_yes (beq (unlike (unlike s false) (sign_of (of_int binary64 (pos rate)))) false))

  -- a release time from 0.01 on
  frames_low : (ms : Float) → T (positive ms) → le least ms ≡ true → le ms most ≡ true → T (positive (frames_of_ms ms rate)) × T (le least_frames (frames_of_ms ms rate))
  unfolding of_bits
  frames_low ms p h k =
      let a = mul_mono binary64 least ms thousandth thousandth tt p tt tt (yes (le least ms) h) (unfold le in tt) in
      let b = mul_mono binary64 ms most thousandth thousandth p tt tt tt (yes (le ms most) k) (unfold le in tt) in
      let q = P.between (mul binary64 least thousandth) (mul binary64 ms thousandth) (mul binary64 most thousandth) (unfold mul in tt) (unfold mul in tt) a b in
      let r = of_int binary64 (pos rate) in
      let c = mul_mono binary64 (mul binary64 least thousandth) (mul binary64 ms thousandth) (of_int binary64 (pos 8000)) r (unfold mul in tt) q (unfold of_int in tt) rate_positive a least_rate in
      let d = mul_mono binary64 (mul binary64 ms thousandth) (mul binary64 most thousandth) r (of_int binary64 (pos 192000)) q (unfold mul in tt) rate_positive (unfold of_int in tt) b most_rate in
      (P.between least_frames (frames_of_ms ms rate) most_frames (unfold mul in unfold of_int in tt) (unfold mul in unfold of_int in tt) c d, c)

  -- what is not 0 is at least that
  frames_above : (ms : Float) → release_taken ms ≡ true → eq (frames_of_ms ms rate) Number.zero ≡ false → T (positive (frames_of_ms ms rate)) × T (le least_frames (frames_of_ms ms rate))
  frames_above nan t n = clash false t refl
  frames_above (inf s) t n = clash false t refl
  frames_above (fin s m e) t n =
      let x = fin s m e in
      let a = and-true (true && not (lt x Number.zero) && not (lt most x)) (not (lt Number.zero x && lt x least)) t in
      let b = and-true (true && not (lt x Number.zero)) (not (lt most x)) a.0 in
      elim (sized s m e (not-true _ b.0)) [
        | inl z ↦ clash _ (no_frames s m e z) n
        | inr p ↦ frames_low x p.0 (not-lt→le x least tt (unfold of_bits in tt) (second (lt Number.zero x) (lt x least) p.1 (not-true _ a.1))) (not-lt→le most x (unfold of_bits in tt) tt (not-true _ b.1))
      ]

-- what has no sign and is at most 13, with the sign turned
turned : (y : Float) → sign_of y ≡ false → le y (fin false 13 (pos 0)) ≡ true → in_domain (neg y) ≡ true
unfolding neg of_bits le
turned nan s h = clash false h refl
turned (inf true) s h = clash true refl s
turned (inf false) s h = clash false h refl
turned (fin true m e) s h = clash true refl s
turned (fin false m e) s h =
    let k = le→numbers (fin false m e) (fin false 13 (pos 0)) tt tt h in
    in_domain_lem (fin true m e) (numbers→le minus700 (fin true m e) tt tt (omega arith)) (numbers→le (fin true m e) Number.zero tt tt (omega arith))

-- −1 / rel is minus the rounded inverse of rel, which is from 0 to 13
inverse : (rel : Float) → T (positive rel) → T (le least_frames rel) → in_domain (div binary64 minus_one rel) ≡ true
unfolding of_bits div mul of_int
inverse nan p h = absurd p
inverse (inf s) p h = absurd p
inverse (fin true n d) p h = absurd p
inverse (fin false n d) p h =
    let c = le→cross least_frames (fin false n d) tt p h in
    let N : 0 < n * up d * 1 = rw (mul-one (n * up d)) (mul-pos (ltb→lt 0 n p) (up_pos d)) in
    rw (ne_eqb n 0 (λ z. omega (arith, ltb→lt 0 n p)), ← neg-round binary64 false (1 * down d) (n * up d * 1))
    (turned (round binary64 false (1 * down d) (n * up d * 1)) (sign_round binary64 false (1 * down d) (n * up d * 1))
    (subst (λ (z : Float). le (round binary64 false (1 * down d) (n * up d * 1)) z ≡ true) thirteen (is_true _ (round_mono binary64 (1 * down d) (n * up d * 1) 13 1 N (lit< tt) (omega arith)))))
  where
    thirteen : round binary64 false 13 1 ≡ fin false 13 (pos 0)
    thirteen = unfold round in refl

pub release_within : (ms : Float) (rate : ℕ) → release_taken ms ≡ true → rate_taken rate ≡ true → eq (frames_of_ms ms rate) Number.zero ≡ false → in_domain (div binary64 minus_one (frames_of_ms ms rate)) ≡ true
release_within ms rate t r n = let k = frames_above rate r ms t n in inverse (frames_of_ms ms rate) k.0 k.1
