-- The reduced argument of `exp`: n = −k is the whole number nearest to INVLN2 × −x but for 1/64, so that x − k × ln 2 has a magnitude of at most 3/8.
use Rattle.std.proofs.Common.{◌≡◌, ℕ, ◌+◌, ◌-◌, ◌*◌, ◌/◌, ◌^◌, ◌<◌, ◌≤◌, Bool, true, false, not, T, ℤ, negsuc, sym, refl, ap, ◌∙◌, subst, lt_trans, mul-le-mul_right, mul_assoc, mul_comm, add-mul, mul-pos, lt_of_not-le, mul-one, mul_right_comm, not-le_of_lt, div-mul-le_self, le_of_mul-le-mul_right, mul_left_comm, arith, lit<, lit≤, shl_lt}
use native.Mathlib.Nat.{lt-div-mul-add}
use lib.Pow.{pow-lt}
use lib.Ieee.{Float, nan, inf, fin, binary64, up, down, round, neg, add, sub, mul, of_int, of_bits, to_unsigned}
use lib.Ieee.Back.{round_whole}
use lib.Ieee.Exact.{HasValue, round_exact}
use lib.Ieee.Fits.{down_pos}
use lib.Ieee.Positive.{num, den, den_pos}
use lib.Ieee.Scale.{finite, round_same}
use Rattle.arithmetic.specs.Number
use Rattle.arithmetic.specs.Number.{one, sign_of, within}
use Rattle.arithmetic.specs.Exp.{ln2_hi, ln2_lo, inv_ln2, half, cutting, k_of, hi_of, lo_of, reduced}
use Rattle.arithmetic.proofs.Order.{clash}
use Rattle.arithmetic.proofs.Values.{add_values}
use Rattle.arithmetic.proofs.Whole.{next}
use Rattle.arithmetic.proofs.Cut.{neg-round, sign_round, turned}
use Rattle.arithmetic.proofs.UnitBound.{Bound, exact, round_bound, round_above, sum_apart, mul_bound}
use Rattle.arithmetic.proofs.UnitScaled.{Small, widen, sub_small, scaled_unit}

-- ---- k, and its products with the two parts of ln 2
neg_value : (x : Float) (s : Bool) (a c : ℕ) → HasValue x s a c → HasValue (neg x) (not s) a c
unfolding neg
neg_value nan s a c h = absurd h
neg_value (inf t) s a c h = absurd h
neg_value (fin t m e) s a c h = (ap not h.0, h.1)

module _ (n : ℕ) (N : n ≤ 1022) where
  k_value : HasValue (k_of n) true n 1
  unfolding of_int
  k_value = neg_value (round binary64 false n 1) false n 1 (round_whole binary64 false n (omega arith))

  exact_product : (x : Float) → HasValue x true n 1 → HasValue (mul binary64 x ln2_hi) true (n * 2977044471) (2 ^ 32)
  exact_product nan h = absurd h
  exact_product (inf t) h = absurd h
  exact_product (fin false m e) h = clash false h.0 refl
  exact_product (fin true m e) h =
      subst (λ (z : Float). HasValue z true (n * 2977044471) (2 ^ 32))
      (sym
      (product
      ∙ round_same binary64 true (m * up e * 2977044471) (down e * 2 ^ 32) (n * 2977044471) (2 ^ 32) (mul-pos (down_pos e) (lit< tt)) (lit< tt) (crossed (m * up e) (down e) h.1)))
      (round_exact binary64 true (n * 2977044471) (2 ^ 32) (n * 2977044471) 1042 (lit< tt) (omega arith) (lt_trans (shl_lt {a = n * 2977044471} 53 1042 (omega arith)) (pow-lt {i = 1095} {j = 2098} (lit< tt)))
      (sym (mul_assoc (n * 2977044471) (2 ^ 1042) (2 ^ 32))))
    where
      product : mul binary64 (fin true m e) ln2_hi ≡ round binary64 true (m * up e * 2977044471) (down e * 2 ^ 32)
      product = unfold mul in unfold of_bits in refl

      crossed : (p d : ℕ) → p * 1 ≡ n * d → p * 2977044471 * 2 ^ 32 ≡ n * 2977044471 * (d * 2 ^ 32)
      crossed p d h = ap (λ (z : ℕ). z * 2977044471 * 2 ^ 32) (sym (mul-one p) ∙ h) ∙ ap (λ (z : ℕ). z * 2 ^ 32) (mul_right_comm n d 2977044471) ∙ mul_assoc (n * 2977044471) d (2 ^ 32)

  k_bound : (x : Float) → HasValue x true n 1 → Bound 1022 1 x
  k_bound nan h = absurd h
  k_bound (inf t) h = absurd h
  k_bound (fin t m e) h = record { known = tt; most = omega (arith, h.1, mul-le-mul_right (down e) N) }

  lo_small : Small 1 (lo_of n)
  unfolding of_bits
  lo_small = mul_bound {b = 1} {c = 1} {d = 65536} (exact 1 6 (lit< tt) (lit≤ tt)) (lit< tt) (lit< tt) (lit≤ tt) (k_of n) ln2_lo (k_bound (k_of n) k_value) (record { known = tt; most = lit≤ tt })

-- ---- hi: −A / D and B / q, which is b / d, are at most 3/8 apart
module _ (A D B q b d : ℕ) (P : 0 < d) (e : B * d ≡ b * q) where
  same : B * d * (D * 64) ≡ b * q * (D * 64)
  same = ap (λ (z : ℕ). z * (D * 64)) e

  over_hi : A * d * 64 ≤ 24 * (D * d) + b * D * 64 → A * q * 64 ≤ 24 * (D * q) + B * D * 64
  over_hi h =
      let u = simp (add-mul, mul_assoc, mul_comm, mul_left_comm) at (mul-le-mul_right q h) in
      let v = simp (mul_assoc, mul_comm, mul_left_comm) at same in
      le_of_mul-le-mul_right (simp (add-mul, mul_assoc, mul_comm, mul_left_comm) (omega arith)) P

  under_hi : b * D * 64 ≤ 24 * (D * d) + A * d * 64 → B * D * 64 ≤ 24 * (D * q) + A * q * 64
  under_hi h =
      let u = simp (add-mul, mul_assoc, mul_comm, mul_left_comm) at (mul-le-mul_right q h) in
      let v = simp (mul_assoc, mul_comm, mul_left_comm) at same in
      le_of_mul-le-mul_right (simp (add-mul, mul_assoc, mul_comm, mul_left_comm) (omega arith)) P

near : (m : ℕ) (e : ℤ) (y : Float) (b d : ℕ) → 0 < d → HasValue y false b d → m * up e * d * 64 ≤ 24 * (down e * d) + b * down e * 64 → b * down e * 64 ≤ 24 * (down e * d) + m * up e * d * 64
    → Small 24 (add binary64 (fin true m e) y)
unfolding add
near m e nan b d P v h k = absurd v
near m e (inf t) b d P v h k = absurd v
near m e (fin true w r) b d P v h k = clash true refl v.0
near m e (fin false w r) b d P v h k =
    sum_apart (exact 24 6 (lit< tt) (lit≤ tt)) (m * up e * down r) (w * up r * down e) (down e * down r) (mul-pos (down_pos e) (down_pos r)) true
    (over_hi (m * up e) (down e) (w * up r) (down r) b d P v.1 h)
    (under_hi (m * up e) (down e) (w * up r) (down r) b d P v.1 k)

-- x is at most 3/8 from −n × LN2HI
pub record Near (n m : ℕ) (e : ℤ) : Type 0 where
  pub over : m * up e * 2 ^ 32 * 64 ≤ 24 * (down e * 2 ^ 32) + n * 2977044471 * down e * 64
  pub under : n * 2977044471 * down e * 64 ≤ 24 * (down e * 2 ^ 32) + m * up e * 2 ^ 32 * 64

-- so the reduced argument is at most 1/2, hi at most 3/8 and lo at most 1/64
pub record Reduced (x : Float) (n : ℕ) : Type 0 where
  pub argument : Small 32 (sub binary64 (hi_of x n) (lo_of n))
  pub high : Small 24 (hi_of x n)
  pub low : Small 1 (lo_of n)

pub reduced_small : (n m : ℕ) (e : ℤ) → n ≤ 1022 → Near n m e → Reduced (fin true m e) n
reduced_small n m e N h =
    let x = fin true m e in
    let l = lo_small n N in
    record {
      argument = widen 32 (sub binary64 (hi_of x n) (lo_of n)) (lit≤ tt) (sub_small 25 (lit< tt) (hi_of x n) (lo_of n) hi_small l (lit≤ tt));
      high = hi_small;
      low = l;
    }
  where
    hi_small : Small 24 (hi_of (fin true m e) n)
    hi_small =
        unfold sub in
        near m e (neg (mul binary64 (k_of n) ln2_hi)) (n * 2977044471) (2 ^ 32) (lit< tt) (neg_value (mul binary64 (k_of n) ln2_hi) true (n * 2977044471) (2 ^ 32) (exact_product n N (k_of n) (k_value n N))) h.over h.under

pub reduced_unit : (x : Float) (n : ℕ) → 0 < n → Reduced x n → within Number.zero one (reduced x n) ≡ true
reduced_unit x n P r = scaled_unit (sub binary64 (hi_of x n) (lo_of n)) r.argument (hi_of x n) (lo_of n) n r.high r.low P

-- ---- n = 1, between 21/64 and 17/16
pub near_one : (m : ℕ) (e : ℤ) → 21 * down e ≤ m * up e * 64 → m * up e * 64 < 68 * down e → Near 1 m e
near_one m e h k = record { over = omega arith; under = omega arith }

-- ---- n = whole part of INVLN2 × −x + 1/2, with both operations rounded
whole_of : (n : ℕ) (z : Float) → sign_of z ≡ false → T (finite z) → n ≡ to_unsigned 64 z → n ≤ 1022 → (n * den z ≤ num z) × (num z < n * den z + den z)
unfolding to_unsigned
whole_of n nan s p e h = absurd p
whole_of n (inf t) s p e h = absurd p
whole_of n (fin true m r) s p e h = clash true refl s
whole_of n (fin false m r) s p e h =
    let k : n ≡ m * up r / down r = omega arith in
    rw k (div-mul-le_self (m * up r) (down r), lt-div-mul-add (down_pos r))

pub own_value : (y : Float) → sign_of y ≡ false → T (finite y) → HasValue y false (num y) (den y)
own_value nan s p = absurd p
own_value (inf t) s p = absurd p
own_value (fin t m e) s p = (s, refl)

-- p / c rounded to a value with the whole part n is below n + 1; and above n − 1/64, where u + 1 is 64 n
module _ (n p c : ℕ) (N : n ≤ 1022) (C : 0 < c) (f : T (finite (round binary64 false p c))) (w : n ≡ to_unsigned 64 (round binary64 false p c)) where
  abbrev cut : Float
  cut = round binary64 false p c

  parts : (n * den cut ≤ num cut) × (num cut < n * den cut + den cut)
  parts = whole_of n cut (sign_round binary64 false p c) f w N

  cut_below : p < (n + 1) * c
  cut_below = lt_of_not-le (λ l. not-le_of_lt parts.1 (omega (arith, next n (den cut), round_above (exact (n + 1) 0 (omega arith) (lit≤ tt)) p c C (omega arith) f)))

  cut_above : (u : ℕ) → u + 1 ≡ 64 * n → u * c < p * 64
  cut_above u e = lt_of_not-le (λ l. absurd (omega (arith, parts.0, den_pos cut, next u (den cut), ap (λ (z : ℕ). z * den cut) e, mul_assoc 64 n (den cut), (round_bound (exact u 6 (omega arith) (lit≤ tt)) false p c C l).most)))

shifted : (n l d : ℕ) → n * l * d ≡ l * (n * d)
shifted n l d = mul_assoc n l d ∙ mul_left_comm n l d

spread : (n a b d : ℕ) → n * a * (b * d) ≡ a * b * (n * d)
spread n a b d = simp (mul_assoc, mul_left_comm)

-- The same in units of ln 2: M / D is n, and K / D is 64 n − 33. Twenty digits after the point are enough of either constant, and no number grows too long on the way.
over_ln2 : (A D M : ℕ) → M ≤ 1022 * D → 3248660424278399 * A * 2 < 2 ^ 52 * M + 2 ^ 51 * D → A * 2 ^ 32 * 64 ≤ 24 * (D * 2 ^ 32) + 2977044471 * M * 64
over_ln2 A D M h k = last (short (first k))
  where
    first : 3248660424278399 * A * 2 < 2 ^ 52 * M + 2 ^ 51 * D → 1512775 * A * 2 < 2 ^ 21 * M + 2 ^ 20 * D
    first k = omega arith

    short : 1512775 * A * 2 < 2 ^ 21 * M + 2 ^ 20 * D → A * 2 ^ 20 * 64 ≤ 24 * (D * 2 ^ 20) + 726817 * M * 64
    short k = omega arith

    last : A * 2 ^ 20 * 64 ≤ 24 * (D * 2 ^ 20) + 726817 * M * 64 → A * 2 ^ 32 * 64 ≤ 24 * (D * 2 ^ 32) + 2977044471 * M * 64
    last k = omega arith

under_ln2 : (A D M K : ℕ) → A ≤ 700 * D → K + 33 * D ≡ 64 * M → 2 ^ 51 * K < 3248660424278399 * A * 64 → 2977044471 * M * 64 ≤ 24 * (D * 2 ^ 32) + A * 2 ^ 32 * 64
under_ln2 A D M K l h k = last (short (first k))
  where
    first : 2 ^ 51 * K < 3248660424278399 * A * 64 → 2 ^ 20 * K ≤ 1512776 * A * 64
    first k = omega arith

    short : 2 ^ 20 * K ≤ 1512776 * A * 64 → 726818 * M * 64 ≤ 24 * (D * 2 ^ 20) + A * 2 ^ 20 * 64
    short k = omega arith

    last : 726818 * M * 64 ≤ 24 * (D * 2 ^ 20) + A * 2 ^ 20 * 64 → 2977044471 * M * 64 ≤ 24 * (D * 2 ^ 32) + A * 2 ^ 32 * 64
    last k = omega arith

module _ (n m : ℕ) (e : ℤ) (h : m * up e ≤ 700 * down e) (N : n ≤ 1022) (w : n ≡ to_unsigned 64 (cutting (fin true m e))) where
  abbrev top : ℕ
  top = 3248660424278399 * 1 * (m * up e)

  abbrev low : ℕ
  low = 2 ^ 51 * down e

  low_pos : 0 < low
  low_pos = mul-pos {m = 2 ^ 51} (lit< tt) (down_pos e)

  abbrev y : Float
  y = round binary64 false top low

  y_bound : Bound 1010 1 y
  y_bound = round_bound (exact 1010 0 (lit< tt) (lit≤ tt)) false top low low_pos (omega arith)

  abbrev sum_top : ℕ
  sum_top = num y * 2 + 1 * den y

  z_is : cutting (fin true m e) ≡ round binary64 false sum_top (den y * 2)
  z_is = start ∙ turned y (sign_round binary64 false top low) y_bound.known ∙ add_values binary64 y (fin false 1 (negsuc 0)) (num y) (den y) 1 2 (den_pos y) (lit< tt) (own_value y (sign_round binary64 false top low) y_bound.known) (refl, refl)
    where
      start : cutting (fin true m e) ≡ neg (sub binary64 (neg y) half)
      start = ap (λ (z : Float). neg (sub binary64 z half)) (product ∙ sym (neg-round binary64 false top low))
        where
          product : mul binary64 inv_ln2 (fin true m e) ≡ round binary64 true top low
          product = unfold mul in unfold of_bits in refl

  z_pos : 0 < den y * 2
  z_pos = mul-pos (den_pos y) (lit< tt)

  z_finite : T (finite (round binary64 false sum_top (den y * 2)))
  z_finite = (round_bound (exact 1011 0 (lit< tt) (lit≤ tt)) false sum_top (den y * 2) z_pos (omega (arith, y_bound.most))).known

  z_whole : n ≡ to_unsigned 64 (round binary64 false sum_top (den y * 2))
  z_whole = w ∙ ap (to_unsigned 64) z_is

  -- INVLN2 × −x lies below n + 1/2, and above n − 33/64, where v + 33 is 64 n
  product_below : top * 2 < (n * 2 + 1) * low
  product_below =
      let k = cut_below n sum_top (den y * 2) N z_pos z_finite z_whole in
      lt_of_not-le
      (λ l. absurd
      (omega (arith, mul_assoc n 2 (den y), mul_left_comm n 2 (den y), next (n * 2) (den y), next n (den y * 2), mul_assoc n (den y) 2, round_above (exact (n * 2 + 1) 1 (omega arith) (lit≤ tt)) top low low_pos l y_bound.known)))

  product_above : (v : ℕ) → v + 33 ≡ 64 * n → v * low < top * 64
  product_above v g =
      let k = cut_above n sum_top (den y * 2) N z_pos z_finite z_whole (v + 32) (omega arith) in
      lt_of_not-le
      (λ l. absurd (omega (arith, add-mul v 32 (den y * 2), mul_assoc v (den y) 2, (round_bound (exact v 6 (omega arith) (lit≤ tt)) false top low low_pos l).most)))

  pub near_cut : down e ≤ m * up e → (0 < n) × Near n m e
  near_cut k = (
    some,
    record {
      over = rw (shifted n 2977044471 (down e)) (over_ln2 (m * up e) (down e) (n * down e) (mul-le-mul_right (down e) N) (omega (arith, product_below, next (n * 2) low, spread n 2 (2 ^ 51) (down e))));
      under = rw (shifted n 2977044471 (down e))
          (under_ln2 (m * up e) (down e) (n * down e) (rest * down e) h (sym (add-mul rest 33 (down e)) ∙ ap (λ (z : ℕ). z * down e) left ∙ mul_assoc 64 n (down e))
          (omega (arith, product_above rest left, mul_left_comm rest (2 ^ 51) (down e))));
    },
  )
    where
      some : 0 < n
      some = lt_of_not-le (λ l. absurd (omega (arith, product_below, mul-le-mul_right low (doubled n l))))
        where
          doubled : (n : ℕ) → n ≤ 0 → n * 2 + 1 ≤ 1
          doubled n h = omega arith

      rest : ℕ
      rest = 64 * n - 33

      left : rest + 33 ≡ 64 * n
      left = omega (arith, some)
