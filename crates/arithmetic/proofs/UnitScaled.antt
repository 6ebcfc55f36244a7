-- The last steps of `exp`: from a reduced argument of magnitude at most 1/2 to a result within 0 and 1. Bounds are counted in 64ths.
use Rattle.std.proofs.Common.{◌≡◌, ℕ, zero, suc, ◌+◌, ◌-◌, ◌*◌, ◌^◌, ◌<◌, ◌≤◌, Bool, true, false, cond, T, ltb, leb, ℤ, pos, refl, ap, ◌∙◌, subst, le_trans, le_refl, mul-le-mul_right, mul_assoc, mul_comm, add-mul, mul-pos, one-mul, pow-suc, zero-mul, mul-one, arith, lit<, lit≤, pow_pos, ltb-false, le-ltb, leb-false, leb-true}
use lib.Ieee.{Float, nan, inf, fin, binary64, minus, up, down, round, neg, sum, add, sub, mul, div, le, of_bits}
use lib.Ieee.Bits.{is_true}
use lib.Ieee.Fits.{down_pos}
use lib.Ieee.Order.{round_mono}
use lib.Ieee.Positive.{num, den, den_pos, through}
use lib.Ieee.Scale.{finite}
use borrow.Author.Tests.{lt-leb}
use Rattle.arithmetic.specs.Number
use Rattle.arithmetic.specs.Number.{one, sign_of, within}
use Rattle.arithmetic.specs.Exp.{two, p1, p2, p3, p4, p5, correction, combined, power_of, scaled}
use Rattle.arithmetic.proofs.Order.{clash}
use Rattle.arithmetic.proofs.Cut.{sign_round, zero_round}
use Rattle.arithmetic.proofs.UnitBound.{numbers→le, not_plus, Bound, Exact, exact, bound_neg, round_bound, round_above, sum_bound, add_bound, sub_bound, mul_bound, div_bound}

abbrev pub Small : ℕ → Float → Type 0
Small n x = Bound n 64 x

pub widen : {a : ℕ} (n : ℕ) (x : Float) → a ≤ n → Small a x → Small n x
widen n x l h = record { known = h.known; most = le_trans h.most (mul-le-mul_right (den x) l) }

module _ {a c : ℕ} (n : ℕ) (N : n < 2 ^ 53) (x y : Float) (h : Small a x) (k : Small c y) where
  pub add_small : a + c ≤ n → Small n (add binary64 x y)
  add_small l = add_bound (exact n 6 N (lit≤ tt)) (lit< tt) (lit< tt) (omega arith) x y h k

  pub sub_small : a + c ≤ n → Small n (sub binary64 x y)
  sub_small l = sub_bound (exact n 6 N (lit≤ tt)) (lit< tt) (lit< tt) (omega arith) x y h k

  pub mul_small : a * c ≤ n * 64 → Small n (mul binary64 x y)
  mul_small l = mul_bound (exact n 6 N (lit≤ tt)) (lit< tt) (lit< tt) (omega arith) x y h k

-- ---- a power of two and a value of magnitude at most 1: a fraction from l to h, rounded
record Rounded (l h : ℕ) (z : Float) : Type 0 where
  top : ℕ
  low : ℕ
  positive : 0 < low
  is : z ≡ round binary64 false top low
  above : l * low ≤ top
  below : top ≤ h * low

module _ (j l : ℕ) (two_to : 2 ^ j ≡ l + 1) where
  expand : (d : ℕ) → 1 * 2 ^ j * d ≡ l * d + d
  expand d = rw (one-mul (2 ^ j), two_to, add-mul l 1 d, one-mul d) refl

  less : (m : ℕ) (e : ℤ) → Small 64 (fin true m e) → Rounded l (l + 1) (add binary64 (fin false 1 (pos j)) (fin true m e))
  unfolding add
  less m e h =
      let x = expand (down e) in
      let k : m * up e ≤ down e = omega (arith, h.most) in
      rw (le-ltb (1 * 2 ^ j * down e) (m * up e * 1) (omega arith))
      (record {
        top = 1 * 2 ^ j * down e - m * up e * 1;
        low = 1 * down e;
        positive = omega (arith, down_pos e);
        is = refl;
        above = rw (one-mul (down e)) (omega arith);
        below = rw (one-mul (down e), add-mul l 1 (down e)) (omega arith);
      })

  more : (m : ℕ) (e : ℤ) (r t : ℕ) → l + 1 + r ≤ t → m * up e ≤ r * down e → Rounded l t (add binary64 (fin false 1 (pos j)) (fin false m e))
  unfolding add
  more m e r t g h =
      let x = expand (down e) in
      record {
        top = 1 * 2 ^ j * down e + m * up e * 1;
        low = 1 * down e;
        positive = omega (arith, down_pos e);
        is = refl;
        above = rw (one-mul (down e)) (omega arith);
        below = rw (one-mul (down e)) (omega (arith, add-mul (l + 1) r (down e), add-mul l 1 (down e), mul-le-mul_right (down e) g));
      }

  beside : (x : Float) → Small 64 x → Rounded l (l + 2) (add binary64 (fin false 1 (pos j)) x)
  beside nan h = absurd h.known
  beside (inf t) h = absurd h.known
  beside (fin false m e) h = more m e 1 (l + 2) (omega arith) (omega (arith, h.most))
  beside (fin true m e) h =
      let w = less m e h in
      record { top = w.top; low = w.low; positive = w.positive; is = w.is; above = w.above; below = le_trans w.below (mul-le-mul_right w.low (omega arith)) }

  -- with what is not above zero
  not_more : (x : Float) → Small 64 x → le x Number.zero ≡ true → Rounded l (l + 1) (add binary64 (fin false 1 (pos j)) x)
  not_more nan h k = absurd h.known
  not_more (inf t) h k = absurd h.known
  not_more (fin true m e) h k = less m e h
  not_more (fin false m e) h k = more m e 0 (l + 1) (omega arith) (omega (arith, not_plus m e k))

-- ---- what a rounded fraction is
module _ {l h : ℕ} {z : Float} (r : Rounded l h z) (H : h < 2 ^ 53) where
  most_of : Bound h 1 z
  most_of = rw r.is (round_bound (exact h 0 H (lit≤ tt)) false r.top r.low r.positive (omega (arith, r.below)))

  no_sign : sign_of z ≡ false
  no_sign = rw r.is (sign_round binary64 false r.top r.low)

  least_of_lem : l < 2 ^ 53 → l * den z ≤ num z
  least_of_lem L =
      let k = round_above (exact l 0 L (lit≤ tt)) r.top r.low r.positive (omega (arith, r.above)) (subst (λ (z : Float). T (finite z)) r.is most_of.known) in
      rw r.is (omega arith)

unit_of : {z : Float} → Rounded 0 1 z → within Number.zero one z ≡ true
unit_of r =
    rw (r.is, zero_round r.top r.low r.positive)
    (subst (λ (w : Float). le (round binary64 false r.top r.low) w ≡ true) whole (is_true _ (round_mono binary64 r.top r.low 1 1 r.positive (lit< tt) (omega (arith, r.below)))))
  where
    whole : round binary64 false 1 1 ≡ one
    whole = unfold round in refl

-- 1 + x for an x from −1 to 0
pub one_more : (x : Float) → Small 64 x → le x Number.zero ≡ true → within Number.zero one (add binary64 one x) ≡ true
one_more x h k = unit_of (not_more 0 0 refl x h k)

-- ---- times 2 to the −n
power_parts : (n : ℕ) → (up (minus 0 n) ≡ 1) × (down (minus 0 n) ≡ 2 ^ n)
power_parts zero = (refl, refl)
power_parts (suc n) = rw (lt-leb (suc n) 0 (omega arith)) (refl, ap (λ (z : ℕ). 2 ^ suc z) (gone n))
  where
    gone : (n : ℕ) → suc n - 1 ≡ n
    gone n = omega arith

pub at_power : (n : ℕ) (z : Float) → sign_of z ≡ false → T (finite z) → mul binary64 z (power_of n) ≡ round binary64 false (num z) (den z * 2 ^ n)
at_power n nan s p = absurd p
at_power n (inf t) s p = absurd p
at_power n (fin true m e) s p = clash true refl s
at_power n (fin false m e) s p = opened ∙ rw ((power_parts n).0, (power_parts n).1, mul-one (m * up e)) refl
  where
    opened : mul binary64 (fin false m e) (power_of n) ≡ round binary64 false (m * up e * (1 * up (minus 0 n))) (down e * down (minus 0 n))
    opened = unfold mul in refl

powered : (n : ℕ) (z : Float) → sign_of z ≡ false → T (finite z) → num z ≤ 2 ^ n * den z → within Number.zero one (mul binary64 z (power_of n)) ≡ true
powered n z s p h =
    unit_of
    (record {
      top = num z;
      low = den z * 2 ^ n;
      positive = mul-pos (den_pos z) (pow_pos n);
      is = at_power n z s p;
      above = omega arith;
      below = omega (arith, mul_comm (2 ^ n) (den z));
    })

-- ---- the correction c of a reduced r of magnitude at most 1/2
module _ (r : Float) (R : Small 32 r) where
  abbrev pub square : Float
  square = mul binary64 r r

  square_small : Small 16 square
  square_small = mul_small 16 (lit< tt) r r R R (lit≤ tt)

  -- one step of the polynomial
  step : (a : ℕ) → a + 1 < 2 ^ 53 → (p s : Float) → Small a p → Small 2 s → Small (a + 1) (add binary64 p (mul binary64 square s))
  step a l p s h k = add_small (a + 1) l p (mul binary64 square s) h (mul_small 1 (lit< tt) square s square_small k (lit≤ tt)) (omega arith)

  abbrev chain : Float
  chain =
      add binary64 p1 (mul binary64 square (add binary64 p2 (mul binary64 square (add binary64 p3 (mul binary64 square (add binary64 p4 (mul binary64 square p5)))))))

  chain_small : Small 12 chain
  unfolding of_bits
  chain_small =
      let s4 = step 1 (lit< tt) p4 p5 (record { known = tt; most = lit≤ tt }) (record { known = tt; most = lit≤ tt }) in
      let s3 = step 1 (lit< tt) p3 _ (record { known = tt; most = lit≤ tt }) s4 in
      let s2 = step 1 (lit< tt) p2 _ (record { known = tt; most = lit≤ tt }) s3 in
      step 11 (lit< tt) p1 _ (record { known = tt; most = lit≤ tt }) s2

  correction_from : (a : ℕ) → a + 3 < 2 ^ 53 → Small a r → Small (a + 3) (correction r square)
  correction_from a l h = sub_small (a + 3) l r (mul binary64 square chain) h (mul_small 3 (lit< tt) square chain square_small chain_small (lit≤ tt)) (le_refl (a + 3))

  correction_small : Small 35 (correction r square)
  correction_small = correction_from 32 (lit< tt) R

  -- 2 − c is 1 at least
  abbrev pub below : Float
  below = sub binary64 two (correction r square)

  below_is : Rounded 1 3 below
  unfolding sub of_bits
  below_is = beside 1 1 refl (neg (correction r square)) (bound_neg (correction r square) (widen 64 (correction r square) (lit≤ tt) correction_small))

  abbrev pub ratio : Float
  ratio = div binary64 (mul binary64 r (correction r square)) below

  -- r × c / (2 − c) keeps a bound that r × c has
  quotient : {a b : ℕ} → Exact a b → Bound a b (mul binary64 r (correction r square)) → Bound a b ratio
  quotient E h = div_bound E (mul binary64 r (correction r square)) below h (most_of below_is (lit< tt)).known (omega (arith, least_of_lem below_is (lit< tt) (lit< tt)))

  quotient_small : Small 18 ratio
  quotient_small = quotient (exact 18 6 (lit< tt) (lit≤ tt)) (mul_small 18 (lit< tt) r (correction r square) R correction_small (lit≤ tt))

  -- what is added to 1
  abbrev pub rest : Float → Float → Float
  rest hi lo = add binary64 (sub binary64 ratio lo) hi

  pub rest_small : (hi lo : Float) → Small 24 hi → Small 1 lo → Small 48 (rest hi lo)
  rest_small hi lo h l =
      add_small 48 (lit< tt) (sub binary64 ratio lo) hi (sub_small 19 (lit< tt) ratio lo quotient_small l (lit≤ tt)) h (lit≤ tt)

  pub scaled_unit : (hi lo : Float) (n : ℕ) → Small 24 hi → Small 1 lo → 0 < n → within Number.zero one (scaled r hi lo n) ≡ true
  scaled_unit hi lo n h l N =
      let y = beside 0 0 refl (rest hi lo) (widen 64 (rest hi lo) (lit≤ tt) (rest_small hi lo h l)) in
      let m = most_of y (lit< tt) in
      powered n (combined r (correction r square) hi lo) (no_sign y (lit< tt)) m.known (le_trans (omega (arith, m.most)) (mul-le-mul_right (den (combined r (correction r square) hi lo)) (twice n N)))
    where
      twice : (n : ℕ) → 0 < n → 2 ≤ 2 ^ n
      twice zero h = absurd (omega arith)
      twice (suc n) h = omega (arith, pow-suc 2 n, pow_pos n)

-- ---- where nothing is reduced: q − 0 + x is not above zero, since q is at most −x
no_plus : (z : Float) → sign_of z ≡ true → le z Number.zero ≡ true
unfolding le
no_plus nan s = clash false s refl
no_plus (inf t) s = rw s refl
no_plus (fin false m e) s = clash false s refl
no_plus (fin true m e) s = numbers→le (fin true m e) Number.zero tt tt (omega arith)

nothing : (z : Float) → Bound 0 1 z → le z Number.zero ≡ true
nothing nan h = absurd h.known
nothing (inf t) h = absurd h.known
nothing (fin true m e) h = no_plus (fin true m e) refl
nothing (fin false m e) h = numbers→le (fin false m e) Number.zero tt tt (omega (arith, h.most))

-- of a sum of unlike signs, or of nothing
module _ (X Y C : ℕ) (P : 0 < C) (h : X ≤ Y) where
  none : (s t : Bool) → Y ≡ 0 → le (sum binary64 s X t Y C) Number.zero ≡ true
  none s t z = nothing (sum binary64 s X t Y C) (sum_bound (exact 0 0 (lit< tt) (lit≤ tt)) X Y C P s t (omega arith))

  minus_more : (s : Bool) → le (sum binary64 s X true Y C) Number.zero ≡ true
  unfolding sum
  minus_more true = no_plus (round binary64 true (X + Y) C) (sign_round binary64 true (X + Y) C)
  minus_more false = go (ltb X Y) refl
    where
      go : (b : Bool) → ltb X Y ≡ b → le (cond b (round binary64 true (Y - X) C) (round binary64 false (X - Y) C)) Number.zero ≡ true
      go true e = no_plus (round binary64 true (Y - X) C) (sign_round binary64 true (Y - X) C)
      go false e = nothing (round binary64 false (X - Y) C) (round_bound (exact 0 0 (lit< tt) (lit≤ tt)) false (X - Y) C P (omega (arith, ltb-false X Y e)))

not_above_lem : (q x : Float) → T (finite x) → le x Number.zero ≡ true → Bound (num x) (den x) q → le (add binary64 q x) Number.zero ≡ true
unfolding add
not_above_lem nan x p h b = absurd b.known
not_above_lem (inf s) x p h b = absurd b.known
not_above_lem (fin s m e) nan p h b = absurd p
not_above_lem (fin s m e) (inf t) p h b = absurd p
not_above_lem (fin s m e) (fin true n d) p h b = minus_more (m * up e * down d) (n * up d * down e) (down e * down d) (mul-pos (down_pos e) (down_pos d)) b.most s
not_above_lem (fin s m e) (fin false n d) p h b =
    none (m * up e * down d) (n * up d * down e) (down e * down d) (mul-pos (down_pos e) (down_pos d)) b.most s false (rw (not_plus n d h, zero-mul (down e)) refl)

-- 2 to the −j, between a magnitude A / D and the half of it
record Power (A D : ℕ) : Type 0 where
  digit : ℕ
  few : digit ≤ 1074
  below : D ≤ A * 2 ^ digit
  near : A * 2 ^ digit ≤ 2 * D

power : (i A D : ℕ) → i ≤ 1074 → D ≤ A * 2 ^ i → A ≤ D → Power A D
power zero A D l h k = record { digit = 0; few = l; below = h; near = omega arith }
power (suc i) A D l h k = go (leb D (A * 2 ^ i)) refl (λ n. power i A D (omega arith) n k)
  where
    go : (b : Bool) → leb D (A * 2 ^ i) ≡ b → (D ≤ A * 2 ^ i → Power A D) → Power A D
    go true t f = f (leb-true D (A * 2 ^ i) t)
    go false t f = record { digit = suc i; few = l; below = h; near = omega (arith, leb-false D (A * 2 ^ i) t, ap (λ (z : ℕ). A * z) (pow-suc 2 i), mul_assoc A (2 ^ i) 2) }

module _ (x : Float) (X : Small 24 x) (below-zero : le x Number.zero ≡ true) (least : den x ≤ num x * 2 ^ 28) where
  wide : Small 32 x
  wide = widen 32 x (lit≤ tt) X

  abbrev c : Float
  c = correction x (square x wide)

  abbrev fraction : Float
  fraction = ratio x wide

  -- 2^−j ≤ |x| ≤ 2 × 2^−j and |c| ≤ 1/2, so that |x × c| is at most 2^−j, and the quotient too
  at : Power (num x) (den x)
  at = power 28 (num x) (den x) (lit≤ tt) least (omega (arith, X.most))

  E : Exact 1 (2 ^ at.digit)
  E = exact 1 at.digit (lit< tt) at.few

  product : Bound 1 (2 ^ at.digit) (mul binary64 x c)
  product = mul_bound {a = 2} {b = 2 ^ at.digit} {c = 27} {d = 64} E (pow_pos at.digit) (lit< tt) (omega arith) x c (record { known = X.known; most = at.near }) (correction_from x wide 24 (lit< tt) X)

  less_nothing : Bound 1 (2 ^ at.digit) (sub binary64 fraction Number.zero)
  less_nothing = sub_bound {a = 1} {b = 2 ^ at.digit} {c = 0} {d = 1} E (pow_pos at.digit) (lit< tt) (omega arith) fraction Number.zero (quotient x wide E product) (record { known = tt; most = lit≤ tt })

  at_most : Bound (num x) (den x) (sub binary64 fraction Number.zero)
  at_most = record {
    known = less_nothing.known;
    most = through (num (sub binary64 fraction Number.zero)) 1 (num x) (den (sub binary64 fraction Number.zero)) (2 ^ at.digit) (den x) (pow_pos at.digit) less_nothing.most (omega (arith, at.below));
  }

  pub scaled_none : within Number.zero one (scaled x x Number.zero 0) ≡ true
  scaled_none =
      let y = not_more 0 0 refl (rest x wide x Number.zero) (widen 64 (rest x wide x Number.zero) (lit≤ tt) (rest_small x wide x Number.zero X (record { known = tt; most = lit≤ tt }))) (not_above_lem (sub binary64 fraction Number.zero) x X.known below-zero at_most) in
      let m = most_of y (lit< tt) in
      powered 0 (combined x c x Number.zero) (no_sign y (lit< tt)) m.known (omega (arith, m.most))
