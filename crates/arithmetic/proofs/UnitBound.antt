-- Values by a bound on their magnitude, |x| ≤ a / b: each operation is a fraction rounded, and rounding keeps every bound a / b that is itself a value of the format.
use Rattle.std.proofs.Common.{◌≡◌, ℕ, ◌+◌, ◌-◌, ◌*◌, ◌^◌, ◌<◌, ◌≤◌, Bool, true, false, cond, not, ◌&&◌, T, ltb, ℤ, sym, refl, ap, ◌∙◌, subst, le_trans, lt_trans, le_of_eq, mul-le-mul_right, mul_assoc, mul_comm, add-mul, mul-le-mul, mul-pos, mul_right_comm, mul_left_comm, arith, pow_pos, pow-add, shl_lt, ne_eqb, le-leb, leb-true}
use mathlib.Core.Bool.{beq}
use native.Mathlib.Nat.{mul-sub, mul-mul-mul_comm}
use lib.Pow.{pow-lt}
use lib.Ieee.{Float, nan, inf, fin, binary64, unlike, up, down, round, neg, sum, add, sub, mul, div, le}
use lib.Ieee.Bits.{is_true}
use lib.Ieee.Fits.{down_pos}
use lib.Ieee.Exact.{HasValue, round_exact}
use lib.Ieee.Order.{round_mono}
use lib.Ieee.Positive.{num, den, first_pos, through}
use lib.Ieee.Scale.{finite}
use Rattle.arithmetic.specs.Number
use Rattle.arithmetic.specs.Number.{sign_of}
use Rattle.arithmetic.proofs.Order.{left, right, le_is, clash}
use Rattle.arithmetic.proofs.Cut.{neg-round, sign_round}

-- ---- the order of finite values as one of whole numbers
module _ (x y : Float) (p : T (finite x)) (q : T (finite y)) where
  pub le→numbers : le x y ≡ true → left x y ≤ right x y
  le→numbers h = leb-true (left x y) (right x y) (sym (le_is x y p q) ∙ h)

  pub numbers→le : left x y ≤ right x y → le x y ≡ true
  numbers→le h = le_is x y p q ∙ le-leb (left x y) (right x y) h

-- a value against zero, where its sign says the contrary
pub not_plus : (m : ℕ) (e : ℤ) → le (fin false m e) Number.zero ≡ true → m * up e ≡ 0
not_plus m e h = omega (arith, le→numbers (fin false m e) Number.zero tt tt h)

pub not_minus : (m : ℕ) (e : ℤ) → le Number.zero (fin true m e) ≡ true → m * up e ≡ 0
not_minus m e h = omega (arith, le→numbers Number.zero (fin true m e) tt tt h)

-- ---- bounds
pub record Bound (a b : ℕ) (x : Float) : Type 0 where
  pub known : T (finite x)
  pub most : num x * b ≤ a * den x

-- a fraction that rounding leaves alone
pub record Exact (a b : ℕ) : Type 0 where
  pub positive : 0 < b
  pub value : HasValue (round binary64 false a b) false a b

-- a whole number of 2 to the −j
pub exact : (a j : ℕ) → a < 2 ^ 53 → j ≤ 1074 → Exact a (2 ^ j)
exact a j h l = record {
  positive = pow_pos j;
  value = round_exact binary64 false a (2 ^ j) a (1074 - j) (pow_pos j) h
      (lt_trans (shl_lt {a = a} 53 (1074 - j) h) (pow-lt {i = 53 + (1074 - j)} {j = 2098} (omega arith)))
      (sym (mul_assoc a (2 ^ (1074 - j)) (2 ^ j) ∙ ap (λ (z : ℕ). a * z) (sym (pow-add 2 (1074 - j) j) ∙ ap (λ (z : ℕ). 2 ^ z) (whole j l))));
}
  where
    whole : (j : ℕ) → j ≤ 1074 → 1074 - j + j ≡ 1074
    whole j h = omega arith

-- ---- rounding
-- z ≤ w for a z without a sign and the w that a / b is
under : (a b : ℕ) (z w : Float) → sign_of z ≡ false → HasValue w false a b → le z w ≡ true → Bound a b z
unfolding le
under a b nan w s v h = clash false h refl
under a b (inf true) w s v h = clash true refl s
under a b (inf false) nan s v h = clash false h refl
under a b (inf false) (inf t) s v h = absurd v
under a b (inf false) (fin t n d) s v h = clash false h refl
under a b (fin true m e) w s v h = clash true refl s
under a b (fin false m e) nan s v h = absurd v
under a b (fin false m e) (inf t) s v h = absurd v
under a b (fin false m e) (fin true n d) s v h = clash true refl v.0
under a b (fin false m e) (fin false n d) s v h = record {
  known = tt;
  most = through (m * up e) (n * up d) a (down e) (down d) b (down_pos d)
      (omega (arith, le→numbers (fin false m e) (fin false n d) tt tt h))
      (le_of_eq v.1);
}

over : (a b : ℕ) (z w : Float) → T (finite z) → HasValue w false a b → le w z ≡ true → a * den z ≤ num z * b
over a b nan w p v h = absurd p
over a b (inf t) w p v h = absurd p
over a b (fin t m e) nan p v h = absurd v
over a b (fin t m e) (inf r) p v h = absurd v
over a b (fin t m e) (fin true n d) p v h = clash true refl v.0
over a b (fin t m e) (fin false n d) p v h = through a (n * up d) (m * up e) b (down d) (down e) (down_pos d) (le_of_eq (sym v.1)) (go t h)
  where
    go : (t : Bool) → le (fin false n d) (fin t m e) ≡ true → n * up d * down e ≤ m * up e * down d
    go true h = omega (arith, le→numbers (fin false n d) (fin true m e) tt tt h)
    go false h = omega (arith, le→numbers (fin false n d) (fin false m e) tt tt h)

pub bound_neg : {a b : ℕ} (x : Float) → Bound a b x → Bound a b (neg x)
unfolding neg
bound_neg nan h = absurd h.known
bound_neg (inf s) h = absurd h.known
bound_neg (fin s m e) h = record { known = tt; most = h.most }

pub round_bound : {a b : ℕ} → Exact a b → (s : Bool) (p c : ℕ) → 0 < c → p * b ≤ a * c → Bound a b (round binary64 s p c)
round_bound {a} {b} x s p c C h = go s
  where
    no_sign : Bound a b (round binary64 false p c)
    no_sign = under a b (round binary64 false p c) (round binary64 false a b) (sign_round binary64 false p c) x.value (is_true _ (round_mono binary64 p c a b C x.positive h))

    go : (s : Bool) → Bound a b (round binary64 s p c)
    go false = no_sign
    go true = subst (Bound a b) (neg-round binary64 false p c) (bound_neg (round binary64 false p c) no_sign)

pub round_above : {a b : ℕ} → Exact a b → (p c : ℕ) → 0 < c → a * c ≤ p * b → T (finite (round binary64 false p c)) → a * den (round binary64 false p c) ≤ num (round binary64 false p c) * b
round_above {a} {b} x p c C h f = over a b (round binary64 false p c) (round binary64 false a b) f x.value (is_true _ (round_mono binary64 a b p c x.positive C h))

-- ---- the sum
module _ {a b : ℕ} (x : Exact a b) (X Y C : ℕ) (P : 0 < C) where
  differ : (p q : ℕ) → p * b ≤ a * C + q * b → (p - q) * b ≤ a * C
  differ p q h = omega (arith, mul_comm (p - q) b, mul-sub b p q, mul_comm b p, mul_comm b q)

  -- of unlike signs, by how far they are apart
  pub sum_apart : (s : Bool) → X * b ≤ a * C + Y * b → Y * b ≤ a * C + X * b → Bound a b (sum binary64 s X (not s) Y C)
  unfolding sum
  sum_apart s h k = go s (ltb X Y)
    where
      go : (s t : Bool) → Bound a b (cond (beq s (not s)) (round binary64 s (X + Y) C) (cond t (round binary64 (not s) (Y - X) C) (round binary64 (s && ltb Y X) (X - Y) C)))
      go true true = round_bound x false (Y - X) C P (differ Y X k)
      go true false = round_bound x (ltb Y X) (X - Y) C P (differ X Y h)
      go false true = round_bound x true (Y - X) C P (differ Y X k)
      go false false = round_bound x false (X - Y) C P (differ X Y h)

  pub sum_bound : (s t : Bool) → (X + Y) * b ≤ a * C → Bound a b (sum binary64 s X t Y C)
  unfolding sum
  sum_bound true true h = round_bound x true (X + Y) C P h
  sum_bound false false h = round_bound x false (X + Y) C P h
  sum_bound true false h = sum_apart true (omega (arith, add-mul X Y b)) (omega (arith, add-mul X Y b))
  sum_bound false true h = sum_apart false (omega (arith, add-mul X Y b)) (omega (arith, add-mul X Y b))

-- ---- the operations, from bounds on what they are given
joined : (a b c d X Y p q : ℕ) → X * b ≤ a * p → Y * d ≤ c * q → (X * q + Y * p) * (b * d) ≤ (a * d + c * b) * (p * q)
joined a b c d X Y p q h l =
    let u = simp (mul_assoc, mul_comm, mul_left_comm) at (mul-le-mul_right (q * d) h) in
    let v = simp (mul_assoc, mul_comm, mul_left_comm) at (mul-le-mul_right (p * b) l) in
    simp (add-mul, mul_assoc, mul_comm, mul_left_comm) (omega arith)

module _ {a b c d n k : ℕ} (E : Exact n k) (B : 0 < b) (D : 0 < d) where
  pub add_bound : (a * d + c * b) * k ≤ n * (b * d) → (x y : Float) → Bound a b x → Bound c d y → Bound n k (add binary64 x y)
  unfolding add
  add_bound g nan y h l = absurd h.known
  add_bound g (inf s) y h l = absurd h.known
  add_bound g (fin s m e) nan h l = absurd l.known
  add_bound g (fin s m e) (inf t) h l = absurd l.known
  add_bound g (fin s m e) (fin t w r) h l =
      let P = mul-pos (down_pos e) (down_pos r) in
      sum_bound E (m * up e * down r) (w * up r * down e) (down e * down r) P s t
      (through (m * up e * down r + w * up r * down e) (a * d + c * b) n (down e * down r) (b * d) k (mul-pos B D) (joined a b c d (m * up e) (w * up r) (down e) (down r) h.most l.most) g)

  pub sub_bound : (a * d + c * b) * k ≤ n * (b * d) → (x y : Float) → Bound a b x → Bound c d y → Bound n k (sub binary64 x y)
  unfolding sub
  sub_bound g x y h l = add_bound g x (neg y) h (bound_neg y l)

  pub mul_bound : a * c * k ≤ n * (b * d) → (x y : Float) → Bound a b x → Bound c d y → Bound n k (mul binary64 x y)
  unfolding mul
  mul_bound g nan y h l = absurd h.known
  mul_bound g (inf s) y h l = absurd h.known
  mul_bound g (fin s m e) nan h l = absurd l.known
  mul_bound g (fin s m e) (inf t) h l = absurd l.known
  mul_bound g (fin s m e) (fin t w r) h l =
      round_bound E (unlike s t) (m * up e * (w * up r)) (down e * down r) (mul-pos (down_pos e) (down_pos r))
      (through (m * up e * (w * up r)) (a * c) n (down e * down r) (b * d) k (mul-pos B D)
      (le_trans (le_of_eq (mul-mul-mul_comm (m * up e) (w * up r) b d)) (le_trans (mul-le-mul h.most l.most) (le_of_eq (mul-mul-mul_comm a (down e) c (down r)))))
      g)

turned : (a p w : ℕ) → a * p * w ≡ a * (w * p)
turned a p w = mul_assoc a p w ∙ ap (λ (z : ℕ). a * z) (mul_comm p w)

-- a quotient by what is 1 at least
pub div_bound : {a b : ℕ} → Exact a b → (x y : Float) → Bound a b x → T (finite y) → den y ≤ num y → Bound a b (div binary64 x y)
unfolding div
div_bound E nan y h p l = absurd h.known
div_bound E (inf s) y h p l = absurd h.known
div_bound E (fin s m e) nan h p l = absurd p
div_bound E (fin s m e) (inf t) h p l = absurd p
div_bound {a} {b} E (fin s m e) (fin t w r) h p l =
    let W : 0 < w = first_pos w (up r) (omega (arith, down_pos r)) in
    rw (ne_eqb w 0 (λ z. omega arith))
    (round_bound E (unlike s t) (m * up e * down r) (w * up r * down e) (mul-pos (omega (arith, down_pos r)) (down_pos e))
    (le_trans (le_of_eq (mul_right_comm (m * up e) (down r) b)) (le_trans (mul-le-mul h.most l) (le_of_eq (turned a (down e) (w * up r))))))
