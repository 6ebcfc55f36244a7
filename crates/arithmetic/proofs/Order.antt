-- The order of finite values, once for every layer: total, transitive, and blind to a zero's sign. Tests are stated as `≡ true` and `≡ false`, as the code's branches give them.
-- A finite value is (plus − minus) / den, one of plus and minus being 0; so both comparisons are comparisons of whole numbers, at which `omega` goes on.
use Rattle.std.proofs.Common.{◌≡◌, ℕ, ◌+◌, ◌*◌, ◌<◌, ◌≤◌, Bool, true, false, ◌&&◌, ◌||◌, T, eqb, ltb, leb, ◌⊎◌, sym, refl, ◌∙◌, inl, inr, le_refl, add-zero, mul-le-mul_right, mul_assoc, mul_comm, add-mul, add_comm, le_antisymm, eq-or-lt_of_le, zero-add, zero-mul, le_of_mul-le-mul_right, mul_left_comm, arith, ltb-false, ltb-true, le-ltb, lt-ltb, eq-eqb, eqb-true, le-leb, leb-true}
use lib.Ieee.{Float, nan, inf, fin, up, down, lt, eq, le}
use lib.Ieee.Scale.{finite}
use lib.Ieee.Fits.{down_pos}

abbrev pub plus : Float → ℕ
plus nan = 0
plus (inf s) = 0
plus (fin true m e) = 0
plus (fin false m e) = m * up e

abbrev pub minus : Float → ℕ
minus nan = 0
minus (inf s) = 0
minus (fin true m e) = m * up e
minus (fin false m e) = 0

abbrev pub den : Float → ℕ
den nan = 1
den (inf s) = 1
den (fin s m e) = down e

-- x < y is left x y < right x y
abbrev pub left : Float → Float → ℕ
left x y = plus x * den y + minus y * den x

abbrev pub right : Float → Float → ℕ
right x y = plus y * den x + minus x * den y

-- two tests that hold together are the same test
pub same_test : (p q : Bool) → (p ≡ true → q ≡ true) → (q ≡ true → p ≡ true) → p ≡ q
same_test true q f g = sym (f refl)
same_test false true f g = g refl
same_test false false f g = refl

pub and-true : (p q : Bool) → p && q ≡ true → (p ≡ true) × (q ≡ true)
and-true true q h = (refl, h)
and-true false q h = (h, elim_false h)
  where
    elim_false : false ≡ true → q ≡ true
    elim_false e = cc

pub or-true : (p q : Bool) → p || q ≡ true → (p ≡ true) ⊎ (q ≡ true)
or-true true q h = inl refl
or-true false q h = inr h

pub clash : {A : Type 0} (b : Bool) → b ≡ true → b ≡ false → A
clash b p q = absurd (let z : ◌≡◌ {A = ℕ} 0 1 = cc in omega arith)

pub and_yes : (p : Bool) → (p && true) ≡ p
and_yes true = refl
and_yes false = refl

-- no sum is below nothing
not-below : (a c d : ℕ) → false ≡ ltb a (0 * c + 0 * d)
not-below a c d = sym (le-ltb a (0 * c + 0 * d) (omega arith))

pub or_yes : (p : Bool) → (p || true) ≡ true
or_yes true = refl
or_yes false = refl

pub lt_is : (x y : Float) → T (finite x) → T (finite y) → lt x y ≡ ltb (left x y) (right x y)
unfolding lt
lt_is nan y p q = absurd p
lt_is (inf s) y p q = absurd p
lt_is (fin s m e) nan p q = absurd q
lt_is (fin s m e) (inf t) p q = absurd q
lt_is (fin false m e) (fin false n d) p q = simp (zero-mul, add-zero)
lt_is (fin false m e) (fin true n d) p q = not-below (m * up e * down d + n * up d * down e) (down e) (down d)
lt_is (fin true m e) (fin false n d) p q = simp (zero-mul, add_comm)
lt_is (fin true m e) (fin true n d) p q = simp (zero-mul, zero-add)

zeros : (a b : ℕ) → (eqb a b && eqb a 0) ≡ eqb (a + b) 0
zeros a b =
    same_test (eqb a b && eqb a 0) (eqb (a + b) 0)
    (λ h. let k = and-true (eqb a b) (eqb a 0) h in eq-eqb (a + b) 0 (omega (arith, eqb-true a b k.0, eqb-true a 0 k.1)))
    (λ h. let k = eqb-true (a + b) 0 h in cc (eq-eqb a b (omega arith), eq-eqb a 0 (omega arith)))

eqb_comm : (a b : ℕ) → eqb a b ≡ eqb b a
eqb_comm a b = same_test (eqb a b) (eqb b a) (λ h. eq-eqb b a (sym (eqb-true a b h))) (λ h. eq-eqb a b (sym (eqb-true b a h)))

pub eq_is : (x y : Float) → T (finite x) → T (finite y) → eq x y ≡ eqb (left x y) (right x y)
unfolding eq
eq_is nan y p q = absurd p
eq_is (inf s) y p q = absurd p
eq_is (fin s m e) nan p q = absurd q
eq_is (fin s m e) (inf t) p q = absurd q
eq_is (fin false m e) (fin false n d) p q = simp (zero-mul, add-zero, and_yes)
eq_is (fin false m e) (fin true n d) p q = zeros (m * up e * down d) (n * up d * down e) ∙ simp (zero-mul, add-zero)
eq_is (fin true m e) (fin false n d) p q = zeros (m * up e * down d) (n * up d * down e) ∙ eqb_comm (m * up e * down d + n * up d * down e) 0 ∙ simp (zero-mul, add-zero, add_comm)
eq_is (fin true m e) (fin true n d) p q = simp (zero-mul, zero-add, and_yes) (eqb_comm (m * up e * down d) (n * up d * down e))

leb_split : (a b : ℕ) → (ltb a b || eqb a b) ≡ leb a b
leb_split a b =
    same_test (ltb a b || eqb a b) (leb a b)
    (λ h. elim (or-true (ltb a b) (eqb a b) h) [
      | inl k ↦ le-leb a b (omega (arith, ltb-true a b k))
      | inr k ↦ le-leb a b (omega (arith, eqb-true a b k))
    ])
    (λ h. elim (eq-or-lt_of_le (leb-true a b h)) [
      | inl k ↦ rw (eq-eqb a b k) (or_yes (ltb a b))
      | inr k ↦ rw (lt-ltb a b k) refl
    ])

pub le_is : (x y : Float) → T (finite x) → T (finite y) → le x y ≡ leb (left x y) (right x y)
unfolding le
le_is x y p q = rw (lt_is x y p q, eq_is x y p q) (leb_split (left x y) (right x y))

-- ---- the laws of the order
pub den_pos : (x : Float) → 0 < den x
den_pos nan = omega arith
den_pos (inf s) = omega arith
den_pos (fin s m e) = down_pos e

decide : (b : Bool) → (b ≡ false → ⊥) → b ≡ true
decide true h = refl
decide false h = absurd (h refl)

module _ (x y : Float) (p : T (finite x)) (q : T (finite y)) where
  pub not-lt→le : lt x y ≡ false → le y x ≡ true
  not-lt→le h = le_is y x q p ∙ le-leb (left y x) (right y x) (ltb-false (left x y) (right x y) (sym (lt_is x y p q) ∙ h))

  pub le→not-lt : le y x ≡ true → lt x y ≡ false
  le→not-lt h = lt_is x y p q ∙ le-ltb (left x y) (right x y) (leb-true (left y x) (right y x) (sym (le_is y x q p) ∙ h))

pub lt→le : (x y : Float) → lt x y ≡ true → le x y ≡ true
unfolding le
lt→le x y h = rw h refl

pub eq→le : (x y : Float) → eq x y ≡ true → le x y ≡ true
unfolding le
eq→le x y h = rw h (or_yes (lt x y))

pub le_self : (x : Float) → T (finite x) → le x x ≡ true
le_self x p = le_is x x p p ∙ le-leb (left x x) (right x x) (le_refl (left x x))

-- (a − a') / d ≤ (b − b') / e ≤ (c − c') / f
through : (a a' d b b' e c c' f : ℕ) → 0 < e → a * e + b' * d ≤ b * d + a' * e → b * f + c' * e ≤ c * e + b' * f → a * f + c' * d ≤ c * d + a' * f
through a a' d b b' e c c' f E h k =
    let u = simp (add-mul, mul_assoc, mul_comm) at (mul-le-mul_right f h) in
    let v = simp (add-mul, mul_assoc, mul_comm, mul_left_comm) at (mul-le-mul_right d k) in
    le_of_mul-le-mul_right (simp (add-mul, mul_assoc, mul_comm) (omega arith)) E

module _ (x y z : Float) (p : T (finite x)) (q : T (finite y)) (r : T (finite z)) where
  pub le_then_le : le x y ≡ true → le y z ≡ true → le x z ≡ true
  le_then_le h k =
      le_is x z p r
      ∙ le-leb (left x z) (right x z)
      (through (plus x) (minus x) (den x) (plus y) (minus y) (den y) (plus z) (minus z) (den z) (den_pos y)
      (leb-true (left x y) (right x y) (sym (le_is x y p q) ∙ h)) (leb-true (left y z) (right y z) (sym (le_is y z q r) ∙ k)))

pub lt_then_le : (x y z : Float) → T (finite x) → T (finite y) → T (finite z) → lt x y ≡ true → le y z ≡ true → lt x z ≡ true
lt_then_le x y z p q r h k = decide (lt x z) (λ n. clash (lt x y) h (le→not-lt x y p q (le_then_le y z x q r p k (not-lt→le x z p r n))))

pub le_then_lt : (x y z : Float) → T (finite x) → T (finite y) → T (finite z) → le x y ≡ true → lt y z ≡ true → lt x z ≡ true
le_then_lt x y z p q r h k = decide (lt x z) (λ n. clash (lt y z) k (le→not-lt y z q r (le_then_le z x y r p q (not-lt→le x z p r n) h)))

-- what the floor keeper rests on: x below z and y not, so x below y
pub lt_not_lt : (x y z : Float) → T (finite x) → T (finite y) → T (finite z) → lt x z ≡ true → lt y z ≡ false → lt x y ≡ true
lt_not_lt x y z p q r h k = lt_then_le x z y p r q h (not-lt→le y z q r k)

pub le-both→eq : (x y : Float) → T (finite x) → T (finite y) → le x y ≡ true → le y x ≡ true → eq x y ≡ true
le-both→eq x y p q h k =
    eq_is x y p q ∙ eq-eqb (left x y) (right x y) (le_antisymm (leb-true (left x y) (right x y) (sym (le_is x y p q) ∙ h)) (leb-true (left y x) (right y x) (sym (le_is y x q p) ∙ k)))
