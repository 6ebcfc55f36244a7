-- The order of any values, infinities and NaN included; then of those that are 0 or more, of which two are never unordered.
use Rattle.std.proofs.Common.{◌≡◌, Bool, true, false, sym, refl, ◌∙◌, arith, ltb-true, ne_eqb}
use lib.Ieee.{Float, nan, inf, fin, lt, le, eq}
use Rattle.arithmetic.specs.Number
use Rattle.arithmetic.proofs.Order.{left, right, clash, lt_is, eq_is, not-lt→le, le→not-lt, lt→le, le_self, lt_then_le, le-both→eq, eq→le}

pub lt_below : (x y z : Float) → lt x y ≡ true → le y z ≡ true → lt x z ≡ true
unfolding lt le
lt_below nan y z h k = clash false h refl
lt_below (inf true) nan z h k = clash false h refl
lt_below (inf true) (inf true) z h k = clash false h refl
lt_below (inf true) (inf false) nan h k = clash false k refl
lt_below (inf true) (inf false) (inf true) h k = clash false k refl
lt_below (inf true) (inf false) (inf false) h k = refl
lt_below (inf true) (inf false) (fin u i j) h k = clash false k refl
lt_below (inf true) (fin t n d) nan h k = clash false k refl
lt_below (inf true) (fin t n d) (inf true) h k = clash false k refl
lt_below (inf true) (fin t n d) (inf false) h k = refl
lt_below (inf true) (fin t n d) (fin u i j) h k = refl
lt_below (inf false) nan z h k = clash false h refl
lt_below (inf false) (inf t) z h k = clash false h refl
lt_below (inf false) (fin t n d) z h k = clash false h refl
lt_below (fin s m e) nan z h k = clash false h refl
lt_below (fin s m e) (inf true) z h k = clash false h refl
lt_below (fin s m e) (inf false) nan h k = clash false k refl
lt_below (fin s m e) (inf false) (inf true) h k = clash false k refl
lt_below (fin s m e) (inf false) (inf false) h k = refl
lt_below (fin s m e) (inf false) (fin u i j) h k = clash false k refl
lt_below (fin s m e) (fin t n d) nan h k = clash false k refl
lt_below (fin s m e) (fin t n d) (inf true) h k = clash false k refl
lt_below (fin s m e) (fin t n d) (inf false) h k = refl
lt_below (fin s m e) (fin t n d) (fin u i j) h k = lt_then_le (fin s m e) (fin t n d) (fin u i j) tt tt tt h k

lt_self : (x : Float) → lt x x ≡ false
unfolding lt
lt_self nan = refl
lt_self (inf true) = refl
lt_self (inf false) = refl
lt_self (fin s m e) = le→not-lt (fin s m e) (fin s m e) tt tt (le_self (fin s m e) tt)

pub le_not_lt : (x y : Float) → le y x ≡ true → lt x y ≡ false
le_not_lt x y h = go (lt x y) refl
  where
    go : (b : Bool) → lt x y ≡ b → lt x y ≡ false
    go true e = clash (lt x x) (lt_below x y x e h) (lt_self x)
    go false e = e

pub lt_not_lt_back : (x y : Float) → lt x y ≡ true → lt y x ≡ false
lt_not_lt_back x y h = le_not_lt y x (lt→le x y h)

-- what is above something is not the same
pub lt_not_eq : (x y : Float) → lt x y ≡ true → eq x y ≡ false
unfolding lt eq
lt_not_eq nan y h = refl
lt_not_eq (inf s) nan h = refl
lt_not_eq (inf true) (inf true) h = clash false h refl
lt_not_eq (inf true) (inf false) h = refl
lt_not_eq (inf false) (inf t) h = clash false h refl
lt_not_eq (inf s) (fin t n d) h = refl
lt_not_eq (fin s m e) nan h = refl
lt_not_eq (fin s m e) (inf t) h = refl
lt_not_eq (fin s m e) (fin t n d) h =
    let x = fin s m e in
    let y = fin t n d in
    let k = ltb-true (left x y) (right x y) (sym (lt_is x y tt tt) ∙ h) in
    eq_is x y tt tt ∙ ne_eqb (left x y) (right x y) (λ z. omega arith)

-- ---- values of 0 or more
pub at_most : (q m : Float) → le Number.zero q ≡ true → le Number.zero m ≡ true → lt q m ≡ false → le m q ≡ true
unfolding le
at_most nan m h k n = clash false h refl
at_most (inf true) m h k n = clash false h refl
at_most (inf false) nan h k n = clash false k refl
at_most (inf false) (inf true) h k n = refl
at_most (inf false) (inf false) h k n = refl
at_most (inf false) (fin t i j) h k n = refl
at_most (fin s a b) nan h k n = clash false k refl
at_most (fin s a b) (inf true) h k n = clash false k refl
at_most (fin s a b) (inf false) h k n = clash true refl n
at_most (fin s a b) (fin t i j) h k n = not-lt→le (fin s a b) (fin t i j) tt tt n

module _ (x y : Float) (h : le Number.zero x ≡ true) (k : le Number.zero y ≡ true) where
  -- neither above the other: the same
  pub level_with : lt x y ≡ false → lt y x ≡ false → eq x y ≡ true
  unfolding le lt eq
  level_with = go x y h k
    where
      go : (x y : Float) → le Number.zero x ≡ true → le Number.zero y ≡ true → lt x y ≡ false → lt y x ≡ false → eq x y ≡ true
      go nan y h k a b = clash false h refl
      go (inf true) y h k a b = clash false h refl
      go (inf false) nan h k a b = clash false k refl
      go (inf false) (inf true) h k a b = clash false k refl
      go (inf false) (inf false) h k a b = refl
      go (inf false) (fin t n d) h k a b = clash true refl b
      go (fin s m e) nan h k a b = clash false k refl
      go (fin s m e) (inf true) h k a b = clash false k refl
      go (fin s m e) (inf false) h k a b = clash true refl a
      go (fin s m e) (fin t n d) h k a b = le-both→eq (fin s m e) (fin t n d) tt tt (not-lt→le (fin t n d) (fin s m e) tt tt b) (not-lt→le (fin s m e) (fin t n d) tt tt a)

pub level_self : (x : Float) → le Number.zero x ≡ true → eq x x ≡ true
level_self x h = level_with x x h h (lt_self x) (lt_self x)

-- 0 or more is 0, or above it
pub zero_or_above : (x : Float) → le Number.zero x ≡ true → (eq x Number.zero ≡ true → lt Number.zero x ≡ false) × (eq x Number.zero ≡ false → lt Number.zero x ≡ true)
unfolding le
zero_or_above x h = go (lt Number.zero x) refl
  where
    go : (b : Bool) → lt Number.zero x ≡ b → (eq x Number.zero ≡ true → b ≡ false) × (eq x Number.zero ≡ false → b ≡ true)
    go true e = (λ z. clash (lt Number.zero x) e (le_not_lt Number.zero x (eq→le x Number.zero z)), λ z. refl)
    go false e = (λ z. refl, λ z. clash (eq x Number.zero) (level_with x Number.zero h refl (le_not_lt x Number.zero h) e) z)
