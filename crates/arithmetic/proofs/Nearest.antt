-- `narrowed` is what the request's words say (`Rounded`, specs/Narrow.antt): the nearest f32 of every finite f64 below 2^128 − 2^103 in magnitude, and an infinity from there on.
-- The words leave no choice: what meets them is `narrowed x` (`rounded_only`).
use Rattle.std.proofs.Common.{◌≡◌, ℕ, ◌+◌, ◌-◌, ◌*◌, ◌/◌, ◌%◌, ◌^◌, ◌<◌, ◌≤◌, max, Bool, true, false, cond, T, leb, sym, refl, ap, ◌∙◌, subst, le_trans, le_of_eq, add-zero, mul_assoc, lt_of_not-le, div-add-mod', mul_right_comm, not-le_of_lt, mul-div_cancel, arith, pow_pos, pow-add, shl_lt, leb-false, leb-true}
use mathlib.Core.Bool.{beq}
use native.Mathlib.Nat.{mul-mod_left}
use lib.Ieee.{Float, nan, inf, fin, binary32, binary64, up, down, size, fits}
use lib.Ieee.Exact.{HasValue}
use lib.Ieee.Fits.{down_pos, fits_widens}
use lib.Ieee.Nearest.{closest}
use lib.Ieee.Scale.{finite}
use Rattle.arithmetic.specs.Number.{sign_of}
use Rattle.arithmetic.specs.Narrow.{narrowed, units_of, spacing, overflow, apart, Nearest, Rounded}
use Rattle.arithmetic.proofs.Exact32.{digits, value_unique, narrowed_fits}
use Rattle.arithmetic.proofs.Units.{grid, units_value, narrowed_value, narrowed_over}
use Rattle.arithmetic.proofs.Closest.{gap, closest_near, closest_half, closest_only, no_nearer, grid_below, grid_above}

-- ---- what a value says: it is finite, and its sign and its units
says_finite : (y : Float) (s : Bool) (a c : ℕ) → HasValue y s a c → T (finite y)
says_finite nan s a c v = v
says_finite (inf t) s a c v = v
says_finite (fin t m e) s a c v = tt

says_sign : (y : Float) (s : Bool) (a c : ℕ) → HasValue y s a c → sign_of y ≡ s
says_sign nan s a c v = absurd v
says_sign (inf t) s a c v = absurd v
says_sign (fin t m e) s a c v = v.0

says_units : (y : Float) (s : Bool) (n : ℕ) → HasValue y s n (2 ^ 1074) → units_of y ≡ n
says_units nan s n v = absurd v
says_units (inf t) s n v = absurd v
says_units (fin t m e) s n v = ap (λ (z : ℕ). z / down e) v.1 ∙ mul-div_cancel n (down_pos e)

-- ---- the distance
distance : (a b : ℕ) → cond (leb a b) (b - a) (a - b) ≡ gap a b
distance a b = go (leb a b) refl
  where
    go : (t : Bool) → leb a b ≡ t → cond t (b - a) (a - b) ≡ gap a b
    go true h = omega (arith, leb-true a b h)
    go false h = omega (arith, leb-false a b h)

apart_le : (a b : ℕ) → gap a b ≤ a + b
apart_le a b = omega arith

-- of one sign
alike : (x y : Float) → sign_of y ≡ sign_of x → apart x y ≡ gap (units_of x) (units_of y)
alike x y h = go (sign_of x) (sign_of y) h ∙ distance (units_of x) (units_of y)
  where
    go : (s t : Bool) → t ≡ s → cond (beq s t) (cond (leb (units_of x) (units_of y)) (units_of y - units_of x) (units_of x - units_of y)) (units_of x + units_of y)
        ≡ cond (leb (units_of x) (units_of y)) (units_of y - units_of x) (units_of x - units_of y)
    go true t h = rw h refl
    go false t h = rw h refl

-- of two signs it is no less
at_least : (x y : Float) → gap (units_of x) (units_of y) ≤ apart x y
at_least x y = go (beq (sign_of x) (sign_of y))
  where
    go : (t : Bool) → gap (units_of x) (units_of y) ≤ cond t (cond (leb (units_of x) (units_of y)) (units_of y - units_of x) (units_of x - units_of y)) (units_of x + units_of y)
    go true = le_of_eq (sym (distance (units_of x) (units_of y)))
    go false = apart_le (units_of x) (units_of y)

-- ---- a finite f32 in units: 24 digits, none below 2^−149, and all below 2^128
record Held (z : Float) : Type 0 where
  m : ℕ
  i : ℕ
  few : m < 2 ^ 24
  low : 925 ≤ i
  is : units_of z ≡ m * 2 ^ i
  fine : m * 2 ^ i < 2 ^ 1202

placed : (x m d j l t : ℕ) → x * 2 ^ l ≡ m * 2 ^ j * d → x * 2 ^ (l + t) ≡ m * 2 ^ (j + t) * d
placed x m d j l t e =
    ap (λ (z : ℕ). x * z) (pow-add 2 l t)
    ∙ sym (mul_assoc x (2 ^ l) (2 ^ t))
    ∙ ap (λ (z : ℕ). z * 2 ^ t) e
    ∙ mul_right_comm (m * 2 ^ j) d (2 ^ t)
    ∙ ap (λ (z : ℕ). z * d) (mul_assoc m (2 ^ j) (2 ^ t) ∙ ap (λ (z : ℕ). m * z) (sym (pow-add 2 j t)))

held : (z : Float) → T (finite z) → T (fits binary32 z) → Held z
held nan p f = absurd p
held (inf s) p f = absurd p
held (fin s m e) p f =
    let d = digits binary32 s m e f in
    record {
      m = m;
      i = d.j + 925;
      few = d.few;
      low = omega arith;
      is = ap (λ (z : ℕ). z / down e) (placed (m * up e) m (down e) d.j 149 925 d.is) ∙ mul-div_cancel (m * 2 ^ (d.j + 925)) (down_pos e);
      fine = subst (λ (z : ℕ). z < 2 ^ 1202) (mul_assoc m (2 ^ d.j) (2 ^ 925) ∙ ap (λ (z : ℕ). m * z) (sym (pow-add 2 d.j 925))) (shl_lt {a = m * 2 ^ d.j} 277 925 d.fine);
    }

-- ---- the words, for y, are that y has as many units as the nearest multiple of the spacing
positive : (n : ℕ) → 0 < spacing n
positive n = pow_pos (max (size n) 949 - 24)

meets : (x y : Float) → T (finite x) → T (finite y) → T (fits binary32 y) → sign_of y ≡ sign_of x → units_of y ≡ grid (units_of x) → Nearest x y
meets x y q k f s e =
    let n = units_of x in
    let u = spacing n in
    let d : apart x y ≡ gap n (grid n) = alike x y s ∙ ap (gap n) e in
    record {
      some = q;
      known = k;
      held = f;
      signed = s;
      none_nearer = λ z p r.
          let v = held z p r in
          le_trans (le_of_eq d) (le_trans (no_nearer n v.m v.i v.few v.low) (le_trans (le_of_eq (ap (gap n) (sym v.is))) (at_least x z)));
      near = subst (λ (z : ℕ). z * 2 ≤ u) (sym d) (closest_half n u (positive n));
      whole = ap (λ (z : ℕ). z % u) e ∙ mul-mod_left (closest n u) u;
      even = λ h.
          ap (λ (z : ℕ). z / u % 2) e
          ∙ ap (λ (z : ℕ). z % 2) (mul-div_cancel (closest n u) (positive n))
          ∙ (closest_near n u (positive n)).even (ap (λ (z : ℕ). z * 2) (sym d) ∙ h);
    }

met : (x y : Float) → Nearest x y → units_of y ≡ grid (units_of x)
met x y h =
    let n = units_of x in
    let u = spacing n in
    let c = units_of y / u in
    let is : c * u ≡ units_of y = sym (add-zero (c * u)) ∙ ap (λ (z : ℕ). c * u + z) (sym h.whole) ∙ div-add-mod' (units_of y) u in
    let d : gap n (c * u) ≡ apart x y = ap (gap n) is ∙ sym (alike x y h.signed) in
    sym is
    ∙ ap (λ (z : ℕ). z * u)
    (closest_only n u (positive n) c (subst (λ (z : ℕ). z * 2 ≤ u) (sym d) h.near) (λ t. h.even (ap (λ (z : ℕ). z * 2) (sym d) ∙ t)))

-- ---- the laws
pub narrowed_nan : narrowed nan ≡ nan
unfolding narrowed
narrowed_nan = refl

pub narrowed_inf : (s : Bool) → narrowed (inf s) ≡ inf s
unfolding narrowed
narrowed_inf s = refl

pub narrowed_nearest : (x : Float) → T (fits binary64 x) → T (finite x) → units_of x < overflow → Nearest x (narrowed x)
narrowed_nearest nan f p h = absurd p
narrowed_nearest (inf s) f p h = absurd p
narrowed_nearest (fin s m e) f p h =
    let x = fin s m e in
    let g = grid (units_of x) in
    let v = narrowed_value s m e f (grid_below (units_of x) h) in
    meets x (narrowed x) p (says_finite (narrowed x) s g (2 ^ 1074) v) (narrowed_fits x) (says_sign (narrowed x) s g (2 ^ 1074) v) (says_units (narrowed x) s g v)

pub narrowed_infinite : (x : Float) → T (fits binary64 x) → T (finite x) → overflow ≤ units_of x → narrowed x ≡ inf (sign_of x)
narrowed_infinite nan f p h = absurd p
narrowed_infinite (inf s) f p h = absurd p
narrowed_infinite (fin s m e) f p h = narrowed_over s m e f (grid_above (units_of (fin s m e)) h)

-- and back: its value from its sign and its units
own_value : (y : Float) (s : Bool) (n : ℕ) → T (finite y) → T (fits binary32 y) → sign_of y ≡ s → units_of y ≡ n → HasValue y s n (2 ^ 1074)
own_value nan s n p f h e = absurd p
own_value (inf t) s n p f h e = absurd p
own_value (fin t m e) s n p f h d =
    let v = units_value t m e (fits_widens (fin t m e) f) in
    (h, v.1 ∙ ap (λ (z : ℕ). z * down e) d)

-- from `overflow` on no finite f32 meets the words
pub none_nearest : (x y : Float) → overflow ≤ units_of x → Nearest x y → ⊥
none_nearest x y l h =
    let v = held y h.known h.held in
    not-le_of_lt v.fine (subst (λ (z : ℕ). 2 ^ 1202 ≤ z) (sym (met x y h) ∙ v.is) (grid_above (units_of x) l))

-- and below it `narrowed x` alone does
pub nearest_only : (x y : Float) → T (fits binary64 x) → Nearest x y → y ≡ narrowed x
nearest_only nan y f h = absurd h.some
nearest_only (inf s) y f h = absurd h.some
nearest_only (fin s m e) y f h =
    let x = fin s m e in
    let g = grid (units_of x) in
    value_unique binary32 y (narrowed x) s g (2 ^ 1074) (pow_pos 1074) h.held (narrowed_fits x)
    (own_value y s g h.known h.held h.signed (met x y h))
    (narrowed_value s m e f (grid_below (units_of x) (lt_of_not-le (λ l. none_nearest x y l h))))

-- ---- every f64
pub narrowed_rounded : (x : Float) → T (fits binary64 x) → Rounded x (narrowed x)
narrowed_rounded x f = record {
  nearest = narrowed_nearest x f;
  past = narrowed_infinite x f;
  infinite = λ s e. ap narrowed e ∙ narrowed_inf s;
  not_a_number = λ e. ap narrowed e ∙ narrowed_nan;
}

pub rounded_only : (x y : Float) → T (fits binary64 x) → Rounded x y → y ≡ narrowed x
rounded_only nan y f h = h.not_a_number refl ∙ sym narrowed_nan
rounded_only (inf s) y f h = h.infinite s refl ∙ sym (narrowed_inf s)
rounded_only (fin s m e) y f h = go (leb overflow (units_of (fin s m e))) refl
  where
    go : (b : Bool) → leb overflow (units_of (fin s m e)) ≡ b → y ≡ narrowed (fin s m e)
    go true l = let k = leb-true overflow (units_of (fin s m e)) l in h.past tt k ∙ sym (narrowed_infinite (fin s m e) f tt k)
    go false l = nearest_only (fin s m e) y f (h.nearest tt (leb-false overflow (units_of (fin s m e)) l))
