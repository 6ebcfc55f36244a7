-- Rounding over whole numbers alone. `closest n u` multiples of u lie nearest to n: no farther from n than the multiple below and the one above, and at a tie the even one (`closest_near`);
-- nothing else is (`closest_only`). With u the spacing of the f32 values at n, no f32 lies between the two multiples (`no_nearer`), and the rounded number reaches 2^128 exactly from
-- 2^128 − 2^103 on (`grid_below`, `grid_above`).
use Rattle.std.proofs.Common.{◌≡◌, ℕ, zero, suc, ◌+◌, ◌-◌, ◌*◌, ◌/◌, ◌%◌, ◌^◌, ◌<◌, ◌≤◌, max, not, T, eqb, ◌⊎◌, sym, refl, ap, ◌∙◌, subst, inl, inr, le_trans, le_of_eq, lt_of_lt_of_le, le_of_suc-le-suc, le_of_lt, mul-le-mul_right, mod-lt, mul_assoc, suc-mul, add-mul, eq-or-lt_of_le, lt_of_not-le, div-add-mod', le-div_iff_mul-le, not-le_of_lt, arith, lit≤, eqb→eq, leb→le, pow_pos, pow_mono, pow-add, shl_lt}
use Prim.Native.Nat.{compare, Ordering}
use native.Mathlib.Decide.{dec_le}
use lib.Dec.{is_le, compare_is_eq, nleb→lt, eqb_refl}
use lib.Arith.{lt_of_le-ne}
use lib.Ieee.{nearest, size}
use lib.Ieee.Digits.{size-lt, size-le, size_reaches, back}
use lib.Ieee.Nearest.{closest, closest_mono, nearest-ge}
use Rattle.arithmetic.specs.Narrow.{spacing, overflow}

-- ---- what `compare` says
abbrev pub Compared : Ordering → ℕ → ℕ → Type 0
Compared Ordering.lt a b = a < b
Compared Ordering.eq a b = a ≡ b
Compared Ordering.gt a b = b < a

pub compared : (a b : ℕ) → Compared (compare a b) a b
compared a b = go (compare a b) (leb→le a b) (nleb→lt a b) (eqb→eq a b) (λ (e : a ≡ b). subst (λ (x : ℕ). T (eqb a x)) e (eqb_refl a))
  where
    go : (o : Ordering) → (T (is_le o) → a ≤ b) → (T (not (is_le o)) → b < a) → (T (compare_is_eq o) → a ≡ b) → (a ≡ b → T (compare_is_eq o)) → Compared o a b
    go Ordering.lt h k e n = lt_of_le-ne (h tt) n
    go Ordering.eq h k e n = e tt
    go Ordering.gt h k e n = k tt

-- ---- the nearest multiple
-- how far apart two numbers lie, as `omega` reads it
abbrev pub gap : ℕ → ℕ → ℕ
gap a b = (a - b) + (b - a)

-- n is r above a multiple of u: q × u is no farther from n than that multiple is, nor than the next one, and where these two are equally near it is the even one
pub record Near (n u r q : ℕ) : Type 0 where
  pub below : gap n (q * u) ≤ r
  pub above : gap n (q * u) + r ≤ u
  pub even : gap n (q * u) * 2 ≡ u → q % 2 ≡ 0

module _ (n u w r : ℕ) (e : w * u + r ≡ n) (R : r < u) where
  tie : r * 2 ≡ u → (p : ℕ) → w % 2 ≡ p → Near n u r (w + p)
  tie c zero h = omega (arith, add-mul w 0 u)
  tie c (suc zero) h = omega (arith, add-mul w 1 u)
  tie c (suc (suc p)) h = absurd (omega arith)

  by_order : (o : Ordering) → Compared o (r * 2) u → Near n u r (nearest w o)
  by_order Ordering.lt c = omega arith
  by_order Ordering.eq c = tie c (w % 2) refl
  by_order Ordering.gt c = omega (arith, suc-mul w u)

  -- c multiples that lie at most half of u away, an even number of them where it is exactly half
  module _ (c : ℕ) (h : gap n (c * u) * 2 ≤ u) (even : gap n (c * u) * 2 ≡ u → c % 2 ≡ 0) where
    at_least : w ≤ c
    at_least = le_of_suc-le-suc (lt_of_not-le (λ (g : suc c ≤ w). absurd (omega (arith, mul-le-mul_right u g, suc-mul c u))))

    at_most : c ≤ suc w
    at_most = le_of_suc-le-suc (lt_of_not-le (λ (g : suc (suc w) ≤ c). absurd (omega (arith, mul-le-mul_right u g, suc-mul (suc w) u, suc-mul w u))))

    lower : c ≡ w → (o : Ordering) → Compared o (r * 2) u → c ≡ nearest w o
    lower d Ordering.lt k = d
    lower d Ordering.eq k = omega (arith, even (omega (arith, ap (λ (z : ℕ). z * u) d)))
    lower d Ordering.gt k = omega (arith, ap (λ (z : ℕ). z * u) d)

    upper : c ≡ suc w → (o : Ordering) → Compared o (r * 2) u → c ≡ nearest w o
    upper d Ordering.lt k = omega (arith, ap (λ (z : ℕ). z * u) d, suc-mul w u)
    upper d Ordering.eq k = omega (arith, even (omega (arith, ap (λ (z : ℕ). z * u) d, suc-mul w u)))
    upper d Ordering.gt k = d

    only : (o : Ordering) → Compared o (r * 2) u → c ≡ nearest w o
    only o k = elim (eq-or-lt_of_le at_least) [ inl d ↦ lower (sym d) o k | inr g ↦ upper (omega (arith, at_most)) o k ]

module _ (n u : ℕ) (U : 0 < u) where
  pub closest_near : Near n u (n % u) (closest n u)
  closest_near = by_order n u (n / u) (n % u) (div-add-mod' n u) (mod-lt n U) (compare (n % u * 2) u) (compared (n % u * 2) u)

  pub closest_only : (c : ℕ) → gap n (c * u) * 2 ≤ u → (gap n (c * u) * 2 ≡ u → c % 2 ≡ 0) → c ≡ closest n u
  closest_only c h even = only n u (n / u) (n % u) (div-add-mod' n u) (mod-lt n U) c h even (compare (n % u * 2) u) (compared (n % u * 2) u)

-- ---- the f32 values around n: m × 2^i with m of 24 digits and none below 2^−149, in multiples of 2^−1074
-- n's 24 leading digits are kept
leading : (n k : ℕ) → 23 + k < size n → 2 ^ 23 ≤ n / 2 ^ k
leading n k h = (le-div_iff_mul-le (pow_pos k)).1 (le_trans (le_of_eq (sym (pow-add 2 23 k))) (size_reaches n (23 + k) h))

-- where the last place is a multiple of the spacing, and where it is finer
coarse : (m i k w : ℕ) → k ≤ i → (m * 2 ^ i ≤ w * 2 ^ k) ⊎ (suc w * 2 ^ k ≤ m * 2 ^ i)
coarse m i k w h = subst (λ (z : ℕ). (z ≤ w * 2 ^ k) ⊎ (suc w * 2 ^ k ≤ z)) is (go (dec_le (m * 2 ^ (i - k)) w))
  where
    is : m * 2 ^ (i - k) * 2 ^ k ≡ m * 2 ^ i
    is = mul_assoc m (2 ^ (i - k)) (2 ^ k) ∙ ap (λ (z : ℕ). m * z) (sym (pow-add 2 (i - k) k) ∙ ap (λ (z : ℕ). 2 ^ z) (back i k h))

    go : Dec (m * 2 ^ (i - k) ≤ w) → (m * 2 ^ (i - k) * 2 ^ k ≤ w * 2 ^ k) ⊎ (suc w * 2 ^ k ≤ m * 2 ^ (i - k) * 2 ^ k)
    go (yes g) = inl (mul-le-mul_right (2 ^ k) g)
    go (no g) = inr (mul-le-mul_right (2 ^ k) (lt_of_not-le g))

fine : (n m i k : ℕ) → m < 2 ^ 24 → i < k → 23 + k < size n → m * 2 ^ i ≤ n / 2 ^ k * 2 ^ k
fine n m i k h l g =
    le_trans (le_of_lt (shl_lt {a = m} 24 i h))
    (le_trans (pow_mono {i = 24 + i} {j = 23 + k} (omega arith)) (le_trans (le_of_eq (pow-add 2 23 k)) (mul-le-mul_right (2 ^ k) (leading n k g))))

many : (z i : ℕ) → 925 ≤ i → i < max z 949 - 24 → 23 + (max z 949 - 24) < z
many z i h l = omega arith

-- none lies between the multiple of the spacing below n and the next one
beside : (n m i : ℕ) → m < 2 ^ 24 → 925 ≤ i → (m * 2 ^ i ≤ n / spacing n * spacing n) ⊎ (suc (n / spacing n) * spacing n ≤ m * 2 ^ i)
beside n m i h l = go (dec_le (max (size n) 949 - 24) i)
  where
    go : Dec (max (size n) 949 - 24 ≤ i) → (m * 2 ^ i ≤ n / spacing n * spacing n) ⊎ (suc (n / spacing n) * spacing n ≤ m * 2 ^ i)
    go (yes g) = coarse m i (max (size n) 949 - 24) (n / spacing n) g
    go (no g) = inl (fine n m i (max (size n) 949 - 24) h (lt_of_not-le g) (many (size n) i l (lt_of_not-le g)))

pub no_nearer : (n m i : ℕ) → m < 2 ^ 24 → 925 ≤ i → gap n (closest n (spacing n) * spacing n) ≤ gap n (m * 2 ^ i)
no_nearer n m i h l = go (beside n m i h l)
  where
    near : Near n (spacing n) (n % spacing n) (closest n (spacing n))
    near = closest_near n (spacing n) (pow_pos (max (size n) 949 - 24))

    go : (m * 2 ^ i ≤ n / spacing n * spacing n) ⊎ (suc (n / spacing n) * spacing n ≤ m * 2 ^ i) → gap n (closest n (spacing n) * spacing n) ≤ gap n (m * 2 ^ i)
    go (inl g) = omega (arith, near.below, div-add-mod' n (spacing n))
    go (inr g) = omega (arith, near.above, div-add-mod' n (spacing n), suc-mul (n / spacing n) (spacing n))

-- ---- 2^128 is reached exactly from 2^128 − 2^103 on
under : (n g u h o top : ℕ) → gap n g * 2 ≤ u → u ≤ h * 2 → n < o → o + h ≡ top → g < top
under n g u h o top a b c d = omega arith

digits_le : (z : ℕ) → z ≤ 1202 → max z 949 - 24 ≤ 1178
digits_le z h = omega arith

pub closest_half : (n u : ℕ) → 0 < u → gap n (closest n u * u) * 2 ≤ u
closest_half n u U = omega (arith, (closest_near n u U).below, (closest_near n u U).above)

pub grid_below : (n : ℕ) → n < overflow → closest n (spacing n) * spacing n < 2 ^ 1202
grid_below n h =
    under n (closest n (spacing n) * spacing n) (spacing n) (2 ^ 1177) overflow (2 ^ 1202) (closest_half n (spacing n) (pow_pos (max (size n) 949 - 24)))
    (pow_mono {i = max (size n) 949 - 24} {j = 1178} (digits_le (size n) (size-le n 1202 (lt_of_lt_of_le h (lit≤ tt)))))
    h refl

-- n has more digits than those below 2^j
longer : (n j : ℕ) → 2 ^ j ≤ n → j < size n
longer n j h = lt_of_not-le (λ g. not-le_of_lt (lt_of_lt_of_le (size-lt n) (pow_mono {i = size n} {j = j} g)) h)

past : (z : ℕ) → 1202 < z → (1202 ≤ 23 + (max z 949 - 24)) × (23 + (max z 949 - 24) < z)
past z h = omega arith

last : (z : ℕ) → z ≤ 1202 → 1201 < z → max z 949 - 24 ≡ 1178
last z h l = omega arith

pub grid_above : (n : ℕ) → overflow ≤ n → 2 ^ 1202 ≤ closest n (spacing n) * spacing n
grid_above n h = go (dec_le (2 ^ 1202) n)
  where
    go : Dec (2 ^ 1202 ≤ n) → 2 ^ 1202 ≤ closest n (spacing n) * spacing n
    go (yes g) =
        let p = past (size n) (longer n 1202 g) in
        le_trans (pow_mono {i = 1202} {j = 23 + (max (size n) 949 - 24)} p.0)
        (le_trans (le_of_eq (pow-add 2 23 (max (size n) 949 - 24)))
        (mul-le-mul_right (spacing n) (le_trans (leading n (max (size n) 949 - 24) p.1) (nearest-ge (n / spacing n) (compare (n % spacing n * 2) (spacing n))))))
    go (no g) =
        let e = last (size n) (size-le n 1202 (lt_of_not-le g)) (longer n 1201 (le_trans (lit≤ tt) h)) in
        subst (λ (z : ℕ). 2 ^ 1202 ≤ closest n (2 ^ z) * 2 ^ z) (sym e)
        (mul-le-mul_right (2 ^ 1178) (closest_mono overflow (2 ^ 1178) n (2 ^ 1178) (pow_pos 1178) (pow_pos 1178) (mul-le-mul_right (2 ^ 1178) h)))
