-- Digits read and written.
use mathlib.Core.Path.{◌≡◌, refl, ap, ◌∙◌}
use mathlib.Core.Bool.{Bool, true, false, cond}
use mathlib.Core.List.{List, [], ◌∷◌, ◌++◌}
use Prim.Native.Nat.{ℕ, zero, suc, ◌+◌, ◌-◌, ◌*◌, ◌/◌, ◌%◌, ◌^◌, ◌≤◌, ◌<◌}
use native.Mathlib.Nat.{zero-add, pow-suc, pow-le-pow_right, mul-le-mul_left}
use native.Mathlib.Numerals.{add-one}
use native.Mathlib.Omega.{arith}
use lib.Dec.{ltb}
use lib.ListN.{length, length-append, get_or, drop}
use lib.Seq.{drop-cons}
use borrow.Author.Tests.{lt-ltb, le-ltb, ltb-true}
use Rattle.std.specs.Prelude.{Some, None}
use Rattle.floors_text.specs.Lines.{digit_of, digit_in, number_from}
use Rattle.floors_text.specs.Print.{glyph_of, hex_of, decimal_from, decimal_of}

-- ---- decimal digits: the turns that are granted do not matter, once they are enough
decimal_turn : (k n : ℕ) → n ≤ k → decimal_from (suc k) n ≡ decimal_from k n
decimal_turn zero n h = rw (lt-ltb n 10 (omega arith)) refl
decimal_turn (suc k) n h = ap (λ (l : List ℕ). cond (ltb n 10) (glyph_of n ∷ []) (l ++ (glyph_of (n % 10) ∷ []))) (decimal_turn k (n / 10) (omega arith))

decimal_turns : (j n : ℕ) → decimal_from (j + n) n ≡ decimal_from n n
decimal_turns zero n = ap (λ (k : ℕ). decimal_from k n) (zero-add n)
decimal_turns (suc j) n =
    let e : suc j + n ≡ suc (j + n) = omega arith in
    ap (λ (k : ℕ). decimal_from k n) e ∙ decimal_turn (j + n) n (omega arith) ∙ decimal_turns j n

pub decimal_one : (n : ℕ) → n < 10 → decimal_of n ≡ glyph_of n ∷ []
unfolding decimal_of
decimal_one zero h = refl
decimal_one (suc n) h = rw (lt-ltb (suc n) 10 h) refl

pub decimal_more : (n : ℕ) → 10 ≤ n → decimal_of n ≡ decimal_of (n / 10) ++ (glyph_of (n % 10) ∷ [])
unfolding decimal_of
decimal_more zero h = absurd (omega arith)
decimal_more (suc n) h =
    let e : n ≡ (n - suc n / 10) + suc n / 10 = omega arith in
    rw (le-ltb (suc n) 10 h)
    (ap (λ (l : List ℕ). l ++ (glyph_of (suc n % 10) ∷ [])) (ap (λ (k : ℕ). decimal_from k (suc n / 10)) e ∙ decimal_turns (n - suc n / 10) (suc n / 10)))

pub decimal_longer : (n : ℕ) → 10 ≤ n → length (decimal_of n) ≡ length (decimal_of (n / 10)) + 1
decimal_longer n h = ap length (decimal_more n h) ∙ length-append (decimal_of (n / 10)) (glyph_of (n % 10) ∷ [])

-- a number below 10 ^ (j + 1) has at most j + 1 digits
digits_few : (k j n : ℕ) → n < 10 ^ suc j → length (decimal_from k n) ≤ suc j
digits_few zero j n h = omega arith
digits_few (suc k) zero n h = rw (lt-ltb n 10 h) (omega arith)
digits_few (suc k) (suc j) n h = go (ltb n 10) refl (digits_few k j (n / 10) (omega (arith, pow-suc 10 (suc j))))
  where
    go : (b : Bool) → ltb n 10 ≡ b → length (decimal_from k (n / 10)) ≤ suc j → length (decimal_from (suc k) n) ≤ suc (suc j)
    go true e l = rw e (omega arith)
    go false e l = rw (e, length-append (decimal_from k (n / 10)) (glyph_of (n % 10) ∷ [])) (omega arith)

pub four_digits : (n : ℕ) → n < 10000 → length (decimal_of n) ≤ 4
unfolding decimal_of
four_digits n h = digits_few n 3 n h

pub hex_more : (k n : ℕ) → (k ≡ 0 → ⊥) → hex_of k n ≡ hex_of (k - 1) (n / 16) ++ (glyph_of (n % 16) ∷ [])
hex_more zero n h = absurd (h refl)
hex_more (suc k) n h = let e : suc k - 1 ≡ k = omega arith in rw e refl

pub hex_length : (k n : ℕ) → length (hex_of k n) ≡ k
hex_length zero n = refl
hex_length (suc k) n = length-append (hex_of k (n / 16)) (glyph_of (n % 16) ∷ []) ∙ rw (hex_length k (n / 16)) (add-one k)

-- ---- a digit more of a number that is read
-- sixteen digits fit
module _ (v base i : ℕ) (small : v < 16 ^ i) (few : i < 16) (most : base ≤ 16) where
  power : 16 ^ (i + 1) ≡ 16 ^ i * 16
  power = rw (add-one i) (pow-suc 16 i)

  pub digit_more : (d : ℕ) → d < base → v * base + d < 16 ^ (i + 1)
  digit_more d below = let p = mul-le-mul_left v most in let e = power in omega arith

  pub digit_fits : (d : ℕ) → d < base → v * base + d < 2 ^ 64
  digit_fits d below = let h = digit_more d below in let p = pow-le-pow_right {n = 16} (omega arith) {i = i + 1} {j = 16} (omega arith) in omega arith

  pub value_fits : v * base < 2 ^ 64
  value_fits = let p = mul-le-mul_left v most in let e = power in let q = pow-le-pow_right {n = 16} (omega arith) {i = i + 1} {j = 16} (omega arith) in omega arith

-- what a digit that was read, or was none, makes of the number
module _ (digits : List ℕ) (base v i : ℕ) (more : i < length digits) where
  pub digit_below : (d : ℕ) → digit_in base (get_or digits i 0) ≡ Some d → (d < base) × (number_from base (v * base + d) (drop (i + 1) digits) ≡ number_from base v (drop i digits))
  digit_below d e = go (ltb (digit_of (get_or digits i 0)) base) refl e
    where
      go : (t : Bool) → ltb (digit_of (get_or digits i 0)) base ≡ t → cond t (Some (digit_of (get_or digits i 0))) None ≡ Some d → (d < base) × (number_from base (v * base + d) (drop (i + 1) digits) ≡ number_from base v (drop i digits))
      go true h k = let s : digit_of (get_or digits i 0) ≡ d = cc in (rw s at (ltb-true (digit_of (get_or digits i 0)) base h), rw (add-one i, drop-cons digits i 0 more, h, s) refl)
      go false h k = absurd (cc)
