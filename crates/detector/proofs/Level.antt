-- Why samples within a level are answered below its ceiling. Every step of a sum is bounded by a whole number of 2 to the −52, which no rounding passes: a tap by so many 1024ths, a sample by so many parts of 2 to the −42.
use mathlib.Core.Path.{◌≡◌, refl, subst}
use mathlib.Core.Bool.{Bool, true, false, ◌&&◌, cond}
use mathlib.Core.List.{List, [], ◌∷◌}
use Prim.Native.Nat.{ℕ, zero, suc, ◌+◌, ◌*◌, ◌/◌, ◌^◌, ◌≤◌, ◌<◌}
use native.Mathlib.Nat.{add-mul, mul_assoc, mul_comm, mul_left_comm, mul-le-mul_right, le_refl, le_trans, lt-div-mul-add, le-div_iff_mul-le, div-lt_iff_lt-mul, div-mul-le_self}
use native.Mathlib.Omega.{arith}
use lib.Dec.{T, leb, eqb, lit<, lit≤}
use lib.IntN.{ℤ, pos, negsuc}
use lib.ListN.{length, take}
use lib.Ieee.{Float, nan, inf, fin, binary64, up, down, add, mul, neg, lt, le, of_bits}
use lib.Ieee.Fits.{down_pos}
use lib.Ieee.Positive.{num, den, den_pos}
use lib.Ieee.Scale.{finite}
use borrow.Author.Tests.{leb-true, eqb-true, eq-eqb, ne_eqb}
use Rattle.arithmetic.specs.Number
use Rattle.arithmetic.specs.Number.{abs_of, sign_of, within}
use Rattle.arithmetic.specs.Sanitize.{finite_or_zero}
use Rattle.arithmetic.proofs.Order.{and-true, clash}
use Rattle.arithmetic.proofs.Cut.{sign_round}
use Rattle.arithmetic.proofs.Within.{within→finite, sanitized_same}
use Rattle.arithmetic.proofs.UnitBound.{Bound, le→numbers, numbers→le, exact, mul_bound, add_bound}
use Rattle.arithmetic.proofs.Magnitude.{within_bound, bound→le}
use Rattle.detector.specs.Taps.{phase0, phase1, phase2, phase3, taps}
use Rattle.detector.specs.Oversample.{remembered, shifted, sum_from, sum_of, sums_of, larger, largest_from, largest_of, detected}
use Rattle.detector.specs.Run.{pushes_of}
use Rattle.detector.specs.Level.{share, least_ceiling, level_of, height_of, all_within, lies_within, all_below, magnitudes, StaysBelow}
use Rattle.detector.proofs.Store.{shifted_length, push_shifts}

-- ---- the taps
-- a tap's magnitude in 1024ths, rounded up
abbrev grains : Float → ℕ
grains t = num t * 1024 / den t + 1

abbrev grains_of : List Float → ℕ
grains_of [] = 0
grains_of (t ∷ ts) = grains t + grains_of ts

abbrev all_finite : List Float → Bool
all_finite [] = true
all_finite (t ∷ ts) = finite t && all_finite ts

-- every phase of a table is finite and has at most 1841 grains
abbrev pub small : List (List Float) → Bool
small [] = true
small (phase ∷ phases) = (all_finite phase && leb (grains_of phase) 1841) && small phases

pub taps_small : small taps ≡ true
unfolding taps phase0 phase1 phase2 phase3 of_bits
taps_small = refl

of_true : (b : Bool) → b ≡ true → T b
of_true true h = tt
of_true false h = clash false h refl

tap_bound : (t : Float) → finite t ≡ true → Bound (grains t) 1024 t
tap_bound t h = record {
  known = of_true (finite t) h;
  most = let k = lt-div-mul-add {a = num t * 1024} {b = den t} (den_pos t) in omega (arith, add-mul (num t * 1024 / den t) 1 (den t));
}

-- ---- a phase's sum, for samples within −m and m, m being at most l parts
wider : {a b c : ℕ} (x : Float) → a ≤ c → Bound a b x → Bound c b x
wider {a} {b} {c} x h p = record { known = p.known; most = le_trans p.most (mul-le-mul_right (den x) h) }

module _ (m : Float) (s : sign_of m ≡ false) (l : ℕ) (p : Bound l (2 ^ 42) m) where
  sum_bounded : (acc : Float) (n : ℕ) (ts ds : List Float) → all_finite ts ≡ true → all_within m ds ≡ true → n + grains_of ts * l < 2 ^ 53 → Bound n (2 ^ 52) acc
      → Bound (n + grains_of ts * l) (2 ^ 52) (sum_from acc ts ds)
  unfolding sum_from all_within
  sum_bounded acc n [] ds f q r h = wider acc (omega arith) h
  sum_bounded acc n (t ∷ ts) [] f q r h = wider acc (omega arith) h
  sum_bounded acc n (t ∷ ts) (d ∷ ds) f q r h =
      let f' = and-true (finite t) (all_finite ts) f in
      let q' = and-true (within (neg m) m d) (all_within m ds) q in
      let g = grains t in
      let e : n + g * l + grains_of ts * l ≡ n + (g + grains_of ts) * l = omega (arith, add-mul g (grains_of ts) l) in
      let k : g * l < 2 ^ 53 = omega arith in
      let product = mul_bound {a = g} {b = 1024} {c = l} {d = 2 ^ 42} {n = g * l} {k = 2 ^ 52} (exact (g * l) 52 k (omega arith)) (lit< tt) (lit< tt) (le_refl (g * l * 2 ^ 52))
      t d (tap_bound t f'.0) (within_bound m d s p q'.0) in
      let next = add_bound {a = n} {b = 2 ^ 52} {c = g * l} {d = 2 ^ 52} {n = n + g * l} {k = 2 ^ 52} (exact (n + g * l) 52 (omega arith) (omega arith)) (lit< tt) (lit< tt) (omega arith)
      acc (mul binary64 t d) h product in
      subst (λ (z : ℕ). Bound z (2 ^ 52) (sum_from (add binary64 acc (mul binary64 t d)) ts ds)) e
      (sum_bounded (add binary64 acc (mul binary64 t d)) (n + g * l) ts ds f'.1 q'.1 (rw e r) next)

-- ---- the larger of two, and part of a list
picked : (p s z : Float) → le p z ≡ true → le (abs_of s) z ≡ true → le (larger p s) z ≡ true
unfolding larger
picked p s z h k = go (lt p (abs_of s))
  where
    go : (b : Bool) → le (cond b (abs_of s) p) z ≡ true
    go true = k
    go false = h

take_within : (m : Float) (n : ℕ) (xs : List Float) → all_within m xs ≡ true → all_within m (take n xs) ≡ true
unfolding all_within
take_within m zero xs h = refl
take_within m (suc n) [] h = refl
take_within m (suc n) (x ∷ xs) h =
    let k = and-true (within (neg m) m x) (all_within m xs) h in
    rw k.0 (take_within m n xs k.1)

-- ---- a ceiling from 2 to the −13 to 1, and its level
-- the ceiling's whole parts of 2 to the −32, and the level's parts of 2 to the −42, at most
abbrev parts : ℕ → ℤ → ℕ
parts n d = n * up d * 2 ^ 32 / down d

abbrev level_parts : ℕ → ℤ → ℕ
level_parts n d = 564 * (parts n d + 1)

abbrev level_at : ℕ → ℤ → Float
level_at n d = mul binary64 (fin false n d) share

share_bound : Bound 564 1024 share
unfolding of_bits
share_bound = record { known = tt; most = lit≤ tt }

plus_product : (m : ℕ) (e : ℤ) (n : ℕ) (d : ℤ) → sign_of (mul binary64 (fin false m e) (fin false n d)) ≡ false
unfolding mul
plus_product m e n d = sign_round binary64 false (m * up e * (n * up d)) (down e * down d)

-- what is at most k parts, by fractions: a / (2 ^ 32 * b) ≤ k / 2 ^ 32 ≤ x / e
below : (a b x k e c : ℕ) → a ≤ k * b → k * e ≤ x * 2 ^ 32 → c ≡ 2 ^ 32 * b → a * e ≤ x * c
below a b x k e c h p q =
    let u = simp (mul_assoc, mul_comm) at (mul-le-mul_right e h) in
    let v = simp (mul_assoc, mul_comm, mul_left_comm) at (mul-le-mul_right b p) in
    rw q (simp (mul_comm, mul_left_comm) (omega arith))

-- ---- samples within −m and m, m being at most l parts: they and their answers are at most a height
module _ (m : Float) (s : sign_of m ≡ false) (l : ℕ) (p : Bound l (2 ^ 42) m) (n : ℕ) (d : ℤ) (room : 1841 * l < 2 ^ 53) (high : l * down d ≤ n * up d * 2 ^ 42) (higher : 1841 * l * down d ≤ n * up d * 2 ^ 52) where
  -- a sample
  sample_below : (x : Float) → within (neg m) m x ≡ true → le (abs_of x) (fin false n d) ≡ true
  sample_below x h = bound→le x n d (lit< tt) (within_bound m x s p h) high

  kept : (x : Float) → within (neg m) m x ≡ true → finite_or_zero x ≡ x
  kept x h = sanitized_same x (within_bound m x s p h).known

  above_zero : le Number.zero (fin false n d) ≡ true
  above_zero = numbers→le Number.zero (fin false n d) tt tt (omega arith)

  -- a phase's sum
  sum_below : (phase ds : List Float) → all_finite phase ≡ true → grains_of phase ≤ 1841 → all_within m ds ≡ true → le (abs_of (sum_of phase ds)) (fin false n d) ≡ true
  unfolding sum_of
  sum_below phase ds f g h =
      let q : grains_of phase * l ≤ 1841 * l = mul-le-mul_right l g in
      bound→le (sum_from Number.zero phase ds) n d (lit< tt)
      (wider (sum_from Number.zero phase ds) (omega arith) (sum_bounded m s l p Number.zero 0 phase ds f h (omega arith) (record { known = tt; most = omega arith }))) higher

  -- an answer, and a run's
  answer_below : (phases : List (List Float)) → small phases ≡ true → (ds : List Float) → all_within m ds ≡ true → (q : Float) → le q (fin false n d) ≡ true
      → le (largest_from q (sums_of phases ds)) (fin false n d) ≡ true
  unfolding largest_from sums_of
  answer_below [] g ds h q k = k
  answer_below (phase ∷ phases) g ds h q k =
      let g0 = and-true (all_finite phase && leb (grains_of phase) 1841) (small phases) g in
      let g1 = and-true (all_finite phase) (leb (grains_of phase) 1841) g0.0 in
      answer_below phases g0.1 ds h (larger q (sum_of phase ds))
      (picked q (sum_of phase ds) (fin false n d) k (sum_below phase ds g1.0 (leb-true (grains_of phase) 1841 g1.1) h))

  answers_below : (store run : List Float) → length store ≡ remembered → all_within m store ≡ true → all_within m run ≡ true → all_below (fin false n d) (pushes_of taps store run).peaks ≡ true
  unfolding all_within all_below pushes_of detected shifted largest_of
  answers_below store [] e q h = refl
  answers_below store (x ∷ xs) e q h =
      let k = and-true (within (neg m) m x) (all_within m xs) h in
      let w : all_within m (shifted store x) ≡ true = take_within m remembered (finite_or_zero x ∷ store) (rw (kept x k.0, k.0) q) in
      rw (push_shifts taps store x e, answer_below taps taps_small (shifted store x) w Number.zero above_zero) (answers_below (shifted store x) xs (shifted_length store x e) w k.1)

  magnitudes_below : (run : List Float) → all_within m run ≡ true → all_below (fin false n d) (magnitudes run) ≡ true
  unfolding all_within all_below magnitudes
  magnitudes_below [] h = refl
  magnitudes_below (x ∷ xs) h =
      let k = and-true (within (neg m) m x) (all_within m xs) h in
      rw (kept x k.0, sample_below x k.0) (magnitudes_below xs k.1)

  below_both : (store samples : List Float) → length store ≡ remembered → all_within m store ≡ true → all_within m samples ≡ true → StaysBelow (fin false n d) store samples
  below_both store samples e p q = record { twelve = e; heard = magnitudes_below samples q; answers = answers_below store samples e p q }

-- ---- a ceiling from 2 to the −13 to 1
module _ (n : ℕ) (d : ℤ) (lo : down d ≤ n * up d * 2 ^ 13) (hi : n * up d ≤ down d) where
  at_least : 2 ^ 19 ≤ parts n d
  at_least = (le-div_iff_mul-le (down_pos d)).1 (omega arith)

  at_most : parts n d < 2 ^ 32 + 1
  at_most = (div-lt_iff_lt-mul (down_pos d)).1 (omega (arith, down_pos d))

  ceiling_bound : Bound (parts n d + 1) (2 ^ 32) (fin false n d)
  ceiling_bound = record {
    known = tt;
    most = let q = lt-div-mul-add {a = n * up d * 2 ^ 32} {b = down d} (down_pos d) in omega (arith, add-mul (parts n d) 1 (down d));
  }

  level_bound : Bound (level_parts n d) (2 ^ 42) (level_at n d)
  level_bound =
      mul_bound {a = parts n d + 1} {b = 2 ^ 32} {c = 564} {d = 1024} {n = level_parts n d} {k = 2 ^ 42} (exact (level_parts n d) 42 (omega (arith, at_most)) (omega arith)) (lit< tt) (lit< tt) (omega arith)
      (fin false n d) share ceiling_bound share_bound

  level_sign : sign_of (level_at n d) ≡ false
  unfolding of_bits
  level_sign = plus_product n d 2476979795053773 (negsuc 51)

  level_below_lem : (store samples : List Float) → length store ≡ remembered → all_within (level_at n d) store ≡ true → all_within (level_at n d) samples ≡ true → StaysBelow (fin false n d) store samples
  level_below_lem store samples e p q =
      let l = level_parts n d in
      let whole = div-mul-le_self (n * up d * 2 ^ 32) (down d) in
      below_both (level_at n d) level_sign l level_bound n d (omega (arith, at_most))
      (below l 1024 (n * up d) (parts n d) (down d) (2 ^ 42) (omega (arith, at_least)) whole refl)
      (below (1841 * l) (2 ^ 20) (n * up d) (parts n d) (down d) (2 ^ 52) (omega (arith, at_least)) whole refl) store samples e p q

-- ---- silence
silence_below : (store samples : List Float) → length store ≡ remembered → all_within Number.zero store ≡ true → all_within Number.zero samples ≡ true → StaysBelow Number.zero store samples
silence_below store samples e p q = below_both Number.zero refl 0 (record { known = tt; most = lit≤ tt }) 0 (pos 0) (lit< tt) (lit≤ tt) (lit≤ tt) store samples e p q

-- ---- samples within the level of a ceiling stay at most its height
low_numbers : (n : ℕ) (d : ℤ) → le least_ceiling (fin false n d) ≡ true → down d ≤ n * up d * 2 ^ 13
unfolding of_bits
low_numbers n d h = omega (arith, le→numbers (fin false 1 (negsuc 12)) (fin false n d) tt tt h)

not_negative : (n : ℕ) (d : ℤ) → le least_ceiling (fin true n d) ≡ true → ⊥
unfolding of_bits
not_negative n d h = omega (arith, le→numbers (fin false 1 (negsuc 12)) (fin true n d) tt tt h, down_pos d)

least_finite : T (finite least_ceiling)
unfolding of_bits
least_finite = tt

levelled : (ceiling : Float) (store samples : List Float) → within least_ceiling Number.one ceiling ≡ true → length store ≡ remembered
    → all_within (mul binary64 ceiling share) store ≡ true → all_within (mul binary64 ceiling share) samples ≡ true → StaysBelow ceiling store samples
levelled ceiling store samples h e p q = go ceiling (within→finite least_ceiling Number.one least_finite tt ceiling h) (and-true (le least_ceiling ceiling) (le ceiling Number.one) h) p q
  where
    go : (ceiling : Float) → T (finite ceiling) → (le least_ceiling ceiling ≡ true) × (le ceiling Number.one ≡ true)
        → all_within (mul binary64 ceiling share) store ≡ true → all_within (mul binary64 ceiling share) samples ≡ true → StaysBelow ceiling store samples
    go nan f k p q = absurd f
    go (inf s) f k p q = absurd f
    go (fin true n d) f k p q = absurd (not_negative n d k.0)
    go (fin false n d) f k p q =
        let lo = low_numbers n d k.0 in
        let hi : n * up d ≤ down d = omega (arith, le→numbers (fin false n d) Number.one tt tt k.1) in
        level_below_lem n d lo hi store samples e p q

pub stays : (ceiling : Float) (store samples : List Float) → lies_within store samples (level_of ceiling) ≡ true → StaysBelow (height_of ceiling) store samples
unfolding lies_within level_of height_of
stays ceiling store samples h = go (within least_ceiling Number.one ceiling) refl h
  where
    go : (b : Bool) → within least_ceiling Number.one ceiling ≡ b
        → (let m = cond b (mul binary64 ceiling share) Number.zero in eqb (length store) remembered && (all_within m store && all_within m samples) ≡ true)
        → StaysBelow (cond b ceiling Number.zero) store samples
    go b e h =
        let m = cond b (mul binary64 ceiling share) Number.zero in
        let h0 = and-true (eqb (length store) remembered) (all_within m store && all_within m samples) h in
        let h1 = and-true (all_within m store) (all_within m samples) h0.1 in
        at_level b e (eqb-true (length store) remembered h0.0) h1.0 h1.1
      where
        at_level : (b : Bool) → within least_ceiling Number.one ceiling ≡ b → length store ≡ remembered → all_within (cond b (mul binary64 ceiling share) Number.zero) store ≡ true
            → all_within (cond b (mul binary64 ceiling share) Number.zero) samples ≡ true → StaysBelow (cond b ceiling Number.zero) store samples
        at_level true e n p q = levelled ceiling store samples e n p q
        at_level false e n p q = silence_below store samples n p q

-- ---- `lies_within`
pub lies_in : (store samples : List Float) (level : Float) (a b : Bool) → length store ≡ remembered → a ≡ all_within level store → b ≡ all_within level samples → b ≡ true
    → a ≡ lies_within store samples level
unfolding lies_within
lies_in store samples level a b n e f h = rw (eq-eqb (length store) remembered n, ← e, ← f, h) (and_last a)
  where
    and_last : (a : Bool) → a ≡ (a && true)
    and_last true = refl
    and_last false = refl

pub lies_loud : (store samples : List Float) (level : Float) (b : Bool) → length store ≡ remembered → b ≡ all_within level samples → b ≡ false → false ≡ lies_within store samples level
unfolding lies_within
lies_loud store samples level b n f h = rw (eq-eqb (length store) remembered n, ← f, h) (none_last (all_within level store))
  where
    none_last : (a : Bool) → false ≡ (a && false)
    none_last true = refl
    none_last false = refl

pub lies_out : (store samples : List Float) (level : Float) → (length store ≡ remembered → ⊥) → false ≡ lies_within store samples level
unfolding lies_within
lies_out store samples level n = rw (ne_eqb (length store) remembered n) refl

-- ---- `level_below`
pub has_level : (ceiling : Float) → le least_ceiling ceiling && le ceiling Number.one ≡ true → mul binary64 ceiling share ≡ level_of ceiling
unfolding level_of
has_level ceiling h = rw h refl

pub no_level : (ceiling : Float) → le least_ceiling ceiling && le ceiling Number.one ≡ false → Number.zero ≡ level_of ceiling
unfolding level_of
no_level ceiling h = rw h refl
