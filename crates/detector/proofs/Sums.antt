-- Sums side by side: a sample a turn; one answer beside another; and that the sums of an answer are the phases' own.
use mathlib.Core.Path.{◌≡◌, refl, sym, ap, ◌∙◌, subst}
use mathlib.Core.List.{List, [], ◌∷◌, ◌++◌}
use Prim.Native.Nat.{ℕ, zero, suc, ◌+◌, ◌*◌, ◌<◌, ◌≤◌}
use native.Mathlib.Numerals.{add-one}
use native.Mathlib.Omega.{arith}
use lib.Dec.{lit≤}
use native.Mathlib.Nat.{add_comm}
use lib.ListN.{length, get_or, take, drop, set, replicate, length-drop, drop_of_length-le, take-append-drop}
use lib.Seq.{drop-cons, drop-drop, take-nil, drop-nil, take_at, drop_at}
use lib.Ieee.{Float, nan, binary64, add, mul}
use Rattle.arithmetic.specs.Number
use Rattle.detector.specs.Taps.{phase0, phase1, phase2, phase3, taps}
use Rattle.detector.specs.Oversample.{remembered, sum_from, sum_of, sums_of}
use Rattle.detector.specs.Sums.{factor, added, sums_on, sums_by}
use Rattle.detector.proofs.Turns.{joined, joined_all, front_more, front_reads}

-- ---- one sample
added_length : (ss ts : List Float) (x : Float) → length (added ss ts x) ≡ length ss
unfolding added
added_length [] ts x = refl
added_length (s ∷ ss) [] x = refl
added_length (s ∷ ss) (t ∷ ts) x = ap suc (added_length ss ts x)

added_at : (ss ts : List Float) (x : Float) (p : ℕ) (d : Float) → p < length ss → p < length ts → get_or (added ss ts x) p d ≡ add binary64 (get_or ss p d) (mul binary64 (get_or ts p d) x)
unfolding added
added_at [] ts x p d h k = absurd (omega arith)
added_at (s ∷ ss) [] x p d h k = absurd (omega arith)
added_at (s ∷ ss) (t ∷ ts) x zero d h k = refl
added_at (s ∷ ss) (t ∷ ts) x (suc p) d h k = added_at ss ts x p d (omega arith) (omega arith)

added_nil : (ss : List Float) (x : Float) → added ss [] x ≡ ss
unfolding added
added_nil [] x = refl
added_nil (s ∷ ss) x = refl

-- sums beside others
added_append : (a b ts : List Float) (x : Float) → added (a ++ b) ts x ≡ added a ts x ++ added b (drop (length a) ts) x
unfolding added
added_append [] b ts x = refl
added_append (s ∷ a) b [] x = rw (drop-nil {A = Float} (length (s ∷ a)), added_nil b x)
added_append (s ∷ a) b (t ∷ ts) x = rw (added_append a b ts x)

-- taps without a sum, and sums without a tap
pub added_take : (ss ts : List Float) (n : ℕ) (x : Float) → length ss ≤ n → added ss (take n ts) x ≡ added ss ts x
unfolding added
added_take [] ts n x h = refl
added_take (s ∷ ss) [] n x h = rw (take-nil {A = Float} n)
added_take (s ∷ ss) (t ∷ ts) zero x h = absurd (omega (arith, h))
added_take (s ∷ ss) (t ∷ ts) (suc n) x h = rw (added_take ss ts n x (omega (arith, h)))

pub added_part : (ss ts : List Float) (n : ℕ) (x : Float) → length ts ≤ n → added (take n ss) ts x ++ drop n ss ≡ added ss ts x
unfolding added
added_part ss [] n x h = rw (added_nil (take n ss) x, added_nil ss x) (take-append-drop n ss)
added_part [] (t ∷ ts) n x h = rw (take-nil {A = Float} n, drop-nil {A = Float} n)
added_part (s ∷ ss) (t ∷ ts) zero x h = absurd (omega (arith, h))
added_part (s ∷ ss) (t ∷ ts) (suc n) x h = rw (added_part ss ts n x (omega (arith, h)))

-- a sum a turn
module _ (sums taps : List Float) (x : Float) (n : length taps ≡ length sums) where
  pub added_more : (l : List Float) (p : ℕ) (d : Float) → p < length sums → l ≡ joined (added sums taps x) sums p
      → set l p (add binary64 (get_or l p d) (mul binary64 (get_or taps p d) x)) ≡ joined (added sums taps x) sums (p + 1)
  added_more l p d h e =
      let k = added_length sums taps x in
      let old = front_reads (added sums taps x) sums l p d h e (omega arith) in
      front_more (added sums taps x) sums l p d h e (add binary64 (get_or l p d) (mul binary64 (get_or taps p d) x)) (omega arith)
      (rw old (sym (added_at sums taps x p d h (omega arith))))

  pub added_all : (l : List Float) (p : ℕ) → length sums ≤ p → l ≡ joined (added sums taps x) sums p → l ≡ added sums taps x
  added_all l p h e = e ∙ joined_all (added sums taps x) sums p (omega (arith, added_length sums taps x)) h

-- ---- samples in turn
pub sums_length : (ds table sums : List Float) → length (sums_on table sums ds) ≡ length sums
unfolding sums_on
sums_length [] table sums = refl
sums_length (d ∷ ds) table sums = sums_length ds (drop factor table) (added sums table d) ∙ added_length sums table d

-- the next sample is the first of what is left, and its taps are the table's next
pub sums_more : (table sums next ds : List Float) (w k j : ℕ) (x d : Float) → length sums ≤ w → j < length ds → x ≡ get_or ds j d → next ≡ added sums (take w (drop (factor * k) table)) x
    → sums_on (drop (factor * (k + 1)) table) next (drop (j + 1) ds) ≡ sums_on (drop (factor * k) table) sums (drop j ds)
unfolding sums_on
sums_more table sums next ds w k j x d q h e f =
    let g : factor * (k + 1) ≡ factor * k + factor = omega arith in
    rw (drop-cons ds j d h, ← e, f, added_take sums (drop (factor * k) table) w x q, g, ← drop-drop factor (factor * k) table, add-one j)

-- none left
pub sums_none : (table sums ds : List Float) (j : ℕ) → length ds ≤ j → sums ≡ sums_on table sums (drop j ds)
unfolding sums_on
sums_none table sums ds j h = rw (drop_of_length-le ds {i = j} h)

-- two stretches of samples
pub sums_append : (xs ys table sums : List Float) → sums_on (drop (factor * length xs) table) (sums_on table sums xs) ys ≡ sums_on table sums (xs ++ ys)
unfolding sums_on
sums_append [] ys table sums = refl
sums_append (x ∷ xs) ys table sums =
    let g : factor * suc (length xs) ≡ factor + factor * length xs = omega arith in
    rw (g, ← drop-drop (factor * length xs) factor table) (sums_append xs ys (drop factor table) (added sums table x))

-- sums beside others
pub sums_split : (ds a b table : List Float) → sums_on table (a ++ b) ds ≡ sums_on table a ds ++ sums_on (drop (length a) table) b ds
unfolding sums_on
sums_split [] a b table = refl
sums_split (d ∷ ds) a b table =
    rw (added_append a b table d)
    (sums_split ds (added a table d) (added b (drop (length a) table) d) (drop factor table)
    ∙ rw (added_length a table d, drop-drop (length a) factor table, drop-drop factor (length a) table, add_comm factor (length a)))

-- no more samples than there are taps
sums_empty : (ds sums : List Float) → sums_on [] sums ds ≡ sums
unfolding sums_on
sums_empty [] sums = refl
sums_empty (d ∷ ds) sums = rw (added_nil sums d, drop-nil {A = Float} factor) (sums_empty ds sums)

pub sums_enough : (n : ℕ) (ds table sums : List Float) → length table ≤ factor * n → sums_on table sums ds ≡ sums_on table sums (take n ds)
unfolding sums_on
sums_enough zero ds [] sums h = sums_empty ds sums
sums_enough zero ds (t ∷ ts) sums h = absurd (omega (arith, h))
sums_enough (suc n) [] table sums h = refl
sums_enough (suc n) (d ∷ ds) table sums h = sums_enough n ds (drop factor table) (added sums table d) (simp length-drop (omega (arith, h)))

-- ---- four sums are four numbers
pub record Four (l : List Float) : Type 0 where
  pub a : Float
  pub b : Float
  pub c : Float
  pub d : Float
  pub is : l ≡ a ∷ b ∷ c ∷ d ∷ []

pub four_of : (l : List Float) → length l ≡ factor → Four l
four_of (s0 ∷ s1 ∷ s2 ∷ s3 ∷ []) n = record { a = s0; b = s1; c = s2; d = s3; is = refl }
four_of [] n = absurd (omega (arith, n))
four_of (s0 ∷ []) n = absurd (omega (arith, n))
four_of (s0 ∷ s1 ∷ []) n = absurd (omega (arith, n))
four_of (s0 ∷ s1 ∷ s2 ∷ []) n = absurd (omega (arith, n))
four_of (s0 ∷ s1 ∷ s2 ∷ s3 ∷ s4 ∷ ss) n = absurd (omega (arith, n))

-- ---- the phases' own sums
-- the first tap of each phase, and the others
abbrev heads : List (List Float) → List Float
heads [] = []
heads (p ∷ ps) = get_or p 0 nan ∷ heads ps

abbrev tails : List (List Float) → List (List Float)
tails [] = []
tails (p ∷ ps) = drop 1 p ∷ tails ps

-- the first n taps of each phase, those of one sample side by side
abbrev pub woven : ℕ → List (List Float) → List Float
woven zero ps = []
woven (suc n) ps = heads ps ++ woven n (tails ps)

-- each phase has n taps or more
abbrev Long : ℕ → List (List Float) → Type 0
Long n [] = Unit {0}
Long n (p ∷ ps) = (n ≤ length p) × Long n ps

long_tails : (n : ℕ) (ps : List (List Float)) → Long (suc n) ps → Long n (tails ps)
long_tails n [] h = tt
long_tails n (p ∷ ps) h = (simp length-drop (omega (arith, h.0)), long_tails n ps h.1)

-- each phase's sum from where it stands
abbrev each : List Float → List (List Float) → List Float → List Float
each [] ps ds = []
each (s ∷ ss) [] ds = s ∷ ss
each (s ∷ ss) (p ∷ ps) ds = sum_from s p ds ∷ each ss ps ds

sum_nil : (s : Float) (p : List Float) → sum_from s p [] ≡ s
unfolding sum_from
sum_nil s [] = refl
sum_nil s (t ∷ ts) = refl

sum_head : (s x : Float) (p ds : List Float) → 1 ≤ length p → sum_from s p (x ∷ ds) ≡ sum_from (add binary64 s (mul binary64 (get_or p 0 nan) x)) (drop 1 p) ds
unfolding sum_from
sum_head s x [] ds h = absurd (omega arith)
sum_head s x (t ∷ ts) ds h = refl

each_nil : (ss : List Float) (ps : List (List Float)) → each ss ps [] ≡ ss
each_nil [] ps = refl
each_nil (s ∷ ss) [] = refl
each_nil (s ∷ ss) (p ∷ ps) = rw (sum_nil s p) (ap (λ (l : List Float). s ∷ l) (each_nil ss ps))

each_head : (n : ℕ) (ss : List Float) (ps : List (List Float)) (x : Float) (ds : List Float) → Long (suc n) ps → each (added ss (heads ps) x) (tails ps) ds ≡ each ss ps (x ∷ ds)
unfolding added
each_head n [] ps x ds h = refl
each_head n (s ∷ ss) [] x ds h = refl
each_head n (s ∷ ss) (p ∷ ps) x ds h = rw (sum_head s x p ds (omega (arith, h.0)), each_head n ss ps x ds h.1)

heads_length : (ps : List (List Float)) (n : ℕ) → length ps ≡ n → length (heads ps) ≡ n
heads_length [] n h = h
heads_length (p ∷ ps) zero h = absurd (omega (arith, h))
heads_length (p ∷ ps) (suc n) h = ap suc (heads_length ps n (omega (arith, h)))

tails_length : (ps : List (List Float)) (n : ℕ) → length ps ≡ n → length (tails ps) ≡ n
tails_length [] n h = h
tails_length (p ∷ ps) zero h = absurd (omega (arith, h))
tails_length (p ∷ ps) (suc n) h = ap suc (tails_length ps n (omega (arith, h)))

-- the sums of the woven table are the phases' own
woven_sums : (ds ss : List Float) (ps : List (List Float)) → length ss ≡ factor → length ps ≡ factor → Long (length ds) ps → sums_on (woven (length ds) ps) ss ds ≡ each ss ps ds
unfolding sums_on
woven_sums [] ss ps g f h = sym (each_nil ss ps)
woven_sums (x ∷ ds) ss ps g f h =
    let n = heads_length ps factor f in
    let rest = woven (length ds) (tails ps) in
    rw (← added_take ss (heads ps ++ rest) factor x (omega (arith, g)), take_at (heads ps) rest factor n, drop_at (heads ps) rest factor n)
    (woven_sums ds (added ss (heads ps) x) (tails ps) (added_length ss (heads ps) x ∙ g) (tails_length ps factor f) (long_tails (length ds) ps h) ∙ each_head (length ds) ss ps x ds h)

-- the detector's table
pub table_sums : (ds : List Float) → length ds ≡ remembered → sums_by (woven remembered taps) ds ≡ sums_of taps ds
unfolding sums_by sums_of sum_of taps phase0 phase1 phase2 phase3
table_sums ds n =
    subst (λ (k : ℕ). sums_on (woven k taps) (replicate factor Number.zero) ds ≡ each (replicate factor Number.zero) taps ds) n
    (woven_sums ds (replicate factor Number.zero) taps refl refl (rw n (lit≤ tt, (lit≤ tt, (lit≤ tt, (lit≤ tt, tt))))))
