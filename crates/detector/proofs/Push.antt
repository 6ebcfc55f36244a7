-- What the calls of a push add up to.
use mathlib.Core.Path.{◌≡◌, refl, ap, ◌∙◌}
use mathlib.Core.Bool.{cond}
use mathlib.Core.List.{List, [], ◌∷◌, ◌++◌, reverse, reverse_aux, reverse_aux-eq}
use Prim.Native.Nat.{ℕ, ◌+◌, ◌*◌, ◌-◌, ◌<◌, ◌≤◌}
use native.Mathlib.Omega.{arith}
use lib.Dec.{lit≤}
use lib.ListN.{length, get_or, take, drop, set, replicate, length-append}
use lib.Seq.{length-take-le}
use lib.Ieee.{Float, nan, eq}
use Rattle.std.specs.Prelude.{Option, Some, None, position}
use Rattle.std.specs.List.{position_from}
use Rattle.std.proofs.lemmas.Iterator.Adapters.{position_from-zero}
use borrow.Author.Tests.{eq-eqb, ne_eqb}
use Rattle.arithmetic.specs.Number.{zero, abs_of}
use Rattle.arithmetic.specs.Sanitize.{finite_or_zero}
use Rattle.arithmetic.proofs.InTurn.{split, none_left}
use Rattle.detector.specs.Taps.{taps}
use Rattle.detector.specs.Oversample.{remembered, shifted, sums_of, larger, largest_from, largest_of, first_at, phase_of, pushed_at, detected, peak_abs_of}
use Rattle.detector.specs.Sums.{factor, added, sums_on, sums_by, samples_at}
use Rattle.detector.proofs.Sums.{added_take, woven, table_sums}

-- the largest of the peak so far and of the sums that are left
module _ (sums : List Float) (i : ℕ) (peak : Float) where
  pub largest_more : (next : Float) → i < length sums → next ≡ larger peak (get_or sums i nan) → largest_from next (drop (i + 1) sums) ≡ largest_from peak (drop i sums)
  unfolding largest_from
  largest_more next h e = rw (split sums i h, e)

  pub largest_done : length sums ≤ i → peak ≡ largest_from peak (drop i sums)
  unfolding largest_from
  largest_done h = rw (none_left sums i h)

-- the sums over the newest sample and the store behind it
pub newest_and_store : (table store first last : List Float) (x : Float) → first ≡ added (replicate factor zero) (take factor (drop 0 table)) x
    → last ≡ sums_on (drop (factor * 1) table) first (take (remembered - 1) store) → last ≡ sums_by table (take remembered (x ∷ store))
unfolding sums_by sums_on
newest_and_store table store first last x e f = rw (f, e, added_take (replicate factor zero) table factor x (lit≤ tt))

-- what sums tell, from the calls and of any other name for them
pub sums_tell : (sums : List Float) (r : Float) (q : Option ℕ) → r ≡ largest_of sums → q ≡ cond (eq r zero) None (first_at r 0 sums) → (r ≡ largest_of sums) × (q ≡ phase_of sums)
unfolding phase_of
sums_tell sums r q e f = (e, f ∙ rw e refl)

pub tell_same : (sums all : List Float) (r : Float) (q : Option ℕ) → sums ≡ all → (r ≡ largest_of sums) × (q ≡ phase_of sums) → (r ≡ largest_of all) × (q ≡ phase_of all)
tell_same sums all r q e t = (t.0 ∙ ap largest_of e, t.1 ∙ ap phase_of e)

-- ---- the first phase that has the peak
phase_from : (sums : List Float) (peak : Float) (i : ℕ) → position_from (λ (s : Float). eq (abs_of s) peak) i sums ≡ first_at peak i sums
unfolding first_at
phase_from [] peak i = refl
phase_from (s ∷ ss) peak i = ap (cond (eq (abs_of s) peak) (Some i)) (phase_from ss peak (i + 1))

pub phase_found : (sums : List Float) (peak : Float) → position (λ (s : Float). eq (abs_of s) peak) sums ≡ first_at peak 0 sums
phase_found sums peak = position_from-zero (λ (s : Float). eq (abs_of s) peak) sums ∙ phase_from sums peak 0

-- a table that is the phases woven
pub by_table : (table store : List Float) (x : Float) → table ≡ woven remembered taps → length store ≡ remembered → sums_by table (take remembered (x ∷ store)) ≡ sums_of taps (take remembered (x ∷ store))
by_table table store x t n = rw t (table_sums (take remembered (x ∷ store)) (length-take-le remembered (x ∷ store) (omega arith)))

pub run_by_table : (table store run : List Float) (i : ℕ) → table ≡ woven remembered taps → length store ≡ remembered → sums_by table (samples_at store run i) ≡ sums_of taps (samples_at store run i)
run_by_table table store run i t n =
    rw t (table_sums (samples_at store run i) (length-take-le remembered (reverse_aux (take (i + 1) run) store) (rw (reverse_aux-eq (take (i + 1) run) store) (omega (arith, length-append (reverse (take (i + 1) run)) store)))))

-- moved down by one, and the newest put first
shifted_in : (store : List Float) (x v : Float) → length store ≡ remembered → v ≡ finite_or_zero x → set (take 1 store ++ take 11 store) 0 v ≡ shifted store x
unfolding shifted
shifted_in [] x v n e = absurd (omega (arith, n))
shifted_in (y ∷ ys) x v n e = rw e

module _ (phases : List (List Float)) (store : List Float) (x : Float) where
  pub pushed : (moved : List Float) (v p : Float) (q : Option ℕ) → length store ≡ remembered → moved ≡ take 1 store ++ take 11 store → v ≡ finite_or_zero x
      → p ≡ largest_of (sums_of phases (take remembered (v ∷ store))) → q ≡ phase_of (sums_of phases (take remembered (v ∷ store))) → pushed_at p q (set moved 0 v) ≡ peak_abs_of phases store x
  unfolding peak_abs_of detected shifted
  pushed moved v p q n e f g h = rw (eq-eqb (length store) remembered n, g, h, e, shifted_in store x v n f, f)

  pub untouched : (length store ≡ remembered → ⊥) → pushed_at zero None store ≡ peak_abs_of phases store x
  unfolding peak_abs_of
  untouched n = rw (ne_eqb (length store) remembered n)
