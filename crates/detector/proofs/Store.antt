-- What a store holds: the newest twelve samples that were pushed.
use mathlib.Core.Path.{◌≡◌, refl, sym, ap, ◌∙◌}
use mathlib.Core.Bool.{Bool, true, false}
use mathlib.Core.List.{List, [], ◌∷◌, ◌++◌, map}
use Prim.Native.Nat.{ℕ, suc, ◌≤◌, min}
use native.Mathlib.Nat.{min-eq_left}
use native.Mathlib.Omega.{arith}
use lib.Dec.{eqb}
use lib.ListN.{length, length-append, length-take}
use lib.Seq.{take_all, take-take}
use lib.Ieee.{Float}
use borrow.Author.Tests.{eq-eqb, eqb-true, le-leb}
use Rattle.arithmetic.specs.Sanitize.{finite_or_zero}
use Rattle.detector.specs.Oversample.{remembered, shifted, detected, peak_abs_of}
use Rattle.detector.specs.Run.{run_length, pushes_of, peaks_abs_of}
use Rattle.detector.specs.History.{latest}

-- ---- one push

pub shifted_length : (store : List Float) (x : Float) → length store ≡ remembered → length (shifted store x) ≡ remembered
unfolding shifted
shifted_length store x n = length-take remembered (finite_or_zero x ∷ store) ∙ ap (λ (k : ℕ). min remembered (suc k)) n

-- ---- what a push leaves and answers, by any table
module _ (phases : List (List Float)) (store : List Float) (x : Float) where
  pub push_shifts : length store ≡ remembered → peak_abs_of phases store x ≡ detected phases (shifted store x)
  unfolding peak_abs_of
  push_shifts n = rw (eq-eqb (length store) remembered n)

  pub push_length : length (peak_abs_of phases store x).store ≡ length store
  unfolding peak_abs_of detected
  push_length = go (eqb (length store) remembered) refl
    where
      go : (b : Bool) → eqb (length store) remembered ≡ b → length (peak_abs_of phases store x).store ≡ length store
      go true e = let n = eqb-true (length store) remembered e in rw e (shifted_length store x n ∙ sym n)
      go false e = rw e

-- ---- many pushes
module _ (old : List Float) where
  pub latest_none : length old ≡ remembered → latest old [] ≡ old
  unfolding latest
  latest_none n = take_all remembered old (omega arith)

  -- one more sample
  pub latest_more : (samples : List Float) (x : Float) → shifted (latest old samples) x ≡ latest old (x ∷ samples)
  unfolding shifted latest
  latest_more samples x = ap (λ (l : List Float). finite_or_zero x ∷ l) (take-take 11 remembered (map finite_or_zero samples ++ old) (omega arith))

  pub latest_length : (samples : List Float) → length old ≡ remembered → length (latest old samples) ≡ remembered
  unfolding latest
  latest_length samples n =
      length-take remembered (map finite_or_zero samples ++ old)
      ∙ min-eq_left (let k = length-append (map finite_or_zero samples) old in omega arith)

  -- a push onto the store that the samples tell gives what the samples with the new one tell
  pub push_latest : (phases : List (List Float)) (samples : List Float) (x : Float) → length old ≡ remembered → peak_abs_of phases (latest old samples) x ≡ detected phases (latest old (x ∷ samples))
  push_latest phases samples x n = push_shifts phases (latest old samples) x (latest_length samples n) ∙ ap (detected phases) (latest_more samples x)

-- ---- a run is its single pushes
module _ (phases : List (List Float)) where
  pub run_pushes : (store run old : List Float) → length run ≤ run_length → length store ≡ remembered → length old ≡ length run → peaks_abs_of phases store run old ≡ pushes_of phases store run
  unfolding peaks_abs_of
  run_pushes store run old p n m = rw (le-leb (length run) run_length p, eq-eqb (length store) remembered n, eq-eqb (length old) (length run) m)

  pub stores_length : (store run : List Float) → length (pushes_of phases store run).store ≡ length store
  unfolding pushes_of
  stores_length store [] = refl
  stores_length store (x ∷ xs) = stores_length (peak_abs_of phases store x).store xs ∙ push_length phases store x

  pub pushes_length : (store run : List Float) → length (pushes_of phases store run).peaks ≡ length run
  unfolding pushes_of
  pushes_length store [] = refl
  pushes_length store (x ∷ xs) = ap suc (pushes_length (peak_abs_of phases store x).store xs)
