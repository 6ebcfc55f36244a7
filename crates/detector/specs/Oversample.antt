-- Module 3 of document 01, `oversample.rs`: `peak_abs`, the detector. It is stated for any table of taps, a list of phases with the tap of the newest sample first; the store is one channel's remembered samples, newest first.
use Rattle.std.specs.Prelude.{ℕ, ◌+◌, cond, List, [], ◌∷◌, Option, Some, None, eqb, length, take, Float}
use Rattle.std.specs.Float.{binary64}
use Rattle.std.specs.Float.Ieee.{add, mul, lt, eq}
use Rattle.arithmetic.specs.Number.{zero, abs_of}
use Rattle.arithmetic.specs.Sanitize.{finite_or_zero}

-- how many samples a channel's store remembers
abbrev pub remembered : ℕ
remembered = 12

-- "Shift the 12 remembered samples, put the sanitized newest first"
unfoldable pub shifted : List Float → Float → List Float
shifted store x = take remembered (finite_or_zero x ∷ store)

-- "each product is rounded before it is added", in the order of the taps
unfoldable pub sum_from : Float → List Float → List Float → Float
sum_from acc [] ds = acc
sum_from acc (t ∷ ts) [] = acc
sum_from acc (t ∷ ts) (d ∷ ds) = sum_from (add binary64 acc (mul binary64 t d)) ts ds

-- a phase's sum: "acc starts at 0.0"
unfoldable pub sum_of : List Float → List Float → Float
sum_of phase samples = sum_from zero phase samples

-- the sum of each phase of the table
unfoldable pub sums_of : List (List Float) → List Float → List Float
sums_of [] samples = []
sums_of (phase ∷ phases) samples = sum_of phase samples ∷ sums_of phases samples

-- the larger of the peak so far and a sum's magnitude: "a NaN sum never wins", an infinite one does
unfoldable pub larger : Float → Float → Float
larger peak s = cond (lt peak (abs_of s)) (abs_of s) peak

unfoldable pub largest_from : Float → List Float → Float
largest_from peak [] = peak
largest_from peak (s ∷ ss) = largest_from (larger peak s) ss

-- "the largest magnitude" of the sums, 0.0 where none is above it
unfoldable pub largest_of : List Float → Float
largest_of sums = largest_from zero sums

-- the first of these sums, counted from p, whose magnitude is the peak; a NaN's is not
unfoldable pub first_at : Float → ℕ → List Float → Option ℕ
first_at peak p [] = None
first_at peak p (s ∷ ss) = cond (eq (abs_of s) peak) (Some p) (first_at peak (p + 1) ss)

-- Change 5: "the first phase (0 to 3) whose magnitude is the largest, or none where the peak is 0.0"
unfoldable pub phase_of : List Float → Option ℕ
phase_of sums = cond (eq (largest_of sums) zero) None (first_at (largest_of sums) 0 sums)

-- what a push gives: its answer, peak and phase, and the store afterwards
pub record Pushed : Type 0 where
  pub peak : Float
  pub phase : Option ℕ
  pub store : List Float

abbrev pub pushed_at : Float → Option ℕ → List Float → Pushed
pushed_at peak phase store = record { peak = peak; phase = phase; store = store }

-- the answer for the samples that a store now holds
unfoldable pub detected : List (List Float) → List Float → Pushed
detected phases store = pushed_at (largest_of (sums_of phases store)) (phase_of (sums_of phases store)) store

-- One push. A store that does not hold 12 samples is left alone, and the answer is 0.0, which has no phase.
unfoldable pub peak_abs_of : List (List Float) → List Float → Float → Pushed
peak_abs_of phases store x = cond (eqb (length store) remembered) (detected phases (shifted store x)) (pushed_at zero None store)
