-- The lent stores, in document 01's order.
use Rattle.std.specs.Prelude.{ℕ, ◌+◌, ◌*◌, Bool, ◌&&◌, List, eqb, length, replicate, Float}
use Rattle.arithmetic.specs.Number
use Rattle.arithmetic.specs.Number.{one}
use Rattle.settings.specs.Derived.{row_of}
use Rattle.frame.specs.declared.stores.Lent.{Lent}
use Rattle.limiter.specs.declared.stores.StoreLengths.{StoreLengths}

pub record Stores : Type 0 where
  pub delay : List Float
  pub marks : List ℕ
  pub minima : List Float
  pub weights : List Float
  pub row : List Float
  pub detector : List Float

abbrev pub stores_at : List Float → List ℕ → List Float → List Float → List Float → List Float → Stores
stores_at delay marks minima weights row detector = record { delay = delay; marks = marks; minima = minima; weights = weights; row = row; detector = detector }

-- read off what a host lends
abbrev pub stores_in : Lent → Stores
stores_in l = stores_at l.delay.now l.marks.now l.minima.now l.weights.now l.row.now l.detector.now

-- the stores' lengths, in their order
abbrev pub lengths_of : Stores → StoreLengths
lengths_of s = record { delay = length s.delay; marks = length s.marks; minima = length s.minima; weights = length s.weights; row = length s.row; detector = length s.detector }

-- 16: delay channels × look; marks look + 1; minima look + 1; weights L; attack row L; detector channels × 12
abbrev pub lengths_fit : ℕ → ℕ → StoreLengths → Bool
lengths_fit channels look l =
    eqb l.delay (channels * look) && eqb l.marks (look + 1) && eqb l.minima (look + 1) && eqb l.weights (row_of look) && eqb l.row (row_of look)
    && eqb l.detector (channels * 12)

-- success fills delay, marks, minima and detector with 0 and the row with 1.0; the weights as they are (which ones a finished setup leaves: `filled_for`, Prepare.antt)
abbrev pub filled : Stores → Stores
filled s =
    stores_at (replicate (length s.delay) Number.zero) (replicate (length s.marks) 0) (replicate (length s.minima) Number.zero) s.weights
    (replicate (length s.row) one) (replicate (length s.detector) Number.zero)

-- the same stores with other weights
abbrev pub with_weights : List Float → Stores → Stores
with_weights weights s = stores_at s.delay s.marks s.minima weights s.row s.detector

-- reset leaves marks and minima as they are
abbrev pub cleared : Stores → Stores
cleared s =
    stores_at (replicate (length s.delay) Number.zero) s.marks s.minima s.weights (replicate (length s.row) one) (replicate (length s.detector) Number.zero)
