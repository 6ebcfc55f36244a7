-- Gain steps over a run, in passes: the means of a run of floors, and the gains that follow a run of means. That floors, means and gains in passes are the gain steps in turn is `in_passes_lem` of crate frame.
use Rattle.std.specs.Prelude.{ℕ, zero, suc, ◌+◌, ◌<◌, ◌≡◌, true, cond, List, [], ◌∷◌, ◌++◌, eqb, length, get_or, take, drop, Float}
use Rattle.std.specs.Float.{nan, binary64}
use Rattle.std.specs.Float.Ieee.{add, mul}
use Rattle.arithmetic.specs.Number
use Rattle.arithmetic.specs.Number.{one}
use Rattle.envelope.specs.Row.{Rowed, rowed_at, pushed, newest_first, down, all_unit, row_in_order}
use Rattle.envelope.specs.Mean.{weighted_from, mean_of}
use Rattle.envelope.specs.Follow.{followed}
use Rattle.envelope.specs.declared.row.AttackRow.{AttackRow}

-- ---- the row
-- the means, the first floor's first, and the row afterwards
pub record Means : Type 0 where
  pub means : List Float
  pub rowed : Rowed

abbrev pub means_at : AttackRow → List Float → List Float → Means
means_at s row means = record { means = means; rowed = rowed_at s row }

-- what the means of a run ask: a row in order, a weight for each place of it, floors within 0 and 1
pub record MeansAsked (weights : List Float) (r : Rowed) (floors : List Float) : Type 0 where
  pub row_ordered : row_in_order r.state r.row ≡ true
  pub weights_len : length weights ≡ length r.row
  pub floors_unit : all_unit floors ≡ true

-- the mean of the row after each of these floors
unfoldable pub means_of : List Float → Rowed → List Float → Means
means_of weights r [] = record { means = []; rowed = r }
means_of weights r (f ∷ fs) =
    let p = pushed r.state r.row f in
    let later = means_of weights p fs in
    record { means = mean_of weights (newest_first p.state.pos p.row) ∷ later.means; rowed = later.rowed }

-- the same without a word on rows of nothing but 1: the weighted sum of the row after each of these floors
unfoldable pub sums_of : List Float → Rowed → List Float → List Float
sums_of weights r [] = []
sums_of weights r (f ∷ fs) =
    let p = pushed r.state r.row f in
    weighted_from Number.zero weights (newest_first p.state.pos p.row) ∷ sums_of weights p fs

-- ---- how the code goes about it
-- a line of the row's floors, oldest first, and the run's behind them
abbrev pub line_of : ℕ → List Float → List Float → List Float
line_of pos row floors = drop pos row ++ (take pos row ++ floors)

-- the weighted sums of as many of its floors as there are weights, read downward: those that end at place k + 1, and so on
unfoldable pub sums_along : List Float → List Float → ℕ → ℕ → List Float
sums_along weights line k zero = []
sums_along weights line k (suc n) = weighted_from Number.zero weights (down line (k + 1) (length weights)) ∷ sums_along weights line (k + 1) n

-- the mean of a row with this tally and this weighted sum
abbrev pub given : ℕ → Float → Float
given tally sum = cond (eqb tally 0) one sum

-- a weight times each of sixteen floors, from a place of the line on, added to its sum
pub record AddedTo (w : Float) (line : List Float) (at : ℕ) (before after : List Float) : Type 0 where
  pub as_many : length after ≡ 16
  pub each : (i : ℕ) → i < 16 → get_or after i nan ≡ add binary64 (get_or before i nan) (mul binary64 w (get_or line (at + i) nan))

-- ---- the gain
-- the gains, the first mean's first, and the last of them
pub record Follows : Type 0 where
  pub gains : List Float
  pub gain : Float

abbrev pub follows_at : List Float → Float → Follows
follows_at gains gain = record { gains = gains; gain = gain }

-- the gain after each of these means
unfoldable pub followed_all : Float → Float → List Float → Follows
followed_all coeff gain [] = follows_at [] gain
followed_all coeff gain (m ∷ ms) =
    let g = followed gain m coeff in
    let later = followed_all coeff g ms in
    follows_at (g ∷ later.gains) later.gain
