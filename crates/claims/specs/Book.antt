-- The book: samples, threshold, kept target and drained count of its own, and what follows from them. It has no ring, no marks or minima, no tally, no position of a row or a delay line;
-- how many entries a ring keeps it finds by plain scan (`kept_in`).
--
-- What it shares with the limiter are the rules of what was set up and of the call's sample type (`rules_of`: taps, which channels count, output rule), formulas of document 01 and of its changes on plain arguments, and the table:
--   setup: look_of, row_of, coefficient_of, target_of, threshold_param; weights_for, by which the claim opens it (Change 6)
--   a frame's peak and required gain: sums_of and largest_of (the detector), heard, required_gain, unit_gain, finite_or_zero
--   where a peak sat, Change 5: phase_of (the detector), seat_of (among the channels that count), place_of (among a block's frames), and place_reply, which tells it
--   mean and gain: mean_of (over the book's row and the weights that it opened with; it looks at the row's floors, at no tally), followed
--   the threshold: smoother_of, target_set, immediate_set, stepped, reset_one
--   the table's refusals: events_reply, reaches, the limits
use Rattle.std.specs.Prelude.{ℕ, zero, suc, ◌+◌, cond, List, [], ◌∷◌, ◌++◌, map, take, get_or, replicate, Float}
use Rattle.std.specs.Float.{binary64}
use Rattle.std.specs.Float.Ieee.{mul, eq, lt}
use Rattle.arithmetic.specs.Number
use Rattle.arithmetic.specs.Number.{one, abs_of}
use Rattle.arithmetic.specs.Sanitize.{finite_or_zero, unit_gain}
use Rattle.detector.specs.Oversample.{sums_of, largest_of, phase_of}
use Rattle.detector.specs.History.{silent, latest}
use Rattle.keeper.specs.Floor.{floor_of}
use Rattle.envelope.specs.Mean.{mean_of}
use Rattle.envelope.specs.Follow.{followed}
use Rattle.settings.specs.Derived.{look_of, row_of, coefficient_of}
use Rattle.settings.specs.declared.LimiterSettings.{LimiterSettings}
use Rattle.settings.specs.declared.ProcessSpec.{ProcessSpec}
use Rattle.frame.specs.Rules.{Linking, Rules}
use Rattle.frame.specs.Seat.{Voice, PeakAt, peak_among}
use Rattle.frame.specs.Frame.{heard, required_gain}
use Rattle.bank.specs.declared.smoother.Smoother.{Smoother}

-- a frame that joined: its samples as they were given, one a channel, and its target
pub record Joined : Type 0 where
  pub samples : List Float
  pub target : Float

pub record Book : Type 0 where
  -- what was set up
  pub settings : LimiterSettings
  pub spec : ProcessSpec
  pub weights : List Float
  -- the bank: the threshold's smoother
  pub threshold : Smoother
  -- the kept target
  pub target : Float
  pub drained : ℕ
  -- the frames since the latest finished reset, or since setup: NEWEST FIRST
  pub frames : List Joined

abbrev pub look_in : Book → ℕ
look_in b = look_of b.settings.lookahead_ms b.spec.rate

-- the release coefficient
abbrev pub coeff_in : Book → Float
coeff_in b = coefficient_of b.settings.release_ms b.spec.rate

-- ---- peaks: lists of frames are newest first, and speak of their newest
-- a channel's samples
abbrev pub channel_of : ℕ → List Joined → List Float
channel_of c fs = map (λ (f : Joined). get_or f.samples c Number.zero) fs

-- the detector's sums, one a phase: of the newest twelve samples, 0 before the start
abbrev pub sums_in : Linking → ℕ → List Joined → List Float
sums_in linking c fs = sums_of linking.taps (latest silent (channel_of c fs))

-- the detector's answer
unfoldable pub between : Linking → ℕ → List Joined → Float
between linking c fs = largest_of (sums_in linking c fs)

-- the highest peak over those of k channels from channel c on that count, on the samples and between them
unfoldable pub peak_from : Linking → ℕ → ℕ → Float → List Joined → Float
peak_from linking c zero peak fs = peak
peak_from linking c (suc k) peak fs = peak_from linking (c + 1) k (heard (linking.counts c) peak (get_or (channel_of c fs) 0 Number.zero) (between linking c fs)) fs

-- ---- where the peak sat
-- what k channels from channel c on bring: whether each counts, its sample's magnitude, sanitized, its detector's answer, and the phase of that
unfoldable pub voices_of : Linking → ℕ → ℕ → List Joined → List Voice
voices_of linking c zero fs = []
voices_of linking c (suc k) fs =
    record { counts = linking.counts c; sample = abs_of (finite_or_zero (get_or (channel_of c fs) 0 Number.zero)); answer = between linking c fs; phase = phase_of (sums_in linking c fs) } ∷ voices_of linking (c + 1) k fs

-- the highest peak over those of so many channels that count, and where it sat
unfoldable pub peak_at_of : Linking → ℕ → List Joined → PeakAt
peak_at_of linking channels fs = peak_among (peak_from linking 0 channels Number.zero fs) (voices_of linking 0 channels fs)

-- those of frames that join a history one after the other: these are oldest first, as they join
unfoldable pub peaks_joining : Linking → ℕ → List Joined → List Joined → List PeakAt
peaks_joining linking channels history [] = []
peaks_joining linking channels history (f ∷ fs) = peak_at_of linking channels (f ∷ history) ∷ peaks_joining linking channels (f ∷ history) fs

-- ---- required gains, floors
-- "the target divided by a frame's highest peak over all channels, kept within 0 and 1; in silence it is 1", since Change 7 over those that count: of each frame
unfoldable pub required_of : Linking → ℕ → List Joined → List Float
required_of linking channels [] = []
required_of linking channels (f ∷ fs) = unit_gain (required_gain f.target (peak_from linking 0 channels Number.zero (f ∷ fs))) ∷ required_of linking channels fs

-- "the least required gain among the latest look + 1 frames, or among all so far while there are fewer": of each frame, by plain scan
unfoldable pub floors_of : ℕ → List Float → List Float
floors_of look [] = []
floors_of look (g ∷ gs) = floor_of look g gs ∷ floors_of look gs

-- ---- entries kept, by plain scan: "From the ring's back drop each entry not below it; then from the front each entry whose frame is more than look back; append"
-- of gains before m, newest first, those below m and below every later one; "of equal gains the later is kept"
unfoldable pub kept_from : Float → List Float → ℕ
kept_from m [] = 0
kept_from m (g ∷ gs) = cond (lt g m) (suc (kept_from g gs)) (kept_from m gs)

-- after these gains: the newest, and among the look before it those below every later one
unfoldable pub kept_in : ℕ → List Float → ℕ
kept_in look [] = 0
kept_in look (g ∷ gs) = suc (kept_from g (take look gs))

-- ---- the attack row
-- "the latest look − 11 floors, but at least one, with 1 standing for any before the start"
unfoldable pub attack_row : ℕ → List Float → List Float
attack_row look gains = take (row_of look) (floors_of look gains ++ replicate (row_of look) one)

-- the number of floors other than 1
unfoldable pub not_one : List Float → ℕ
not_one [] = 0
not_one (f ∷ fs) = cond (eq f one) (not_one fs) (suc (not_one fs))

-- ---- the gain, after these required gains, with these weights and this release coefficient. It starts at 1, and in each frame it follows the weighted mean of the row that ends there:
-- "If the mean is at most the gain, the gain becomes it; otherwise it grows by (mean − gain) × coefficient. The gain is sanitized and kept within 0 and 1 before and after."
unfoldable pub gain_after : ℕ → List Float → Float → List Float → Float
gain_after look weights coeff [] = one
gain_after look weights coeff (g ∷ gs) = followed (gain_after look weights coeff gs) (mean_of weights (attack_row look (g ∷ gs))) coeff

-- ---- what leaves
-- a channel's sample of look frames earlier, sanitized, or 0 before the start
abbrev pub earlier : ℕ → ℕ → List Joined → Float
earlier look c fs = finite_or_zero (get_or (channel_of c fs) look Number.zero)

-- "times that gain by document 01's output rule": for k channels from channel c on
unfoldable pub leaving_from : Rules → ℕ → Float → ℕ → ℕ → List Joined → List Float
leaving_from rules look gain c zero fs = []
leaving_from rules look gain c (suc k) fs = rules.leaves (mul binary64 (earlier look c fs) gain) ∷ leaving_from rules look gain (c + 1) k fs
