-- How the code goes about a run: in passes over all its frames, each channel by itself. That the passes add up to the frames in turn is proved in proofs/.
use Rattle.std.specs.Prelude.{ℕ, zero, suc, ◌+◌, Bool, true, false, cond, ◌&&◌, ◌||◌, List, [], ◌∷◌, Option, Some, ◌++◌, map, get_or, set, take, drop, Float}
use Rattle.std.specs.Float.{nan}
use Rattle.std.specs.Float.Ieee.{lt, le}
use Rattle.arithmetic.specs.Number
use Rattle.arithmetic.specs.Sanitize.{finite_or_zero}
use Rattle.detector.specs.Oversample.{remembered, peak_abs_of}
use Rattle.detector.specs.Run.{run_length, pushes_of}
use Rattle.envelope.specs.Row.{next_pos}
use Rattle.envelope.specs.Step.{Enveloped, gain_step_of, enveloped_at}
use Rattle.envelope.specs.declared.env.Envelope.{Envelope}
use Rattle.frame.specs.Rules.{Linking}
use Rattle.frame.specs.Seat.{Voice, voice_of, PeakAt, peak_among}
use Rattle.frame.specs.Frame.{heard, required_gain, given_out}

-- ---- peaks
-- each is 0 or more, so that none is a NaN
unfoldable pub all_from_zero : List Float → Bool
all_from_zero [] = true
all_from_zero (p ∷ ps) = le Number.zero p && all_from_zero ps

-- a channel's share in the peak of each frame
unfoldable pub heard_all : Bool → List Float → List Float → List Float → List Float
heard_all counts [] xs answers = []
heard_all counts (p ∷ ps) [] answers = []
heard_all counts (p ∷ ps) (x ∷ xs) [] = []
heard_all counts (p ∷ ps) (x ∷ xs) (a ∷ later) = heard counts p x a ∷ heard_all counts ps xs later

pub record Peaks : Type 0 where
  pub peaks : List Float
  pub detector : List Float

abbrev pub peaks_at : List Float → List Float → Peaks
peaks_at peaks detector = record { peaks = peaks; detector = detector }

unfoldable pub channel_peaks : Linking → ℕ → List Float → List Float → List Float → Peaks
channel_peaks linking c peaks store xs =
    let o = pushes_of linking.taps store xs in
    peaks_at (heard_all (linking.counts c) peaks xs o.peaks) o.store

-- a channel, and what the later ones make of it
unfoldable pub peaks_pass : Linking → ℕ → ℕ → ℕ → List Float → List Float → List Float → Peaks
peaks_pass linking c zero n peaks detector audio = peaks_at peaks detector
peaks_pass linking c (suc k) n peaks detector audio =
    let o = channel_peaks linking c peaks (take remembered detector) (take n audio) in
    let later = peaks_pass linking (c + 1) k n o.peaks (drop remembered detector) (drop run_length audio) in
    peaks_at later.peaks (o.detector ++ later.detector)

-- ---- where the highest peak sat
-- what the channels bring to frame i of a run, from channel c on
unfoldable pub voices_pass : Linking → ℕ → ℕ → ℕ → List Float → List Float → List Voice
voices_pass linking c zero i detector audio = []
voices_pass linking c (suc k) i detector audio =
    let x = get_or audio i nan in
    let o = peak_abs_of linking.taps (pushes_of linking.taps (take remembered detector) (take i audio)).store x in
    voice_of (linking.counts c) x o ∷ voices_pass linking (c + 1) k i (drop remembered detector) (drop run_length audio)

-- each frame's peak, and where it sat; the first of them is frame i of the run
unfoldable pub places_from : Linking → ℕ → ℕ → List Float → List Float → List Float → List PeakAt
places_from linking channels i [] detector audio = []
places_from linking channels i (p ∷ ps) detector audio = peak_among p (voices_pass linking 0 channels i detector audio) ∷ places_from linking channels (i + 1) ps detector audio

-- whether a peak is above a height
unfoldable pub any_above : Float → List Float → Bool
any_above top [] = false
any_above top (p ∷ ps) = lt top p || any_above top ps

-- the highest peak so far, and its frame, if a frame of the run has it
pub record Risen : Type 0 where
  pub peak : Float
  pub at : Option ℕ

abbrev pub risen_to : Float → Option ℕ → Risen
risen_to peak at = record { peak = peak; at = at }

unfoldable pub risen_from : ℕ → Risen → List Float → Risen
risen_from i r [] = r
risen_from i r (p ∷ ps) = risen_from (i + 1) (cond (lt r.peak p) (risen_to p (Some i)) r) ps

-- ---- gain steps
-- the required gain of each frame
abbrev pub required_all : Float → List Float → List Float
required_all target peaks = map (λ (p : Float). required_gain target p) peaks

pub record Gains : Type 0 where
  pub gains : List Float
  pub env : Enveloped

abbrev pub gains_at : Envelope → List ℕ → List Float → List Float → List Float → Gains
gains_at e marks minima row gains = record { gains = gains; env = enveloped_at e marks minima row }

-- the gain applied after each of these required gains, and the envelope afterwards
unfoldable pub gains_of : List Float → Float → Enveloped → List Float → Gains
gains_of weights coeff e [] = record { gains = []; env = e }
gains_of weights coeff e (x ∷ xs) =
    let next = (gain_step_of weights coeff e x).env in
    let later = gains_of weights coeff next xs in
    record { gains = next.gain ∷ later.gains; env = later.env }

-- ---- outputs
-- what lay in a line, frame by frame, and the line afterwards
pub record Exchanged : Type 0 where
  pub delayed : List Float
  pub line : List Float

abbrev pub exchanged_at : List Float → List Float → Exchanged
exchanged_at delayed line = record { delayed = delayed; line = line }

-- samples go into a line, sanitized, and what lay there comes out
unfoldable pub exchange_of : ℕ → ℕ → List Float → List Float → Exchanged
exchange_of look pos line [] = exchanged_at [] line
exchange_of look pos line (x ∷ xs) =
    let later = exchange_of look (next_pos look pos) (set line pos (finite_or_zero x)) xs in
    exchanged_at (get_or line pos nan ∷ later.delayed) later.line

-- what the frames of these gains give out for what lay in the line
unfoldable pub products_of : (Float → Float) → List Float → List Float → List Float
products_of leaves [] ds = []
products_of leaves (g ∷ gs) [] = []
products_of leaves (g ∷ gs) (d ∷ ds) = given_out leaves d g ∷ products_of leaves gs ds

pub record Outputs : Type 0 where
  pub outputs : List Float
  pub line : List Float

abbrev pub outputs_at : List Float → List Float → Outputs
outputs_at outputs line = record { outputs = outputs; line = line }

-- one channel's outputs at these gains, and its line afterwards
unfoldable pub channel_outputs : (Float → Float) → ℕ → ℕ → List Float → List Float → List Float → Outputs
channel_outputs leaves look pos [] line xs = outputs_at [] line
channel_outputs leaves look pos (g ∷ gs) line [] = outputs_at [] line
channel_outputs leaves look pos (g ∷ gs) line (x ∷ xs) =
    let later = channel_outputs leaves look (next_pos look pos) gs (set line pos (finite_or_zero x)) xs in
    outputs_at (given_out leaves (get_or line pos nan) g ∷ later.outputs) later.line

pub record Written : Type 0 where
  pub audio : List Float
  pub delay : List Float

abbrev pub written_at : List Float → List Float → Written
written_at audio delay = record { audio = audio; delay = delay }

unfoldable pub outputs_pass : (Float → Float) → ℕ → ℕ → List Float → ℕ → ℕ → List Float → List Float → Written
outputs_pass leaves look pos gains zero n delay audio = written_at audio delay
outputs_pass leaves look pos gains (suc k) n delay audio =
    let o = channel_outputs leaves look pos gains (take look delay) (take n audio) in
    let later = outputs_pass leaves look pos gains k n (drop look delay) (drop run_length audio) in
    written_at (o.outputs ++ (drop n (take run_length audio) ++ later.audio)) (o.line ++ later.delay)
