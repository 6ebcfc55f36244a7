-- One frame: its linked peak, its required gain, its gain step, and its delayed outputs.
use Rattle.std.specs.Prelude.{ℕ, ◌+◌, Bool, cond, List, [], ◌∷◌, ◌++◌, get_or, set, take, drop, Float}
use Rattle.std.specs.Float.{nan, binary64}
use Rattle.std.specs.Float.Ieee.{mul, div}
use Rattle.arithmetic.specs.Number
use Rattle.arithmetic.specs.Number.{one, abs_of, min_of, max_of}
use Rattle.arithmetic.specs.Sanitize.{finite_or_zero}
use Rattle.detector.specs.Oversample.{remembered, peak_abs_of}
use Rattle.envelope.specs.Row.{next_pos}
use Rattle.envelope.specs.Step.{Enveloped, gain_step_of}
use Rattle.frame.specs.Rules.{Linking, Rules}
use Rattle.frame.specs.Seat.{PeakAt, voices_from, peak_among}

-- ---- "A frame's peak is the largest sanitized magnitude or detector answer over the channels", since Change 7 over the counted ones
-- one channel's share: the largest of the peak so far, the sanitized magnitude and the detector's answer; that of a channel that does not count is nothing
abbrev pub heard : Bool → Float → Float → Float → Float
heard counts peak x answer = cond counts (max_of (max_of peak (abs_of (finite_or_zero x))) answer) peak

pub record Linked : Type 0 where
  pub peak : Float
  pub detector : List Float

-- from channel c on, with the peak so far; the detector's store has 12 places a channel, and goes on whether the channel counts or not
unfoldable pub linked_from : Linking → ℕ → Float → List Float → List Float → Linked
linked_from linking c peak detector [] = record { peak = peak; detector = detector }
linked_from linking c peak detector (x ∷ xs) =
    let o = peak_abs_of linking.taps (take remembered detector) x in
    let later = linked_from linking (c + 1) (heard (linking.counts c) peak x o.peak) (drop remembered detector) xs in
    record { peak = later.peak; detector = o.store ++ later.detector }

-- "The required gain is target / peak, or 1.0 where that is NaN or above 1"
abbrev pub required_gain : Float → Float → Float
required_gain target peak = min_of (div binary64 target peak) one

-- ---- "Each channel gives out what lies at the delay position of its line, sanitized, times the gain, by module 1's output rule"
abbrev pub given_out : (Float → Float) → Float → Float → Float
given_out leaves d gain = leaves (mul binary64 (finite_or_zero d) gain)

pub record Delayed : Type 0 where
  pub outputs : List Float
  pub delay : List Float

-- "and stores the sanitized sample there"; a line has look places
unfoldable pub delayed_from : (Float → Float) → ℕ → ℕ → Float → List Float → List Float → Delayed
delayed_from leaves look pos gain delay [] = record { outputs = []; delay = delay }
delayed_from leaves look pos gain delay (x ∷ xs) =
    let line = take look delay in
    let later = delayed_from leaves look pos gain (drop look delay) xs in
    record { outputs = given_out leaves (get_or line pos nan) gain ∷ later.outputs; delay = set line pos (finite_or_zero x) ++ later.delay }

-- ---- a frame
-- what moves with the frames: the envelope with its stores, the delay lines and their position, the detector's store
pub record Moving : Type 0 where
  pub env : Enveloped
  pub delay : List Float
  pub pos : ℕ
  pub detector : List Float

-- what a frame tells and leaves; the tally is the row's, the entries kept are the keeper's
pub record Framed : Type 0 where
  -- its linked peak, and where that sat
  pub at : PeakAt
  pub floor : Float
  pub dropped : ℕ
  pub mean : Float
  pub gain : Float
  pub outputs : List Float
  pub moving : Moving

-- the frame of these samples, one for each channel; "the position goes on, round at look"
unfoldable pub frame_of : Rules → List Float → Float → ℕ → Float → Moving → List Float → Framed
frame_of rules weights coeff look target m xs =
    let l = linked_from rules.linking 0 Number.zero m.detector xs in
    let g = gain_step_of weights coeff m.env (required_gain target l.peak) in
    let d = delayed_from rules.leaves look m.pos g.env.gain m.delay xs in
    record {
      at = peak_among l.peak (voices_from rules.linking 0 m.detector xs);
      floor = g.floor;
      dropped = g.dropped;
      mean = g.mean;
      gain = g.env.gain;
      outputs = d.outputs;
      moving = record { env = g.env; delay = d.delay; pos = next_pos look m.pos; detector = l.detector };
    }
