-- Change 5: where a frame's linked peak sat, among the channels that count.
use Rattle.std.specs.Prelude.{ℕ, ◌+◌, Bool, cond, ◌&&◌, List, [], ◌∷◌, Option, Some, None, take, drop, Float}
use Rattle.std.specs.Float.Ieee.{eq}
use Rattle.arithmetic.specs.Number.{zero, abs_of}
use Rattle.arithmetic.specs.Sanitize.{finite_or_zero}
use Rattle.detector.specs.Oversample.{Pushed, remembered, peak_abs_of}
use Rattle.frame.specs.Rules.{Linking}
use Rattle.frame.specs.declared.highest.Seat.{Seat}

-- ---- what a channel brings to a frame: whether it counts, its sample's magnitude, sanitized, and what its detector answers
pub record Voice : Type 0 where
  pub counts : Bool
  pub sample : Float
  pub answer : Float
  pub phase : Option ℕ

abbrev pub voice_of : Bool → Float → Pushed → Voice
voice_of counts x o = record { counts = counts; sample = abs_of (finite_or_zero x); answer = o.peak; phase = o.phase }

-- each channel's, from channel c on; the detector's store has 12 places a channel
unfoldable pub voices_from : Linking → ℕ → List Float → List Float → List Voice
voices_from linking c detector [] = []
voices_from linking c detector (x ∷ xs) =
    voice_of (linking.counts c) x (peak_abs_of linking.taps (take remembered detector) x) ∷ voices_from linking (c + 1) (drop remembered detector) xs

-- ---- "If a sample there is that high, it says so with the lowest such channel; if not, it gives the lowest channel whose detector is that high, and its phase"
-- a detector of the height of a peak above 0.0 has a phase
abbrev pub heard_by : ℕ → Option ℕ → Option Seat
heard_by c None = None
heard_by c (Some p) = Some (Seat.Between c p)

unfoldable pub between_from : Float → ℕ → List Voice → Option Seat
between_from peak c [] = None
between_from peak c (v ∷ vs) = cond (v.counts && eq v.answer peak) (heard_by c v.phase) (between_from peak (c + 1) vs)

unfoldable pub sample_from : Option Seat → Float → ℕ → List Voice → Option Seat
sample_from other peak c [] = other
sample_from other peak c (v ∷ vs) = cond (v.counts && eq v.sample peak) (Some (Seat.OnSample c)) (sample_from other peak (c + 1) vs)

unfoldable pub seat_of : Float → List Voice → Option Seat
seat_of peak vs = cond (eq peak zero) None (sample_from (between_from peak 0 vs) peak 0 vs)

-- ---- a frame's linked peak, and where it sat
pub record PeakAt : Type 0 where
  pub peak : Float
  pub seat : Option Seat

-- of a linked peak and what the channels brought
abbrev pub peak_among : Float → List Voice → PeakAt
peak_among peak vs = record { peak = peak; seat = seat_of peak vs }
