-- A run of up to 32 frames: the frames in turn. Its audio is planar, 32 places a channel.
use Rattle.std.specs.Prelude.{ℕ, ◌+◌, ◌*◌, ◌≤◌, ◌<◌, ◌≡◌, List, [], ◌∷◌, map, length, get_or, Float}
use Rattle.std.specs.Float.{nan}
use Rattle.arithmetic.specs.Sanitize.{finite_or_zero}
use Rattle.audio.specs.Planar.{frames_at, written}
use Rattle.detector.specs.Oversample.{remembered}
use Rattle.detector.specs.Run.{run_length}
use Rattle.keeper.specs.InOrder.{most_frames}
use Rattle.envelope.specs.Step.{EnvReady, enveloped_at}
use Rattle.envelope.specs.declared.env.Envelope.{Envelope}
use Rattle.frame.specs.Rules.{Rules}
use Rattle.frame.specs.Seat.{PeakAt}
use Rattle.frame.specs.Frame.{Moving, Framed, frame_of}

-- ---- the frames in turn
pub record Frames : Type 0 where
  pub frames : List Framed
  pub moving : Moving

-- a frame, and then what the later ones come to
abbrev pub frame_first : Framed → Frames → Frames
frame_first f later = record { frames = f ∷ later.frames; moving = later.moving }

unfoldable pub frames_of : Rules → List Float → Float → ℕ → Float → Moving → List (List Float) → Frames
frames_of rules weights coeff look target m [] = record { frames = []; moving = m }
frames_of rules weights coeff look target m (xs ∷ later) =
    let f = frame_of rules weights coeff look target m xs in
    frame_first f (frames_of rules weights coeff look target f.moving later)

-- the gain applied in each frame
abbrev pub gains_of_frames : List Framed → List Float
gains_of_frames frames = map (λ (f : Framed). f.gain) frames

-- the linked peak of each frame, and where it sat
abbrev pub peaks_of_frames : List Framed → List PeakAt
peaks_of_frames frames = map (λ (f : Framed). f.at) frames

-- ---- a run's audio
-- the first n frames of so many channels
abbrev pub frames_in : ℕ → ℕ → List Float → List (List Float)
frames_in channels n audio = frames_at nan run_length channels 0 n audio

-- with each output in its sample's place, and everything else as it was
abbrev pub written_in : ℕ → ℕ → List Float → List (List Float) → List Float
written_in channels n audio outputs = written nan run_length channels n audio outputs

-- each sample of those frames is sanitized already
abbrev pub Sanitized : ℕ → ℕ → List Float → Type 0
Sanitized channels n audio = (c i : ℕ) → c < channels → i < n → finite_or_zero (get_or audio (c * run_length + i) nan) ≡ get_or audio (c * run_length + i) nan

-- ---- a run
pub record RunDone : Type 0 where
  pub moving : Moving
  pub audio : List Float

unfoldable pub run_of : Rules → List Float → Float → ℕ → Float → ℕ → ℕ → Moving → List Float → RunDone
run_of rules weights coeff look target channels n m audio =
    let r = frames_of rules weights coeff look target m (frames_in channels n audio) in
    record { moving = r.moving; audio = written_in channels n audio (map (λ (f : Framed). f.outputs) r.frames) }

-- read off the envelope, the position and the stores
abbrev pub moving_at : Envelope → ℕ → List Float → List ℕ → List Float → List Float → List Float → Moving
moving_at e pos delay marks minima row detector = record { env = enveloped_at e marks minima row; delay = delay; pos = pos; detector = detector }

abbrev pub done_at : Moving → List Float → RunDone
done_at m audio = record { moving = m; audio = audio }

-- what a run asks: an envelope that is ready with room for n frames, the stores' lengths, the position in its line, sanitized samples
pub record RunReady (weights : List Float) (look channels n : ℕ) (m : Moving) (audio : List Float) : Type 0 where
  pub env : EnvReady weights m.env
  pub room : m.env.keeping.keeper.frame + n ≤ most_frames
  pub some : 1 ≤ channels
  pub most : channels ≤ 8
  pub short : n ≤ run_length
  pub audio_fit : length audio ≡ 8 * run_length
  pub delay_fit : length m.delay ≡ channels * look
  pub detector_fit : length m.detector ≡ channels * remembered
  pub place : m.pos < look
  pub clean : Sanitized channels n audio
