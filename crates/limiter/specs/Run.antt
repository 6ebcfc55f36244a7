-- A run of up to 32 frames through the limiter, rendered or drained. The frames in turn are `run_of`'s (crate frame), over any table of taps, output rule and choice of channels.
use Rattle.std.specs.Prelude.{ℕ, ◌+◌, ◌*◌, ◌≤◌, ◌≡◌, true, List, length, replicate, Float}
use Rattle.arithmetic.specs.Number
use Rattle.detector.specs.Run.{run_length}
use Rattle.keeper.specs.InOrder.{most_frames}
use Rattle.envelope.specs.Step.{Enveloped}
use Rattle.envelope.specs.declared.env.Envelope.{Envelope}
use Rattle.frame.specs.Rules.{Rules}
use Rattle.frame.specs.Frame.{Moving}
use Rattle.frame.specs.Seat.{PeakAt}
use Rattle.frame.specs.Run.{RunDone, frames_of, frames_in, peaks_of_frames, run_of, moving_at}
use Rattle.limiter.specs.Stores.{Stores, stores_at, lengths_of, lengths_fit}
use Rattle.limiter.specs.Order.{prepared, is_in_order}
use Rattle.limiter.specs.declared.state.Limiter.{Limiter}

-- what moves with the frames
abbrev pub moving_of : Limiter → Stores → Moving
moving_of l s = moving_at l.env l.delay_pos s.delay s.marks s.minima s.row s.detector

abbrev pub envelope_of : Enveloped → Envelope
envelope_of e = record { keeper = e.keeping.keeper; attack = e.rowed.state; gain = e.gain }

-- the limiter after frames: envelope and delay position moved, the target that it keeps, the tail frames drained
abbrev pub moved_on : Limiter → Envelope → ℕ → Float → ℕ → Limiter
moved_on l env pos target drained = record {
  settings = l.settings;
  rate = l.rate;
  channels = l.channels;
  max_block = l.max_block;
  release_coeff = l.release_coeff;
  env = env;
  delay_pos = pos;
  target = target;
  drained = drained;
}

abbrev pub stores_of : Moving → List Float → Stores
stores_of m weights = stores_at m.delay m.env.keeping.marks m.env.keeping.minima weights m.env.rowed.row m.detector

pub record Ran : Type 0 where
  pub limiter : Limiter
  pub stores : Stores
  pub audio : List Float

abbrev pub ran_at : Limiter → Stores → List Float → Ran
ran_at l stores audio = record { limiter = l; stores = stores; audio = audio }

abbrev pub ran_by : Limiter → List Float → Float → ℕ → RunDone → Ran
ran_by l weights target drained r = ran_at (moved_on l (envelope_of r.moving.env) r.moving.pos target drained) (stores_of r.moving weights) r.audio

-- "Rendering keeps its target and sets the drained count to 0"
unfoldable pub render_of : Rules → Limiter → Float → ℕ → Stores → List Float → Ran
render_of rules l target n s audio =
    ran_by l s.weights target 0 (run_of rules s.weights l.release_coeff l.env.keeper.look target l.channels n (moving_of l s) audio)

-- the linked peaks of the run's frames, and where they sat
abbrev pub peaks_in : Rules → Limiter → Float → ℕ → Stores → List Float → List PeakAt
peaks_in rules l target n s audio =
    peaks_of_frames (frames_of rules s.weights l.release_coeff l.env.keeper.look target (moving_of l s) (frames_in l.channels n audio)).frames

-- with another drained count
abbrev pub drained_to : Ran → ℕ → Ran
drained_to r drained =
    let l = r.limiter in
    ran_at (moved_on l l.env l.delay_pos l.target drained) r.stores r.audio

-- "A drained frame does this with input 0.0 and the kept target"; n frames join the drained count
unfoldable pub drain_of : Rules → Limiter → ℕ → Stores → List Float → Ran
drain_of rules l n s audio = drained_to (render_of rules l l.target n s (replicate (length audio) Number.zero)) (l.drained + n)

-- what a run asks: 18, 16 and 19 judged, room for n frames, a run's length and its audio
pub record KernelReady (l : Limiter) (n : ℕ) (s : Stores) (audio : List Float) : Type 0 where
  pub set_up : prepared l ≡ true
  pub lengths : lengths_fit l.channels l.env.keeper.look (lengths_of s) ≡ true
  pub order : is_in_order l s.marks s.minima s.row ≡ true
  pub room : l.env.keeper.frame + n ≤ most_frames
  pub some : 1 ≤ n
  pub short : n ≤ run_length
  pub audio_fit : length audio ≡ 8 * run_length
