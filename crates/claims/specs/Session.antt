-- Calls as a session makes them, and a limiter as its answers to them. The claim is a predicate of such a limiter. `Machine` (crate turns) is the state and stores that calls hand on.
use Rattle.std.specs.Prelude.{ℕ, List, [], Float}
use Rattle.audio.specs.declared.format.Format.{Format}
use Rattle.settings.specs.declared.LimiterSettings.{LimiterSettings}
use Rattle.settings.specs.declared.ProcessSpec.{ProcessSpec}
use Rattle.limiter.specs.Stores.{Stores}
use Rattle.turns.specs.Machine.{Machine}
use Rattle.turns.specs.Events.{Event}
use Rattle.turns.specs.Block.{Outcome, block_of}
use Rattle.turns.specs.Drain.{drain_of}
use Rattle.driver.specs.Calls.{Left, setup_of, parameter_of, reset_of}

-- "any list of blocks, drains, parameter calls and resets"
pub data Call : Type 0 where
  -- sample type, position, frames, events, audio in bytes
  block : Format → ℕ → ℕ → List Event → List ℕ → Call
  -- sample type, frames, audio in bytes
  drain : Format → ℕ → List ℕ → Call
  -- id, value
  parameter : ℕ → Float → Call
  reset : Call

-- the audio that a call lends
abbrev pub bytes_in : Call → List ℕ
bytes_in (block format position frames events bytes) = bytes
bytes_in (drain format frames bytes) = bytes
bytes_in (parameter id v) = []
bytes_in reset = []

-- a limiter: its answers to setup and to the four calls, on any state and stores
pub record Limiting : Type 0 where
  pub setups : LimiterSettings → ProcessSpec → Stores → Left
  pub blocks : Format → Machine → ℕ → ℕ → List Event → List ℕ → Outcome
  pub drains : Format → Machine → ℕ → List ℕ → Outcome
  pub parameters : Machine → ℕ → Float → Left
  pub resets : Machine → Left

-- the limiter that the code meets: the definitions of `turns` and `driver`
abbrev pub limiting : Limiting
limiting = record {
  setups = λ s spec stores. setup_of s spec stores;
  blocks = λ format m position frames events bytes. block_of format m position frames events bytes;
  drains = λ format m frames bytes. drain_of format m frames bytes;
  parameters = λ m id v. parameter_of m id v;
  resets = λ m. reset_of m;
}

-- a call without audio shows no frame
abbrev pub silently : Left → Outcome
silently l = record { reply = l.reply; machine = l.machine; bytes = []; frames = [] }

abbrev pub called : Limiting → Machine → Call → Outcome
called l m (block format position frames events bytes) = l.blocks format m position frames events bytes
called l m (drain format frames bytes) = l.drains format m frames bytes
called l m (parameter id v) = silently (l.parameters m id v)
called l m reset = silently (l.resets m)
