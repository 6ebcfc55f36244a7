-- Calls of the C functions as a renderer makes them, and a host as its answers to them. What is handed from call to call are the state's bytes and the stores.
use Rattle.std.specs.Prelude.{ℕ, cond, List, [], ◌∷◌, eqb}
use Rattle.arithmetic.specs.Number.{bits}
use Rattle.arithmetic.specs.Reply.{Reply, refused, count}
use Rattle.audio.specs.declared.format.Format.{Format}
use Rattle.settings.specs.declared.LimiterSettings.{LimiterSettings}
use Rattle.settings.specs.declared.ProcessSpec.{ProcessSpec}
use Rattle.limiter.specs.Stores.{Stores}
use Rattle.turns.specs.Machine.{Machine}
use Rattle.turns.specs.Events.{events_of}
use Rattle.driver.specs.Calls.{reset_of, gain_step}
use Rattle.host.specs.Host.{Returned, ReturnedAudio, Read, returned_with, called_by, process_by, flush_by, parameter_by, value_by, setup_by}
use Rattle.claims.specs.Session.{Call}

-- ---- the C functions that act, each with its arguments beside state, stores and answer buffer
pub data HostCall : Type 0 where
  -- daggeryuzu_process, or daggeryuzu_process_float, by the sample type: position, frames, three words an event, audio
  process : Format → ℕ → ℕ → List ℕ → List ℕ → HostCall
  -- daggeryuzu_flush, or daggeryuzu_flush_float: frames, audio
  flush : Format → ℕ → List ℕ → HostCall
  -- daggeryuzu_set_parameter: id, the value's bits
  set_parameter : ℕ → ℕ → HostCall
  -- daggeryuzu_reset
  reset : HostCall

-- the claim's call of the same arguments
abbrev pub claimed : HostCall → Call
claimed (process format position frames words bytes) = Call.block format position frames (events_of words) bytes
claimed (flush format frames bytes) = Call.drain format frames bytes
claimed (set_parameter id word) = Call.parameter id (bits word)
claimed reset = Call.reset

-- the reply as the answer buffer tells it: 23 gives back the word that came in
abbrev pub told_by : HostCall → Reply → Reply
told_by (process format position frames words bytes) reply = reply
told_by (flush format frames bytes) reply = reply
told_by (set_parameter id word) reply = cond (eqb reply.number 23) (refused 23 (count id ∷ count word ∷ [])) reply
told_by reset reply = reply

-- ---- what a renderer does in a list: it lends an answer buffer, and acts or, in between, reads a parameter's value (daggeryuzu_parameter). Lone gain steps and a second setup are no part of one.
pub data Made : Type 0 where
  acts : List ℕ → HostCall → Made
  reads : List ℕ → ℕ → Made

-- ---- a host: what it returns on any answer buffer, state bytes and stores
pub record Hosting : Type 0 where
  -- daggeryuzu_setup
  pub setups : LimiterSettings → ProcessSpec → List ℕ → List ℕ → Stores → Returned
  -- the stores pass by where a call is lent none (set parameter)
  pub calls : HostCall → List ℕ → List ℕ → Stores → ReturnedAudio
  -- daggeryuzu_parameter, which is lent the state to read alone
  pub values : ℕ → List ℕ → List ℕ → Read
  -- daggeryuzu_gain_step: a required gain's bits
  pub gains : ℕ → List ℕ → List ℕ → Stores → Returned

-- the one that the code meets: the definitions that the contracts of `host` cite
abbrev pub host_called : HostCall → List ℕ → List ℕ → Stores → ReturnedAudio
host_called (process format position frames words bytes) answer state stores = process_by format position frames words answer state stores bytes
host_called (flush format frames bytes) answer state stores = flush_by format frames answer state stores bytes
host_called (set_parameter id word) answer state stores = returned_with (called_by (parameter_by id word) answer state stores) []
host_called reset answer state stores = returned_with (called_by reset_of answer state stores) []

abbrev pub hosting : Hosting
hosting = record {
  setups = λ s spec answer state stores. setup_by s spec answer state stores;
  calls = host_called;
  values = λ id answer state. value_by id answer state;
  gains = λ gain answer state stores. called_by (λ (m : Machine). gain_step m (bits gain)) answer state stores;
}
