-- THE CONTROLS over the C functions: four hosts of which the claim is false (proofs/HostControls.antt). Each is `hosting` but for the one place that its comment names. (Wrong codecs of the state are must-fail
-- edits of state_bytes.)
use Rattle.std.specs.Prelude.{ℕ, cond, List, []}
use Rattle.limiter.specs.Stores.{Stores}
use Rattle.state_bytes.specs.State.{is_state}
use Rattle.host.specs.Host.{returned_at, ReturnedAudio, returned_with}
use Rattle.host_claims.specs.HostSession.{HostCall, process, flush, set_parameter, reset, Hosting, hosting}

-- ---- 1: setup refuses everything, with a number of its own and no word of why
abbrev pub setup_untold : Hosting
setup_untold = record {
  setups = λ s spec answer state stores. returned_at 99 answer (hosting.setups s spec answer state stores).state stores;
  calls = hosting.calls;
  values = hosting.values;
  gains = hosting.gains;
}

-- ---- 2: setup does not write the state
abbrev pub state_forgotten : Hosting
state_forgotten = record {
  setups = λ s spec answer state stores. let r = hosting.setups s spec answer state stores in returned_at r.number r.answer state r.stores;
  calls = hosting.calls;
  values = hosting.values;
  gains = hosting.gains;
}

-- ---- 3: a drain finds fault with no bytes: where they are no state it says that the work is finished, and gives out no audio
abbrev pub drains_anything : HostCall → List ℕ → List ℕ → Stores → ReturnedAudio
drains_anything (process format position frames words bytes) answer state stores = hosting.calls (process format position frames words bytes) answer state stores
drains_anything (flush format frames bytes) answer state stores = cond (is_state state) (hosting.calls (flush format frames bytes) answer state stores) (returned_with (returned_at 0 answer state stores) [])
drains_anything (set_parameter id word) answer state stores = hosting.calls (set_parameter id word) answer state stores
drains_anything reset answer state stores = hosting.calls reset answer state stores

abbrev pub bytes_unjudged : Hosting
bytes_unjudged = record { setups = hosting.setups; calls = drains_anything; values = hosting.values; gains = hosting.gains }

-- ---- 4: the lone gain step has a number of its own and tells nothing
abbrev pub gain_untold : Hosting
gain_untold = record {
  setups = hosting.setups;
  calls = hosting.calls;
  values = hosting.values;
  gains = λ gain answer state stores. let r = hosting.gains gain answer state stores in returned_at 77 answer r.state r.stores;
}
