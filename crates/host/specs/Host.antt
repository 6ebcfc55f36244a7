-- The C functions: each call of the driver through bytes. A buffer that is no state holds the limiter that was never set up, which every call but setup answers with 18.
use Rattle.std.specs.Prelude.{ℕ, ◌+◌, Bool, cond, not, List, [], ◌∷◌, eqb, leb, length, Option, Some, None}
use Rattle.arithmetic.specs.Number.{bits, largest}
use Rattle.arithmetic.specs.Reply.{Reply, refused, count}
use Rattle.audio.specs.declared.format.Format.{Format}
use Rattle.settings.specs.Memory.{needed}
use Rattle.settings.specs.declared.LimiterSettings.{LimiterSettings}
use Rattle.settings.specs.declared.ProcessSpec.{ProcessSpec}
use Rattle.limiter.specs.Stores.{Stores, with_weights}
use Rattle.turns.specs.Machine.{Machine}
use Rattle.driver.specs.Answers.{machine_at}
use Rattle.driver.specs.Calls.{Left, left, bank_bytes, parameter_of, setup_of, read_of}
use Rattle.turns.specs.Events.{events_of}
use Rattle.turns.specs.Block.{Outcome, block_of}
use Rattle.turns.specs.Drain.{drain_of}
use Rattle.state_bytes.specs.State.{state_bytes, processor_of, processor_in, state_out}
use Rattle.host.specs.Answer.{answered_by}

-- ---- what a call leaves: its number, both buffers, and the stores
pub record Returned : Type 0 where
  pub number : ℕ
  pub answer : List ℕ
  pub state : List ℕ
  pub stores : Stores

abbrev pub returned_at : ℕ → List ℕ → List ℕ → Stores → Returned
returned_at number answer state stores = record { number = number; answer = answer; state = state; stores = stores }

-- after the driver's call: the state is written where the work is finished
abbrev pub returned : List ℕ → List ℕ → Reply → Machine → Returned
returned answer state reply m =
    returned_at reply.number (answered_by answer reply) (cond (eqb reply.number 0) (state_out (processor_of m)) state) m.stores

-- ---- every call but setup: the driver's own, on what the buffer holds
abbrev pub machine_in : List ℕ → Stores → Machine
machine_in state stores = machine_at (processor_in state) stores

unfoldable pub called_by : (Machine → Left) → List ℕ → List ℕ → Stores → Returned
called_by call answer state stores =
    let o = call (machine_in state stores) in
    returned answer state o.reply o.machine

-- a block and a drain leave their audio too
pub record ReturnedAudio : Type 0 where
  pub result : Returned
  pub audio : List ℕ

abbrev pub returned_with : Returned → List ℕ → ReturnedAudio
returned_with result audio = record { result = result; audio = audio }

unfoldable pub audio_by : (Machine → List ℕ → Outcome) → List ℕ → List ℕ → Stores → List ℕ → ReturnedAudio
audio_by call answer state stores bytes =
    let o = call (machine_in state stores) bytes in
    returned_with (returned answer state o.reply o.machine) o.bytes

-- of a sample type, by which the C function has its name
abbrev pub process_by : Format → ℕ → ℕ → List ℕ → List ℕ → List ℕ → Stores → List ℕ → ReturnedAudio
process_by format position frames words answer state stores bytes = audio_by (λ (m : Machine) (audio : List ℕ). block_of format m position frames (events_of words) audio) answer state stores bytes

abbrev pub flush_by : Format → ℕ → List ℕ → List ℕ → Stores → List ℕ → ReturnedAudio
flush_by format frames answer state stores bytes = audio_by (λ (m : Machine) (audio : List ℕ). drain_of format m frames audio) answer state stores bytes

-- a parameter's value crosses as its bits, which 23 gives back
abbrev pub given_back : ℕ → ℕ → Reply → Reply
given_back id word r = cond (eqb r.number 23) (refused 23 (count id ∷ count word ∷ [])) r

abbrev pub parameter_by : ℕ → ℕ → Machine → Left
parameter_by id word m =
    let o = parameter_of m id (bits word) in
    left (given_back id word o.reply) o.machine

-- ---- reading a value: nothing but the answer is written; 18 is the bank's own
pub record Read : Type 0 where
  pub number : ℕ
  pub answer : List ℕ

abbrev pub read_at : ℕ → List ℕ → Read
read_at number answer = record { number = number; answer = answer }

unfoldable pub value_by : ℕ → List ℕ → List ℕ → Read
value_by id answer state =
    let r = read_of (processor_in state).bank id in
    read_at r.number (answered_by answer r)

-- ---- setup
-- a flag, and the cap
abbrev pub cap_of : ℕ → ℕ → Option ℕ
cap_of capped cap = cond (eqb capped 0) None (Some cap)

-- a flag: any number but 0 asks for a house table
abbrev pub asked_of : ℕ → Bool
asked_of house = not (eqb house 0)

-- where the state's buffer has another length, setup goes as if no weights were lent: 16 in its place, after 29, and neither state nor store is written
abbrev pub lent_to : List ℕ → Stores → Stores
lent_to state stores = with_weights (cond (eqb (length state) state_bytes) stores.weights []) stores

-- the stores afterwards: the weights as setup left them, or as they were where it was lent none of them
abbrev pub left_in : List ℕ → Stores → Stores → Stores
left_in state stores later = with_weights (cond (eqb (length state) state_bytes) later.weights stores.weights) later

-- else the state is written, refused or not: a refused setup leaves the limiter that was never set up
unfoldable pub setup_by : LimiterSettings → ProcessSpec → List ℕ → List ℕ → Stores → Returned
setup_by s spec answer state stores =
    let o = setup_of s spec (lent_to state stores) in
    returned_at o.reply.number (answered_by answer o.reply) (cond (eqb (length state) state_bytes) (state_out (processor_of o.machine)) state) (left_in state stores o.machine.stores)

-- ---- the limiter's bytes and the bank's; the largest number where they are not counted
abbrev pub whole_needed : ℕ → ℕ → ℕ
whole_needed channels look = cond (leb (needed channels look + bank_bytes) largest) (needed channels look + bank_bytes) largest
