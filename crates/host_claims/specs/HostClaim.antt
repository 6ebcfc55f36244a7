-- THE CLAIM OVER THE C FUNCTIONS: demand 3 of what a renderer holds in its hands. A host (`Hosting`) is held to a limiter l and a gain step of which the claims of crate `claims` hold (`Claim`, `GainClaim`):
--   on every bytes and stores, what a C function returns is what they make of the machine which the bytes hold;
--   what a call leaves in the bytes is what the next one reads;
--   so for every list of calls after a finished `daggeryuzu_setup`, or a finished `daggeryuzu_reset` of any bytes at all, each on the state's bytes and the stores as the last one left them, every
--   sentence of the claim holds. The book is the claim's own.
--
-- `machine_in state stores` is the limiter which the bytes hold, with its stores: what a C function reads before it calls. Bytes that are no state hold a limiter that was never set up.
use Rattle.std.specs.Prelude.{ℕ, ◌%◌, ◌<◌, ◌≡◌, cond, List, [], ◌∷◌, eqb, length, get_or}
use Rattle.arithmetic.specs.Number.{bits}
use Rattle.arithmetic.specs.Reply.{Reply, numbered}
use Rattle.settings.specs.Settings.{settings_of}
use Rattle.settings.specs.House.{weights_for}
use Rattle.settings.specs.declared.LimiterSettings.{LimiterSettings}
use Rattle.settings.specs.declared.ProcessSpec.{ProcessSpec}
use Rattle.limiter.specs.State.{spec_of}
use Rattle.limiter.specs.Stores.{Stores}
use Rattle.bank.specs.Bank.{value_of}
use Rattle.turns.specs.Machine.{Machine, threshold_of}
use Rattle.turns.specs.Block.{Outcome}
use Rattle.driver.specs.Calls.{Left}
use Rattle.state_bytes.specs.State.{state_bytes, processor_of, processor_in, state_out}
use Rattle.host.specs.Answer.{answered_by}
use Rattle.host.specs.Host.{Returned, ReturnedAudio, Read, machine_in, lent_to, left_in}
use Rattle.claims.specs.Session.{bytes_in, Limiting, called}
use Rattle.claims.specs.Book.{Book}
use Rattle.claims.specs.BookCalls.{opened, opened_new, enter, value_in}
use Rattle.claims.specs.Claim.{drops_after, CallHolds, Claim}
use Rattle.claims.specs.GainSteps.{GainStepping, GainClaim}
use Rattle.host_claims.specs.HostSession.{HostCall, claimed, told_by, Made, acts, reads, Hosting, reset}

-- ---- what a C function returns: answer, state and stores as they were lent, reply and m what is made of the call
pub record Returns (answer state : List ℕ) (stores : Stores) (reply : Reply) (m : Machine) (r : Returned) : Type 0 where
  -- the result is the reply's number, and the answer buffer holds its values
  pub number : r.number ≡ reply.number
  pub words : r.answer ≡ answered_by answer reply
  -- finished work is in the state's bytes and in the stores
  pub written : r.number ≡ 0 → (r.state ≡ state_out (processor_of m)) × (r.stores ≡ m.stores)
  -- a refused call writes its answer alone
  pub refusal : (r.number ≡ 0 → ⊥) → (r.state ≡ state) × (r.stores ≡ stores)

-- a call with audio: o is what is made of it. (`told_by`: 23 gives back the word that came in.)
pub record CallReturns (call : HostCall) (answer state : List ℕ) (stores : Stores) (o : Outcome) (r : ReturnedAudio) : Type 0 where
  pub returns : Returns answer state stores (told_by call o.reply) o.machine r.result
  pub replied : r.result.number ≡ o.reply.number
  pub audio : r.audio ≡ o.bytes
  pub refusal : (r.result.number ≡ 0 → ⊥) → r.audio ≡ bytes_in (claimed call)

-- reading a parameter
pub record Reads (answer : List ℕ) (value : Reply) (r : Read) : Type 0 where
  pub number : r.number ≡ value.number
  pub words : r.answer ≡ answered_by answer value

-- setup: in a buffer of a state's length the state is written, finished or refused; any other buffer stays as it was, and the weights with it
pub record SetupReturns (answer state : List ℕ) (stores : Stores) (o : Left) (r : Returned) : Type 0 where
  pub number : r.number ≡ o.reply.number
  pub words : r.answer ≡ answered_by answer o.reply
  pub written : r.state ≡ cond (eqb (length state) state_bytes) (state_out (processor_of o.machine)) state
  pub left : r.stores ≡ left_in state stores o.machine.stores

-- ---- a list of calls: each on the state's bytes and the stores as the last one left them; drops are those shown since the start
module _ (l : Limiting) (host : Hosting) where
  -- "Each call gets the state and stores as the last one left them": what the next call reads out of bytes and stores is the machine which this one left
  abbrev pub HandedOn : HostCall → List ℕ → List ℕ → Stores → Type 0
  HandedOn call answer state stores =
      let r = (host.calls call answer state stores).result in
      machine_in r.state r.stores ≡ (called l (machine_in state stores) (claimed call)).machine

  abbrev pub HostHolds : ℕ → Book → List ℕ → Stores → List Made → Type 0
  HostHolds drops b state stores [] = Unit {0}
  HostHolds drops b state stores (acts answer call ∷ later) =
      let c = claimed call in
      let o = called l (machine_in state stores) c in
      let r = host.calls call answer state stores in
      -- every sentence of the claim: reply, each frame's peak and where it sat, floor, tally, drops, mean, gain and outputs, the audio given out, the values
      CallHolds drops b (machine_in state stores) c o (enter b c) × (CallReturns call answer state stores o r × (HandedOn call answer state stores
      × HostHolds (drops_after drops c o) (enter b c).book r.result.state r.result.stores later))
  HostHolds drops b state stores (reads answer id ∷ later) =
      -- the book's value, or 24
      Reads answer (value_in b id) (host.values id answer state) × HostHolds drops b state stores later

-- ---- where the bytes hold no limiter that is set up: 18 to every call, and nothing but the answer is written
module _ (host : Hosting) where
  abbrev pub HostRefuses : List ℕ → Stores → List Made → Type 0
  HostRefuses state stores [] = Unit {0}
  HostRefuses state stores (acts answer call ∷ later) =
      let r = host.calls call answer state stores in
      ((r.result.number ≡ 18) × (r.result.answer ≡ answered_by answer (numbered 18)) × (r.result.state ≡ state) × (r.result.stores ≡ stores) × (r.audio ≡ bytes_in (claimed call)))
      × HostRefuses r.result.state r.result.stores later
  HostRefuses state stores (reads answer id ∷ later) = Reads answer (numbered 18) (host.values id answer state) × HostRefuses state stores later

-- bytes
abbrev pub Bytes : List ℕ → Type 0
Bytes state = (i : ℕ) → get_or state i 0 < 256

-- ---- the claim
pub record HostClaim (l : Limiting) (step : GainStepping) (host : Hosting) : Type 0 where
  -- the limiter behind the bytes, and its lone gain step
  pub limiter : Claim l
  pub gain_step_lem : GainClaim step
  -- setup, on every input
  pub setup : (s : LimiterSettings) (spec : ProcessSpec) (answer state : List ℕ) (stores : Stores)
      → SetupReturns answer state stores (l.setups s spec (lent_to state stores)) (host.setups s spec answer state stores)
  -- every call, on any bytes, a state's or not
  pub call : (call : HostCall) (answer state : List ℕ) (stores : Stores)
      → CallReturns call answer state stores (called l (machine_in state stores) (claimed call)) (host.calls call answer state stores)
  pub value : (id : ℕ) (answer state : List ℕ) → Reads answer (value_of (processor_in state).bank id) (host.values id answer state)
  pub gain : (gain : ℕ) (answer state : List ℕ) (stores : Stores)
      → (let o = step (machine_in state stores) (bits gain) in Returns answer state stores o.reply o.machine (host.gains gain answer state stores))
  -- what a call leaves in any bytes is what the next one reads
  pub call_handed_on : (call : HostCall) (answer state : List ℕ) (stores : Stores) → Bytes state → HandedOn l host call answer state stores
  pub gain_handed_on : (gain : ℕ) (answer state : List ℕ) (stores : Stores) → Bytes state
      → (let r = host.gains gain answer state stores in machine_in r.state r.stores ≡ (step (machine_in state stores) (bits gain)).machine)
  -- every list after a finished setup, whatever the bits of its settings and whichever channels it leaves out, on the host's weights or the house's
  pub after_setup : (threshold margin lookahead release left_out_mask : ℕ) (spec : ProcessSpec) (answer state : List ℕ) (stores : Stores)
      → (let s = settings_of (bits threshold) (bits margin) (bits lookahead) (bits release) (left_out_mask % 256) in
      let r = host.setups s spec answer state stores in
      r.number ≡ 0 → (made : List Made) → HostHolds l host 0 (opened_new s spec (weights_for s spec stores.weights)) r.state r.stores made)
  -- a refused setup leaves the stores alone; in a buffer of a state's length it leaves a limiter that is not set up: 18 to every list after it, and to the lone gain step
  pub after_refused : (s : LimiterSettings) (spec : ProcessSpec) (answer state : List ℕ) (stores : Stores)
      → (let r = host.setups s spec answer state stores in
      (r.number ≡ 0 → ⊥) → (r.stores ≡ stores) × (length state ≡ state_bytes → ((made : List Made) → HostRefuses host r.state r.stores made)
      × ((gain : ℕ) (answer : List ℕ) → Returns answer r.state r.stores (numbered 18) (machine_in r.state r.stores) (host.gains gain answer r.state r.stores))))
  -- every list after a finished reset of any bytes at all: the book opens with the bank which that reset left
  pub after_reset : (answer state : List ℕ) (stores : Stores) → Bytes state
      → (let r = (host.calls reset answer state stores).result in
      let k = (processor_in state).limiter in
      r.number ≡ 0 → (made : List Made)
      → HostHolds l host 0 (opened k.settings (spec_of k) stores.weights (threshold_of (l.resets (machine_in state stores)).machine.bank)) r.state r.stores made)
