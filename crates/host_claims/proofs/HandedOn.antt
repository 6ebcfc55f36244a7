-- One call of a C function: what it returns is what the limiter made of the claim's call, and what it leaves in bytes and stores is what the next one reads.
use mathlib.Core.Path.{◌≡◌, refl, sym, ap, subst, ◌∙◌}
use mathlib.Core.Bool.{Bool, true, false, cond}
use mathlib.Core.List.{List, [], ◌∷◌}
use Prim.Native.Nat.{ℕ, ◌/◌}
use lib.Dec.{eqb}
use lib.ListN.{length}
use lib.Ieee.{Float}
use borrow.Author.Tests.{eqb-true, eqb-false, eq-eqb, ne_eqb}
use Rattle.arithmetic.specs.Number.{bits}
use Rattle.arithmetic.specs.Reply.{Reply, refused, numbered, count}
use Rattle.audio.specs.Format.{size_of}
use Rattle.frame.specs.Run.{peaks_of_frames}
use Rattle.frame.specs.Place.{place_of}
use Rattle.limiter.specs.Stores.{Stores}
use Rattle.turns.specs.Machine.{Machine}
use Rattle.turns.specs.Events.{events_of}
use Rattle.turns.specs.Block.{Outcome, refused_as, rendered_in, block_reply, block_done, block_by}
use Rattle.turns.specs.Drain.{drain_reply, drain_done, drain_by}
use Rattle.driver.specs.Answers.{machine_at}
use Rattle.driver.specs.Calls.{left, parameter_reply, parameter_of, reset_of, gain_reply, gain_of, gain_done, gain_step}
use Rattle.driver.specs.declared.state.KernelProcessor.{KernelProcessor}
use Rattle.state_bytes.specs.State.{processor_of, processor_in, state_out}
use Rattle.state_bytes.proofs.Storable.{Storable}
use Rattle.state_bytes.proofs.Inverse.{read_written}
use Rattle.state_bytes.proofs.Floats.{bits_fit}
use Rattle.state_bytes.proofs.Banks.{events_fit}
use Rattle.state_bytes.proofs.Kept.{block_storable, drain_storable, parameter_storable, reset_storable, gain_storable}
use Rattle.host.specs.Host.{ReturnedAudio, returned, returned_with, machine_in, called_by, audio_by}
use Rattle.claims.specs.Session.{bytes_in, limiting, called}
use Rattle.turns.proofs.Told.{place_finished}
use Rattle.host_claims.specs.HostSession.{HostCall, process, flush, set_parameter, reset, claimed, told_by, host_called, hosting}
use Rattle.host_claims.specs.HostClaim.{Returns, CallReturns, HandedOn}

-- ---- what it returns
-- the limiter's own outcome
abbrev pub outcome_of : HostCall → List ℕ → Stores → Outcome
outcome_of call state stores = called limiting (machine_in state stores) (claimed call)

pub returns : (call : HostCall) (answer state : List ℕ) (stores : Stores)
    → (let o = outcome_of call state stores in host_called call answer state stores ≡ returned_with (returned answer state (told_by call o.reply) o.machine) o.bytes)
unfolding audio_by called_by
returns (process format position frames words bytes) answer state stores = refl
returns (flush format frames bytes) answer state stores = refl
returns (set_parameter id word) answer state stores = refl
returns reset answer state stores = refl

-- the answer buffer's reply has the reply's number
pub told_number : (call : HostCall) (reply : Reply) → (told_by call reply).number ≡ reply.number
told_number (process format position frames words bytes) reply = refl
told_number (flush format frames bytes) reply = refl
told_number (set_parameter id word) reply = go (eqb reply.number 23) refl
  where
    go : (b : Bool) → eqb reply.number 23 ≡ b → (cond b (refused 23 (count id ∷ count word ∷ [])) reply).number ≡ reply.number
    go true e = sym (eqb-true reply.number 23 e)
    go false e = refl
told_number reset reply = refl

-- ---- a refused call leaves machine and audio as they were
kept : (b : Bool) (done : Outcome) (r : Reply) (m : Machine) (bytes : List ℕ) → done.reply.number ≡ 0
    → (let o = cond b done (refused_as r m bytes) in (o.reply.number ≡ 0 → ⊥) → (o.machine ≡ m) × (o.bytes ≡ bytes))
kept true done r m bytes z some = absurd (some z)
kept false done r m bytes z some = (refl, refl)

refused_kept : (m : Machine) (call : HostCall) → (let o = called limiting m (claimed call) in (o.reply.number ≡ 0 → ⊥) → (o.machine ≡ m) × (o.bytes ≡ bytes_in (claimed call)))
unfolding block_by drain_by parameter_of reset_of
refused_kept m (process format position frames words bytes) some =
    let events = events_of words in
    let r = block_reply m position frames events (size_of format bytes) in
    let done = block_done (rendered_in format m) format m position frames events bytes in
    kept (eqb r.number 0) done r m bytes (place_finished (place_of (peaks_of_frames done.frames))) some
refused_kept m (flush format frames bytes) some =
    let r = drain_reply m frames (size_of format bytes) in
    kept (eqb r.number 0) (drain_done (rendered_in format m) format m frames bytes) r m bytes refl some
refused_kept m (set_parameter id word) some = (rw (ne_eqb (parameter_reply m id (bits word)).number 0 some) refl, refl)
refused_kept m reset some = (rw (ne_eqb _ 0 some) refl, refl)

gain_kept : (m : Machine) (x : Float) → (let o = gain_step m x in (o.reply.number ≡ 0 → ⊥) → o.machine ≡ m)
unfolding gain_step
gain_kept m x = go (eqb (gain_reply m) 0)
  where
    go : (b : Bool) → (let o = cond b (gain_done m (gain_of m x)) (left (numbered (gain_reply m)) m) in (o.reply.number ≡ 0 → ⊥) → o.machine ≡ m)
    go true some = absurd (some refl)
    go false some = refl

-- ---- what a call returns, by its reply
module _ (answer state : List ℕ) (stores : Stores) (reply : Reply) (m : Machine) (same : (reply.number ≡ 0 → ⊥) → m ≡ machine_in state stores) where
  pub returned_returns : Returns answer state stores reply m (returned answer state reply m)
  returned_returns = record {
    number = refl;
    words = refl;
    written = λ z. (ap (λ (b : Bool). cond b (state_out (processor_of m)) state) (eq-eqb reply.number 0 z), refl);
    refusal = λ some. (ap (λ (b : Bool). cond b (state_out (processor_of m)) state) (ne_eqb reply.number 0 some), ap (λ (n : Machine). n.stores) (same some));
  }

pub call_returns : (call : HostCall) (answer state : List ℕ) (stores : Stores) → CallReturns call answer state stores (outcome_of call state stores) (host_called call answer state stores)
call_returns call answer state stores =
    let o = outcome_of call state stores in
    let number = told_number call o.reply in
    let left = refused_kept (machine_in state stores) call in
    subst (CallReturns call answer state stores o) (sym (returns call answer state stores))
    (record {
      returns = returned_returns answer state stores (told_by call o.reply) o.machine (λ some. (left (λ z. some (number ∙ z))).0);
      replied = number;
      audio = refl;
      refusal = λ some. (left (λ z. some (number ∙ z))).1;
    })

pub gain_returns : (gain : ℕ) (answer state : List ℕ) (stores : Stores)
    → (let o = gain_step (machine_in state stores) (bits gain) in Returns answer state stores o.reply o.machine (called_by (λ (m : Machine). gain_step m (bits gain)) answer state stores))
unfolding called_by
gain_returns gain answer state stores =
    let m = machine_in state stores in
    let o = gain_step m (bits gain) in
    returned_returns answer state stores o.reply o.machine (gain_kept m (bits gain))

-- ---- what it leaves can be stored, and is what is read
pub called_storable : (m : Machine) → Storable (processor_of m) → (call : HostCall) → Storable (processor_of (called limiting m (claimed call)).machine)
called_storable m h (process format position frames words bytes) = block_storable m h format position frames (events_of words) bytes (events_fit words 0 (length words / 3))
called_storable m h (flush format frames bytes) = drain_storable m h format frames bytes
called_storable m h (set_parameter id word) = parameter_storable m h id (bits word) (bits_fit word)
called_storable m h reset = reset_storable m h

-- written where the reply says that the work is finished
pub read_returned : (answer state : List ℕ) (stores : Stores) (reply : Reply) (m : Machine) → Storable (processor_of m) → ((reply.number ≡ 0 → ⊥) → m ≡ machine_in state stores)
    → (let r = returned answer state reply m in machine_in r.state r.stores ≡ m)
read_returned answer state stores reply m h same = go (eqb reply.number 0) refl
  where
    go : (b : Bool) → eqb reply.number 0 ≡ b → machine_in (cond b (state_out (processor_of m)) state) m.stores ≡ m
    go true e = ap (λ (p : KernelProcessor). machine_at p m.stores) (read_written (processor_of m) h)
    go false e =
        let k = same (eqb-false reply.number 0 e) in
        ap (λ (n : Machine). machine_in state n.stores) k ∙ sym k

pub call_handed_on : (call : HostCall) (answer state : List ℕ) (stores : Stores) → Storable (processor_in state)
    → HandedOn limiting hosting call answer state stores
call_handed_on call answer state stores h =
    let m = machine_in state stores in
    let o = outcome_of call state stores in
    ap (λ (r : ReturnedAudio). machine_in r.result.state r.result.stores) (returns call answer state stores)
    ∙ read_returned answer state stores (told_by call o.reply) o.machine (called_storable m h call) (λ some. (refused_kept m call (λ z. some (told_number call o.reply ∙ z))).0)

-- ---- the lone gain step
pub gain_handed_on : (gain : ℕ) (answer state : List ℕ) (stores : Stores) → Storable (processor_in state)
    → (let r = called_by (λ (m : Machine). gain_step m (bits gain)) answer state stores in machine_in r.state r.stores ≡ (gain_step (machine_in state stores) (bits gain)).machine)
unfolding called_by
gain_handed_on gain answer state stores h =
    let m = machine_in state stores in
    let o = gain_step m (bits gain) in
    read_returned answer state stores o.reply o.machine (gain_storable m h (bits gain)) (gain_kept m (bits gain))
