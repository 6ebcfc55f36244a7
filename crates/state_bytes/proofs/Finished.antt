-- Finished work was asked of a limiter that is set up, and such a one was read from a state's bytes.
use mathlib.Core.Path.{◌≡◌, refl}
use mathlib.Core.Bool.{Bool, true, false, cond}
use mathlib.Core.List.{List}
use Prim.Native.Nat.{ℕ}
use lib.Dec.{eqb}
use lib.ListN.{length}
use lib.Ieee.{Float}
use borrow.Author.Tests.{eqb-true}
use Rattle.arithmetic.specs.Reply.{numbered, must}
use Rattle.arithmetic.proofs.Order.{and-true, clash}
use Rattle.arithmetic.proofs.Passed.{passed_unless, passed_must, passed_then}
use Rattle.audio.specs.Bytes.{words_in}
use Rattle.audio.specs.Format.{size_of}
use Rattle.audio.specs.declared.format.Format.{Format}
use Rattle.bank.specs.Bank
use Rattle.bank.specs.Bank.{unset}
use Rattle.turns.specs.Machine.{Machine, prepared, ready_refusal, reset_refusal}
use Rattle.turns.specs.Events.{Event}
use Rattle.turns.specs.Block.{block_reply, Outcome, refused_as, rendered_in, block_done, block_by, block_of}
use Rattle.turns.specs.Drain.{drain_reply, drain_done, drain_by, drain_of}
use Rattle.driver.specs.Calls.{Left, left, parameter_reply, parameter_of, reset_of, gain_reply, gain_of, gain_done, gain_step}
use Rattle.driver.specs.declared.state.KernelProcessor.{KernelProcessor}
use Rattle.driver.proofs.Judged.{prepared_is}
use Rattle.state_bytes.specs.State.{state_bytes, state_words, holds_state, is_state, state_in, never, processor_in}

-- ---- 18 comes first
-- the number that was judged, of a call that keeps things as they were unless it is 0
number_was : {A : Type 0} (number_of : A → ℕ) (n : ℕ) (done kept : A) → number_of kept ≡ n → number_of (cond (eqb n 0) done kept) ≡ 0 → n ≡ 0
number_was {A} number_of n done kept e z = go (eqb n 0) refl z
  where
    go : (b : Bool) → eqb n 0 ≡ b → number_of (cond b done kept) ≡ 0 → n ≡ 0
    go true f y = eqb-true n 0 f
    go false f y = rw (← e) y

module _ (m : Machine) where
  abbrev pub SetUp : Type 0
  SetUp = prepared m.limiter m.bank ≡ true

  ready_set_up : ready_refusal m ≡ 0 → SetUp
  unfolding ready_refusal
  ready_set_up z = (passed_unless (prepared m.limiter m.bank) 17 _ z).0

  pub parameter_set_up : (id : ℕ) (x : Float) → (parameter_of m id x).reply.number ≡ 0 → SetUp
  unfolding parameter_of parameter_reply
  parameter_set_up id x z = passed_must (prepared m.limiter m.bank) 17 (passed_then (must (prepared m.limiter m.bank) 18) _ z).0

  pub reset_set_up : (reset_of m).reply.number ≡ 0 → SetUp
  unfolding reset_of reset_refusal
  reset_set_up z = (passed_unless (prepared m.limiter m.bank) 17 _ z).0

  pub gain_set_up : (x : Float) → (gain_step m x).reply.number ≡ 0 → SetUp
  unfolding gain_step gain_reply
  gain_set_up x z =
      (passed_unless (prepared m.limiter m.bank) 17 _
      (number_was (λ (o : Left). o.reply.number) (gain_reply m) (gain_done m (gain_of m x)) (left (numbered (gain_reply m)) m) refl z)).0

  pub block_judged_lem : (position frames : ℕ) (events : List Event) (size : ℕ) → (block_reply m position frames events size).number ≡ 0 → SetUp
  unfolding block_reply
  block_judged_lem position frames events size z = ready_set_up (passed_then (numbered (ready_refusal m)) _ z).0

  pub block_set_up : (format : Format) (position frames : ℕ) (events : List Event) (bytes : List ℕ) → (block_of format m position frames events bytes).reply.number ≡ 0 → SetUp
  unfolding block_by
  block_set_up format position frames events bytes z =
      let reply = block_reply m position frames events (size_of format bytes) in
      block_judged_lem position frames events (size_of format bytes)
      (number_was (λ (o : Outcome). o.reply.number) reply.number (block_done (rendered_in format m) format m position frames events bytes) (refused_as reply m bytes) refl z)

  pub drain_set_up : (format : Format) (frames : ℕ) (bytes : List ℕ) → (drain_of format m frames bytes).reply.number ≡ 0 → SetUp
  unfolding drain_by drain_reply
  drain_set_up format frames bytes z =
      let reply = drain_reply m frames (size_of format bytes) in
      let n = number_was (λ (o : Outcome). o.reply.number) reply.number (drain_done (rendered_in format m) format m frames bytes) (refused_as reply m bytes) refl z in
      ready_set_up (passed_then (numbered (ready_refusal m)) _ n).0

-- ---- what is set up is no bytes but a state's
pub set_up_state : (state : List ℕ) → (let p = processor_in state in prepared p.limiter p.bank ≡ true → is_state state ≡ true)
unfolding processor_in Bank.prepared
set_up_state state h = go (is_state state) refl h
  where
    go : (b : Bool) → is_state state ≡ b → (let p : KernelProcessor = cond b (state_in (words_in 8 state_words state)) never in prepared p.limiter p.bank ≡ true → b ≡ true)
    go true e k = refl
    go false e k = clash (Bank.prepared unset) (prepared_is never.limiter unset k).bank refl

pub set_up_long : (state : List ℕ) → (let p = processor_in state in prepared p.limiter p.bank ≡ true → length state ≡ state_bytes)
unfolding is_state
set_up_long state h = eqb-true (length state) state_bytes (and-true (eqb (length state) state_bytes) (holds_state (words_in 8 state_words state)) (set_up_state state h)).0
