-- The bank through every call: what bytes can hold of it stays so, and the slots past the threshold's hold no parameter.
use mathlib.Core.Path.{◌≡◌, refl}
use mathlib.Core.Bool.{Bool, true, false, cond, not}
use mathlib.Core.List.{List, [], ◌∷◌}
use Prim.Native.Nat.{ℕ, zero, suc, ◌+◌, ◌*◌, ◌%◌, ◌^◌, ◌<◌}
use native.Mathlib.Nat.{mod-lt}
use native.Mathlib.Omega.{arith}
use lib.Dec.{eqb, leb, ltb}
use lib.ListN.{get_or, take, drop, replicate}
use lib.Ieee.{Float, nan}
use lib.Ieee.Scale.{finite}
use borrow.Author.Tests.{eqb-true, ltb-true, leb-false, not-true}
use Rattle.arithmetic.specs.Reply.{finished, refused, numbered, count, float, must}
use Rattle.arithmetic.proofs.Passed.{passed_must, passed_then}
use Rattle.audio.specs.Bytes.{words_in}
use Rattle.audio.specs.Format.{size_of, samples_of}
use Rattle.audio.specs.Planar.{frames_at}
use Rattle.audio.specs.declared.format.Format.{Format}
use Rattle.settings.specs.declared.LimiterSettings.{LimiterSettings}
use Rattle.bank.specs.Smoother.{immediate_set, target_set, stepped, reset_one}
use Rattle.bank.specs.Bank
use Rattle.bank.specs.Bank.{slot_at, unset, first_mapped, all_changed, one_changed, set_up_of, declared_reply}
use Rattle.bank.specs.declared.param.ParamInfo.{ParamInfo}
use Rattle.bank.specs.declared.smoother.Smoother.{Smoother}
use Rattle.bank.specs.declared.smoother_bank.SmootherBank.{SmootherBank}
use Rattle.turns.specs.Machine.{Machine, machine_of, prepared, reset_refusal, threshold_param}
use Rattle.turns.specs.Events.{Event, events_from, latched_one, Latched, latched, latched_all}
use Rattle.turns.specs.Block.{Renderer, period, bank_at, runs_of, turn_by, runs_through, block_reply, Outcome, refused_as, rendered_in, block_done, block_by, block_of}
use Rattle.turns.specs.Drain.{drain_reply, drain_done, drain_by, drain_of}
use Rattle.driver.specs.Calls.{Left, left, parameter_reply, parameter_of, reset_done, reset_of, gain_reply, gain_of, gain_done, gain_step}
use Rattle.driver.specs.declared.state.KernelProcessor.{KernelProcessor}
use Rattle.driver.proofs.Judged.{prepared_is}
use Rattle.state_bytes.specs.State.{is_state, state_words, state_in, never, processor_in}
use Rattle.state_bytes.proofs.Storable.{Fits, SmootherFits, BankFits}
use Rattle.arithmetic.proofs.Fitting.{zero-fits}
use Rattle.state_bytes.proofs.Floats.{bits_fit}
use Rattle.state_bytes.proofs.Smoothers.{immediate_fits, reset_fits, target_fits, step_fits, new_fits}
use Rattle.state_bytes.proofs.Finished.{parameter_set_up, reset_set_up, block_judged_lem}

-- by cases of a test
pub chosen : {A : Type 0} (P : A → Type 0) (b : Bool) (new old : A) → (b ≡ true → P new) → P old → P (cond b new old)
chosen P true new old f v = f refl
chosen P false new old f v = v

-- ---- changes of the one parameter
module _ (f : Smoother → Smoother) (keeps : (s : Smoother) → SmootherFits s → SmootherFits (f s)) (b : SmootherBank) (v : BankFits b) where
  all_fits : b.count ≡ 1 → BankFits (all_changed f b)
  unfolding first_mapped
  all_fits n = rw (n, v.slots) (record { first = keeps (slot_at 0 b.smoothers) v.first; slots = refl; count = omega arith; rate = v.rate })

  one_fits : (id : ℕ) → id < 1 → BankFits (one_changed f id b)
  one_fits zero h = rw v.slots (record { first = keeps (slot_at 0 b.smoothers) v.first; slots = refl; count = v.count; rate = v.rate })
  one_fits (suc id) h = absurd (omega arith)

-- ---- the calls
module _ (m : Machine) (v : BankFits m.bank) where
  one : prepared m.limiter m.bank ≡ true → m.bank.count ≡ 1
  one h = (prepared_is m.limiter m.bank h).one

  pub parameter_bank : (id : ℕ) (x : Float) → Fits x → BankFits (parameter_of m id x).machine.bank
  unfolding parameter_of parameter_reply
  parameter_bank id x X = chosen (λ (n : Machine). BankFits n.bank) (eqb (parameter_reply m id x).number 0) (machine_of m.limiter (one_changed (immediate_set x) id m.bank) m.stores) m done v
    where
      done : eqb (parameter_reply m id x).number 0 ≡ true → BankFits (one_changed (immediate_set x) id m.bank)
      done e =
          let z = eqb-true (parameter_reply m id x).number 0 e in
          let known = not (leb m.bank.count id) in
          let first = passed_then (must (prepared m.limiter m.bank) 18) _ z in
          let second = passed_then (cond (finite x) (finished []) (refused 23 (count id ∷ float x ∷ []))) (must known 24) first.1 in
          let i = leb-false m.bank.count id (not-true (leb m.bank.count id) (passed_must known 23 second.1)) in
          one_fits (immediate_set x) (λ s h. immediate_fits s h x X) m.bank v id (omega (arith, one (parameter_set_up m id x z), i))

  pub reset_bank : BankFits (reset_of m).machine.bank
  unfolding reset_of
  reset_bank =
      chosen (λ (n : Machine). BankFits n.bank) (eqb (reset_refusal m) 0) (reset_done m) m
      (λ (e : eqb (reset_refusal m) 0 ≡ true). all_fits reset_one reset_fits m.bank v (one (reset_set_up m (eqb-true (reset_refusal m) 0 e)))) v

  pub gain_bank : (x : Float) → BankFits (gain_step m x).machine.bank
  unfolding gain_step
  gain_bank x = chosen (λ (o : Left). BankFits o.machine.bank) (eqb (gain_reply m) 0) (gain_done m (gain_of m x)) (left (numbered (gain_reply m)) m) (λ _. v) v

  pub drain_bank : (format : Format) (frames : ℕ) (bytes : List ℕ) → BankFits (drain_of format m frames bytes).machine.bank
  unfolding drain_by
  drain_bank format frames bytes =
      let reply = drain_reply m frames (size_of format bytes) in
      chosen (λ (o : Outcome). BankFits o.machine.bank) (eqb reply.number 0) (drain_done (rendered_in format m) format m frames bytes) (refused_as reply m bytes) (λ _. v) v

-- ---- the runs of a block
-- events whose values are floats of binary64, as their words' are
pub data AllFit : List Event → Type 0 where
  none : AllFit []
  some : {e : Event} {es : List Event} → Fits e.value → AllFit es → AllFit (e ∷ es)

pub events_fit : (words : List ℕ) (i n : ℕ) → AllFit (events_from words i n)
unfolding events_from
events_fit words i zero = none
events_fit words i (suc n) = some (bits_fit (get_or words (3 * i + 2) 0)) (events_fit words (i + 1) n)

-- a bank of one parameter
record One (b : SmootherBank) : Type 0 where
  count-is : b.count ≡ 1
  held : BankFits b

latched_one_lem : (e : Event) → Fits e.value → (b : SmootherBank) → One b → One (latched_one e b)
latched_one_lem e f b o = go (ltb e.id b.count) refl
  where
    go : (k : Bool) → ltb e.id b.count ≡ k → One (cond k (one_changed (target_set e.value) e.id b) b)
    go true h = record {
      count-is = o.count-is;
      held = one_fits (target_set e.value) (λ s k. target_fits s k e.value f) b o.held e.id (omega (arith, ltb-true e.id b.count h, o.count-is));
    }
    go false h = o

-- the bank after events, and those that wait
record Latching (l : Latched) : Type 0 where
  bank_one : One l.bank
  waiting_fit : AllFit l.waiting

latched_some : (first : ℕ) (events : List Event) (b : SmootherBank) → AllFit events → One b → Latching (latched first events b)
unfolding latched
latched_some first [] b none o = record { bank_one = o; waiting_fit = none }
latched_some first (e ∷ events) b (some f fs) o = go (leb e.offset first) (latched_some first events (latched_one e b) fs (latched_one_lem e f b o))
  where
    go : (k : Bool) → Latching (latched first events (latched_one e b)) → Latching (cond k (latched first events (latched_one e b)) (record { bank = b; waiting = e ∷ events }))
    go true later = later
    go false later = record { bank_one = o; waiting_fit = some f fs }

latched_all_lem : (events : List Event) (b : SmootherBank) → AllFit events → One b → One (latched_all events b)
unfolding latched_all
latched_all_lem [] b none o = o
latched_all_lem (e ∷ events) b (some f fs) o = latched_all_lem events (latched_one e b) fs (latched_one_lem e f b o)

stepped_one : (position : ℕ) (b : SmootherBank) → One b → One (bank_at position b)
stepped_one position b o = go (eqb (position % period) 0)
  where
    go : (k : Bool) → One (cond k (all_changed stepped b) b)
    go true = record { count-is = o.count-is; held = all_fits stepped step_fits b o.held o.count-is }
    go false = o

runs_one : (render : Renderer) (position first : ℕ) (ns : List ℕ) (events : List Event) (fs : List (List Float)) (m : Machine) → AllFit events → One m.bank
    → One (runs_through render position first ns events fs m).machine.bank
unfolding runs_through
runs_one render position first [] events fs m k o = latched_all_lem events m.bank k o
runs_one render position first (n ∷ ns) events fs m k o =
    let t = turn_by render position first events (take n fs) m in
    let l = latched_some first events m.bank k o in
    runs_one render (position + n) (first + n) ns t.waiting (drop n fs) t.machine l.waiting_fit (stepped_one position (latched first events m.bank).bank l.bank_one)

pub block_bank : (m : Machine) → BankFits m.bank → (format : Format) (position frames : ℕ) (events : List Event) (bytes : List ℕ) → AllFit events → BankFits (block_of format m position frames events bytes).machine.bank
unfolding block_by
block_bank m v format position frames events bytes k =
    let reply = block_reply m position frames events (size_of format bytes) in
    let render = rendered_in format m in
    let fs = frames_at nan frames m.limiter.channels 0 frames (samples_of format bytes) in
    chosen (λ (o : Outcome). BankFits o.machine.bank) (eqb reply.number 0) (block_done render format m position frames events bytes) (refused_as reply m bytes)
    (λ (e : eqb reply.number 0 ≡ true).
    let p = block_judged_lem m position frames events (size_of format bytes) (eqb-true reply.number 0 e) in
    (runs_one render position 0 (runs_of position frames) events fs m k (record { count-is = one m v p; held = v })).held)
    v

-- ---- setup
pub unset_fits : BankFits unset
unset_fits = record {
  first = record { id = omega arith; cur = zero-fits; target = zero-fits; low = zero-fits; high = zero-fits; default = zero-fits; steps = zero-fits; left = omega arith; delta = zero-fits; coeff = zero-fits; time = zero-fits };
  slots = refl;
  count = omega arith;
  rate = omega arith;
}

pub setup_bank : (s : LimiterSettings) (rate : ℕ) → Fits s.threshold_db → rate < 2 ^ 32 → BankFits (set_up_of (replicate 8 (threshold_param s)) 1 rate).bank
unfolding set_up_of Bank.slots_of
setup_bank s rate t r = go (eqb (declared_reply (replicate 8 p) 1).number 0)
  where
    p : ParamInfo
    p = threshold_param s

    go : (b : Bool) → BankFits (cond b (record { smoothers = Bank.slots_of rate 1 (replicate 8 p); count = 1; rate = rate; ready = true }) unset)
    go true = record { first = new_fits rate p (omega arith) (bits_fit _) zero-fits t (bits_fit _); slots = refl; count = omega arith; rate = r }
    go false = unset_fits

-- ---- what is read
pub read_bank : (state : List ℕ) → ((i : ℕ) → get_or (words_in 8 state_words state) i 0 < 2 ^ 64) → BankFits (processor_in state).bank
unfolding processor_in state_in
read_bank state small =
    chosen (λ (p : KernelProcessor). BankFits p.bank) (is_state state) (state_in (words_in 8 state_words state)) never
    (λ _. record {
      first = record {
        id = mod-lt _ (omega arith);
        cur = bits_fit _;
        target = bits_fit _;
        low = bits_fit _;
        high = bits_fit _;
        default = bits_fit _;
        steps = bits_fit _;
        left = small 26;
        delta = bits_fit _;
        coeff = bits_fit _;
        time = bits_fit _;
      };
      slots = refl;
      count = small 31;
      rate = mod-lt _ (omega arith);
    })
    unset_fits
