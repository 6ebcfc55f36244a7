-- THE CLAIM OVER THE C FUNCTIONS, proved.
use mathlib.Core.Path.{◌≡◌, refl, sym, ap, subst, ◌∙◌}
use mathlib.Core.Bool.{Bool, true, false}
use mathlib.Core.List.{List, [], ◌∷◌}
use Prim.Native.Nat.{ℕ, ◌%◌}
use native.Mathlib.Nat.{mod-lt}
use native.Mathlib.Omega.{arith}
use lib.Dec.{eqb}
use lib.ListN.{length}
use borrow.Author.Tests.{eqb-true, eqb-false, eq-eqb}
use Rattle.arithmetic.specs.Number.{bits}
use Rattle.arithmetic.specs.Reply.{Reply, numbered}
use Rattle.settings.specs.Settings.{settings_of}
use Rattle.settings.specs.House.{weights_for}
use Rattle.settings.specs.declared.LimiterSettings.{LimiterSettings}
use Rattle.settings.specs.declared.ProcessSpec.{ProcessSpec}
use Rattle.limiter.specs.State.{not_set_up, spec_of}
use Rattle.limiter.specs.Stores.{Stores}
use Rattle.bank.specs.Bank.{unset, value_of}
use Rattle.turns.specs.Machine.{Machine, machine_of, threshold_of}
use Rattle.turns.specs.Block.{Outcome, refused_as}
use Rattle.driver.specs.Answers.{machine_at}
use Rattle.driver.specs.Calls.{Left, left, setup_of, reset_of, gain_step, read_of}
use Rattle.driver.specs.declared.state.KernelProcessor.{KernelProcessor}
use Rattle.state_bytes.specs.State.{state_bytes, never, processor_of, processor_in, state_out}
use Rattle.state_bytes.proofs.Storable.{Storable}
use Rattle.state_bytes.proofs.Inverse.{read_written}
use Rattle.state_bytes.proofs.Floats.{bits_fit}
use Rattle.state_bytes.proofs.Kept.{SettingsFit, never_storable, setup_storable, read_storable}
use Rattle.host.specs.Answer.{answered_by}
use Rattle.host.specs.Host.{Returned, returned_at, returned, ReturnedAudio, returned_with, machine_in, value_by, lent_to, setup_by}
use Rattle.host.proofs.Buffers.{buffer_reply, buffer_refused, wrong_buffer}
use Rattle.claims.specs.Session.{bytes_in, limiting, called}
use Rattle.claims.specs.Book.{Book}
use Rattle.claims.specs.BookCalls.{opened, opened_new, enter}
use Rattle.claims.specs.Claim.{drops_after}
use Rattle.claims.proofs.Calls.{Tied, tied_values, CountedIn, none_counted}
use Rattle.claims.proofs.Setups.{setup_left_alone, setup_tied}
use Rattle.claims.proofs.Starts.{reset_answers, reset_opened}
use Rattle.claims.proofs.Refused.{unready, one_18, others}
use Rattle.claims.proofs.Claimed.{call_done, claim}
use Rattle.claims.proofs.GainSteps.{gain_claim}
use Rattle.host_claims.specs.HostSession.{HostCall, process, flush, set_parameter, reset, claimed, told_by, Made, acts, reads, hosting, host_called}
use Rattle.host_claims.specs.HostClaim.{Returns, Reads, SetupReturns, HostHolds, HostRefuses, Bytes, HostClaim}
use Rattle.host_claims.proofs.HandedOn.{outcome_of, returns, call_returns, gain_returns, called_storable, call_handed_on, gain_handed_on}

-- ---- every list of calls
pub made_hold : (made : List Made) (drops : ℕ) (b : Book) (state : List ℕ) (stores : Stores) → Tied b (machine_in state stores) → CountedIn drops b (machine_in state stores) → Storable (processor_in state)
    → HostHolds limiting hosting drops b state stores made
unfolding value_by
made_hold [] drops b state stores t n h = tt
made_hold (acts answer call ∷ later) drops b state stores t n h =
    let m = machine_in state stores in
    let c = claimed call in
    let o = outcome_of call state stores in
    let next = (host_called call answer state stores).result in
    let book = (enter b c).book in
    let d = call_done drops b m t n c in
    let read = call_handed_on call answer state stores h in
    let onward = sym read in (
      d.holds,
      (
        call_returns call answer state stores,
        (
          read,
          made_hold later (drops_after drops c o) book next.state next.stores (subst (Tied book) onward d.tied) (subst (CountedIn (drops_after drops c o) book) onward d.counted)
              (subst Storable (ap processor_of onward) (called_storable m h call)),
        ),
      ),
    )
made_hold (reads answer id ∷ later) drops b state stores t n h =
    let v = tied_values b (machine_in state stores) t id in
    (record { number = ap (λ (x : Reply). x.number) v; words = ap (answered_by answer) v }, made_hold later drops b state stores t n h)

-- from a book that opens with a machine which the bytes hold
opened_hold : (b : Book) (m : Machine) (state : List ℕ) (stores : Stores) → length b.frames ≡ 0 → Tied b m → Storable (processor_of m) → machine_in state stores ≡ m → (made : List Made) → HostHolds limiting hosting 0 b state stores made
opened_hold b m state stores none t h e made =
    let u = subst (Tied b) (sym e) t in
    made_hold made 0 b state stores u (none_counted b (machine_in state stores) u none) (subst Storable (ap processor_of (sym e)) h)

-- ---- setup
module _ (s : LimiterSettings) (spec : ProcessSpec) (answer state : List ℕ) (stores : Stores) where
  abbrev set : Returned
  set = setup_by s spec answer state stores

  abbrev own : Left
  own = setup_of s spec stores

  -- in a buffer of a state's length
  setup_whole : length state ≡ state_bytes → set ≡ returned_at own.reply.number (answered_by answer own.reply) (state_out (processor_of own.machine)) own.machine.stores
  unfolding setup_by
  setup_whole l = rw (eq-eqb (length state) state_bytes l) refl

  setup_long : set.number ≡ 0 → length state ≡ state_bytes
  setup_long z = go (eqb (length state) state_bytes) refl
    where
      go : (b : Bool) → eqb (length state) state_bytes ≡ b → length state ≡ state_bytes
      go true e = eqb-true (length state) state_bytes e
      go false e = absurd (eqb-false (buffer_reply s spec stores).number 0 (buffer_refused s spec stores) (sym (ap (λ (r : Returned). r.number) (wrong_buffer s spec stores answer state e)) ∙ z))

  -- finished: the bytes hold the machine that setup left
  module _ (f : SettingsFit s) (z : set.number ≡ 0) where
    whole : set ≡ returned_at own.reply.number (answered_by answer own.reply) (state_out (processor_of own.machine)) own.machine.stores
    whole = setup_whole (setup_long z)

    finished_own : own.reply.number ≡ 0
    finished_own = sym (ap (λ (r : Returned). r.number) whole) ∙ z

    start_tied : Tied (opened_new s spec (weights_for s spec stores.weights)) own.machine
    start_tied = setup_tied s spec stores finished_own

    start_read : machine_in set.state set.stores ≡ own.machine
    start_read =
        ap (λ (r : Returned). machine_in r.state r.stores) whole
        ∙ ap (λ (p : KernelProcessor). machine_at p own.machine.stores) (read_written (processor_of own.machine) (setup_storable s spec stores f))

    setup_holds : (made : List Made) → HostHolds limiting hosting 0 (opened_new s spec (weights_for s spec stores.weights)) set.state set.stores made
    setup_holds made = opened_hold (opened_new s spec (weights_for s spec stores.weights)) own.machine set.state set.stores refl start_tied (setup_storable s spec stores f) start_read made

  -- refused: the buffer holds no limiter, or what it held
  module _ (some : set.number ≡ 0 → ⊥) where
    alone : length state ≡ state_bytes → own.machine ≡ machine_of not_set_up unset stores
    alone l = setup_left_alone s spec stores (λ z. some (ap (λ (r : Returned). r.number) (setup_whole l) ∙ z))

    refused_stores : set.stores ≡ stores
    refused_stores = go (eqb (length state) state_bytes) refl
      where
        go : (b : Bool) → eqb (length state) state_bytes ≡ b → set.stores ≡ stores
        go true e =
            let l = eqb-true (length state) state_bytes e in
            ap (λ (r : Returned). r.stores) (setup_whole l) ∙ ap (λ (m : Machine). m.stores) (alone l)
        go false e = ap (λ (r : Returned). r.stores) (wrong_buffer s spec stores answer state e)

    refused_read : length state ≡ state_bytes → processor_in set.state ≡ never
    refused_read l =
        ap (λ (r : Returned). processor_in r.state) (setup_whole l) ∙ ap (λ (m : Machine). processor_in (state_out (processor_of m))) (alone l) ∙ read_written never never_storable

-- ---- reset
module _ (answer state : List ℕ) (stores : Stores) (bytes : Bytes state) where
  abbrev held : Machine
  held = machine_in state stores

  abbrev reset_by : Returned
  reset_by = (host_called reset answer state stores).result

  reset_holds : reset_by.number ≡ 0 → (made : List Made)
      → (let k = (processor_in state).limiter in HostHolds limiting hosting 0 (opened k.settings (spec_of k) stores.weights (threshold_of (reset_of held).machine.bank)) reset_by.state reset_by.stores made)
  reset_holds z made =
      let h = read_storable state bytes in
      let passed = sym (ap (λ (r : Reply). r.number) (reset_answers held)) ∙ sym (call_returns reset answer state stores).replied ∙ z in
      opened_hold _ (reset_of held).machine reset_by.state reset_by.stores refl (reset_opened held passed) (called_storable held h reset) (call_handed_on reset answer state stores h) made

-- ---- bytes that hold no limiter: 18
told_18 : (call : HostCall) → told_by call (numbered 18) ≡ numbered 18
told_18 (process format position frames words bytes) = refl
told_18 (flush format frames bytes) = refl
told_18 (set_parameter id word) = refl
told_18 reset = refl

never_called : (stores : Stores) (call : HostCall) → called limiting (unready stores) (claimed call) ≡ refused_as (numbered 18) (unready stores) (bytes_in (claimed call))
never_called stores call =
    let g = one_18 stores (claimed call) in
    λ i. record { reply = g.reply i; machine = g.machine i; bytes = g.bytes i; frames = g.frames i }

module _ (state : List ℕ) (stores : Stores) (e : processor_in state ≡ never) where
  no_machine : machine_in state stores ≡ unready stores
  no_machine = ap (λ (p : KernelProcessor). machine_at p stores) e

  act_18 : (call : HostCall) (answer : List ℕ) → host_called call answer state stores ≡ returned_with (returned_at 18 (answered_by answer (numbered 18)) state stores) (bytes_in (claimed call))
  act_18 call answer =
      returns call answer state stores
      ∙ ap (λ (x : Outcome). returned_with (returned answer state (told_by call x.reply) x.machine) x.bytes) (ap (λ (m : Machine). called limiting m (claimed call)) no_machine ∙ never_called stores call)
      ∙ ap (λ (r : Reply). returned_with (returned answer state r (unready stores)) (bytes_in (claimed call))) (told_18 call)

  read_18 : (id : ℕ) → read_of (processor_in state).bank id ≡ numbered 18
  read_18 id = ap (λ (p : KernelProcessor). read_of p.bank id) e ∙ (others stores).reading id

  gain_18 : (gain : ℕ) (answer : List ℕ) → Returns answer state stores (numbered 18) (machine_in state stores) (hosting.gains gain answer state stores)
  gain_18 gain answer =
      let m = machine_in state stores in
      let is : gain_step m (bits gain) ≡ left (numbered 18) m =
      subst (λ (n : Machine). gain_step n (bits gain) ≡ left (numbered 18) n) (sym no_machine) ((others stores).gain_step_lem (bits gain))
      in
      subst (λ (o : Left). Returns answer state stores o.reply o.machine (hosting.gains gain answer state stores)) is (gain_returns gain answer state stores)

never_refuses : (made : List Made) (state : List ℕ) (stores : Stores) → processor_in state ≡ never → HostRefuses hosting state stores made
unfolding value_by
never_refuses [] state stores e = tt
never_refuses (acts answer call ∷ later) state stores e =
    let r = act_18 state stores e call answer in (
      (
        ap (λ (x : ReturnedAudio). x.result.number) r,
        ap (λ (x : ReturnedAudio). x.result.answer) r,
        ap (λ (x : ReturnedAudio). x.result.state) r,
        ap (λ (x : ReturnedAudio). x.result.stores) r,
        ap (λ (x : ReturnedAudio). x.audio) r,
      ),
      never_refuses later _ _ (ap (λ (x : ReturnedAudio). processor_in x.result.state) r ∙ e),
    )
never_refuses (reads answer id ∷ later) state stores e =
    let r = read_18 state stores e id in
    (record { number = ap (λ (x : Reply). x.number) r; words = ap (answered_by answer) r }, never_refuses later state stores e)

-- ---- the claim
setup_returns : (s : LimiterSettings) (spec : ProcessSpec) (answer state : List ℕ) (stores : Stores)
    → SetupReturns answer state stores (setup_of s spec (lent_to state stores)) (setup_by s spec answer state stores)
unfolding setup_by
setup_returns s spec answer state stores = record { number = refl; words = refl; written = refl; left = refl }

value_reads : (id : ℕ) (answer state : List ℕ) → Reads answer (value_of (processor_in state).bank id) (value_by id answer state)
unfolding value_by
value_reads id answer state = record { number = refl; words = refl }

pub host_claim : HostClaim limiting gain_step hosting
host_claim = record {
  limiter = claim;
  gain_step_lem = gain_claim;
  setup = setup_returns;
  call = call_returns;
  value = value_reads;
  gain = gain_returns;
  call_handed_on = λ call answer state stores bytes. call_handed_on call answer state stores (read_storable state bytes);
  gain_handed_on = λ gain answer state stores bytes. gain_handed_on gain answer state stores (read_storable state bytes);
  after_setup = λ threshold margin lookahead release left_out_mask spec answer state stores z made.
      let s = settings_of (bits threshold) (bits margin) (bits lookahead) (bits release) (left_out_mask % 256) in
      setup_holds s spec answer state stores (record { threshold = bits_fit threshold; margin = bits_fit margin; lookahead = bits_fit lookahead; release = bits_fit release; left_out_mask = mod-lt left_out_mask (omega arith) }) z made;
  after_refused = λ s spec answer state stores some. (
    refused_stores s spec answer state stores some,
    λ l.
        let e = refused_read s spec answer state stores some l in
        ((λ made. never_refuses made _ _ e), gain_18 _ _ e),
  );
  after_reset = reset_holds;
}
