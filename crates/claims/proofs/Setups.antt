-- A finished setup leaves state and stores that are tied to the book that opens with it.
use mathlib.Core.Path.{◌≡◌, refl, sym, ap, subst, ◌∙◌}
use mathlib.Core.Bool.{Bool, true, false, cond}
use mathlib.Core.List.{List}
use Prim.Native.Nat.{ℕ}
use native.Mathlib.Omega.{arith}
use lib.Dec.{eqb}
use lib.ListN.{length, replicate, length-replicate}
use borrow.Author.Tests.{eq-eqb, ne_eqb, eqb-false}
use Rattle.arithmetic.specs.Number
use Rattle.arithmetic.specs.Number.{one}
use Rattle.arithmetic.specs.Reply.{Reply, and_then}
use Rattle.arithmetic.proofs.Order.{and-true}
use Rattle.arithmetic.proofs.Passed.{passed_then}
use Rattle.arithmetic.proofs.Same.{same_self}
use Rattle.settings.specs.Derived.{look_of, coefficient_of}
use Rattle.settings.specs.House.{weights_for}
use Rattle.settings.specs.declared.LimiterSettings.{LimiterSettings}
use Rattle.settings.specs.declared.ProcessSpec.{ProcessSpec}
use Rattle.frame.specs.Rules.{linking_of}
use Rattle.limiter.specs.State.{not_set_up, started}
use Rattle.limiter.specs.Stores.{Stores, lengths_of, lengths_fit, filled}
use Rattle.limiter.specs.Prepare.{prepare_refusal, LimiterLeft, limiter_left, filled_for, prepare_of}
use Rattle.limiter.specs.Order.{prepared, is_in_order}
use Rattle.limiter.specs.declared.state.Limiter.{Limiter}
use Rattle.limiter.proofs.Judge.{Fit, fit}
use Rattle.limiter.proofs.Setup.{setup_ready}
use Rattle.bank.specs.Smoother.{smoother_of, slot_prepared}
use Rattle.bank.specs.Bank
use Rattle.bank.specs.Bank.{unset, declared_reply, slots_of, set_up_of}
use Rattle.bank.specs.declared.param.ParamInfo.{ParamInfo}
use Rattle.bank.specs.declared.smoother.Smoother.{Smoother}
use Rattle.bank.specs.declared.smoother_bank.SmootherBank.{SmootherBank}
use Rattle.bank.proofs.Prepared.{set_up_prepared}
use Rattle.turns.specs.Machine.{Machine, machine_of, lowest, five_ms, threshold_param, declares}
use Rattle.driver.specs.Calls.{budget_reply, with_rest, setup_of}
use Rattle.claims.specs.BookCalls.{opened_new}
use Rattle.turns.proofs.Kernel.{Kernel}
use Rattle.claims.proofs.Turned.{deep_enough}
use Rattle.claims.proofs.Machines.{Declared, Sound, default_inside, OneParameter, one_prepared, whole_ready}
use Rattle.claims.proofs.Calls.{Tied}
use Rattle.claims.proofs.Starts.{fresh_tied}

-- ---- the bank: its one parameter is the threshold, at its default
module _ (s : LimiterSettings) (rate : ℕ) where
  abbrev threshold : Smoother
  threshold = smoother_of rate (threshold_param s)

  abbrev params : List ParamInfo
  params = replicate 8 (threshold_param s)

  abbrev new : SmootherBank
  new = record { smoothers = slots_of rate 1 params; count = 1; rate = rate; ready = true }

  new_one : OneParameter threshold new
  unfolding slots_of
  new_one = record { slots = refl; count = refl; ready = refl }

  new_declares : declares s threshold ≡ true
  unfolding declares smoother_of
  new_declares = rw (same_self lowest, same_self Number.zero, same_self s.threshold_db, same_self five_ms) refl

  module _ (z : (set_up_of params 1 rate).reply.number ≡ 0) where
    new_bank : (set_up_of params 1 rate).bank ≡ new
    unfolding set_up_of
    new_bank = rw (eq-eqb (declared_reply params 1).number 0 z) refl

    new_declared : Declared rate s threshold
    new_declared =
        let p : Bank.prepared new ≡ true = subst (λ (b : SmootherBank). Bank.prepared b ≡ true) new_bank (set_up_prepared params 1 rate z) in
        record { slot = (and-true (slot_prepared rate 0 threshold) true (sym (one_prepared threshold new new_one.slots refl) ∙ p)).0; is = new_declares }

    new_sound : Sound rate s threshold
    unfolding smoother_of
    new_sound = record { declared = new_declared; inside = default_inside rate s threshold new_declared }

-- ---- the limiter
module _ (s : LimiterSettings) (spec : ProcessSpec) (stores : Stores) where
  abbrev reply : Reply
  reply = prepare_refusal s spec (lengths_of stores) stores.weights

  -- what is left of a finished setup
  prepare_left : (let o = prepare_of s spec stores in o.reply.number ≡ 0 → (o.limiter ≡ started s spec) × (o.stores ≡ filled_for s spec stores))
  unfolding prepare_of
  prepare_left = go (eqb reply.number 0) refl
    where
      go : (b : Bool) → eqb reply.number 0 ≡ b
          → (let o = cond b (limiter_left reply (started s spec) (filled_for s spec stores)) (limiter_left reply not_set_up stores) in
          o.reply.number ≡ 0 → (o.limiter ≡ started s spec) × (o.stores ≡ filled_for s spec stores))
      go true e z = (refl, refl)
      go false e z = absurd (eqb-false reply.number 0 e z)

  module _ (z : (prepare_of s spec stores).reply.number ≡ 0) where
    prepare_kernel : Kernel (started s spec) (filled_for s spec stores)
    prepare_kernel =
        let e = prepare_left z in
        let r = subst (Judged (started s spec)) e.1 (subst (λ (l : Limiter). Judged l (prepare_of s spec stores).stores) e.0 (setup_ready s spec stores z)) in
        record { set_up = r.0; lengths = r.1; order = r.2 }
      where
        Judged : Limiter → Stores → Type 0
        Judged l t = (prepared l ≡ true) × (lengths_fit spec.channels l.env.keeper.look (lengths_of t) ≡ true) × (is_in_order l t.marks t.minima t.row ≡ true)

    prepare_fit : Fit spec.channels (look_of s.lookahead_ms spec.rate) (lengths_of (filled_for s spec stores))
    prepare_fit = fit spec.channels (look_of s.lookahead_ms spec.rate) (lengths_of (filled_for s spec stores)) prepare_kernel.lengths

-- ---- both
pub setup_left_alone : (s : LimiterSettings) (spec : ProcessSpec) (stores : Stores)
    → (let start = setup_of s spec stores in (start.reply.number ≡ 0 → ⊥) → start.machine ≡ machine_of not_set_up unset stores)
unfolding setup_of
setup_left_alone s spec stores some = rw (ne_eqb (setup_of s spec stores).reply.number 0 some) refl

module _ (s : LimiterSettings) (spec : ProcessSpec) (stores : Stores) (z : (setup_of s spec stores).reply.number ≡ 0) where
  abbrev bank_set : Reply
  bank_set = (set_up_of (params s spec.rate) 1 spec.rate).reply

  abbrev own : LimiterLeft
  own = prepare_of s (with_rest spec) stores

  -- what the bank, the budget and the limiter reply
  all_finished : (bank_set.number ≡ 0) × (own.reply.number ≡ 0)
  unfolding setup_of
  all_finished =
      let p = passed_then bank_set (and_then (budget_reply spec.cap) own.reply) z in
      (p.0, (passed_then (budget_reply spec.cap) own.reply p.1).1)

  abbrev start : Machine
  start = machine_of (started s spec) (new s spec.rate) (filled_for s spec stores)

  setup_machine : (setup_of s spec stores).machine ≡ start
  unfolding setup_of
  setup_machine =
      let f = all_finished in
      let e = prepare_left s (with_rest spec) stores f.1 in
      ap (λ (p : Bool). cond p (machine_of own.limiter (set_up_of (params s spec.rate) 1 spec.rate).bank own.stores) (machine_of not_set_up unset stores)) (eq-eqb _ 0 z)
      ∙ ap (λ (l : Limiter). machine_of l (set_up_of (params s spec.rate) 1 spec.rate).bank own.stores) e.0
      ∙ ap (λ (b : SmootherBank). machine_of (started s spec) b own.stores) (new_bank s spec.rate f.0)
      ∙ ap (λ (t : Stores). machine_of (started s spec) (new s spec.rate) t) e.1

  start_tied : Tied (opened_new s spec (weights_for s spec stores.weights)) start
  start_tied =
      let f = all_finished in
      let look = look_of s.lookahead_ms spec.rate in
      let k = prepare_kernel s (with_rest spec) stores f.1 in
      let h = prepare_fit s (with_rest spec) stores f.1 in
      record {
        settings = refl;
        rate = refl;
        channels = refl;
        largest = refl;
        weights = refl;
        coeff = refl;
        ready = whole_ready start (threshold s spec.rate) (record { kernel = k; one = new_one s spec.rate; rate = refl; sound = new_sound s spec.rate f.0 });
        moving =
            fresh_tied (linking_of s) look spec.channels (filled stores).marks (filled stores).minima (weights_for s spec stores.weights) (coefficient_of s.release_ms spec.rate) (length stores.delay) (length stores.row) (length stores.detector)
            (omega (arith, deep_enough (started s spec) k.set_up)) (sym (length-replicate (length stores.delay) Number.zero) ∙ h.delay_is) h.marks_is h.minima_is h.weights_is
            (sym (length-replicate (length stores.row) one) ∙ h.row_is) (sym (length-replicate (length stores.detector) Number.zero) ∙ h.detector_is);
        slots = (new_one s spec.rate).slots;
        target = refl;
        drained = refl;
      }

  pub setup_tied : Tied (opened_new s spec (weights_for s spec stores.weights)) (setup_of s spec stores).machine
  setup_tied = subst (λ (m : Machine). Tied (opened_new s spec (weights_for s spec stores.weights)) m) (sym setup_machine) start_tied

  pub setup_filled : (setup_of s spec stores).machine.stores ≡ filled_for s spec stores
  setup_filled = ap (λ (m : Machine). m.stores) setup_machine
