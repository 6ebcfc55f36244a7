-- Setup: what the callees' promises add up to, by the first refusal that arises.
use mathlib.Core.Path.{◌≡◌, refl, sym, ap, ◌∙◌}
use mathlib.Core.Bool.{Bool, true, false, cond}
use mathlib.Core.List.{[]}
use lib.Dec.{eqb}
use lib.ListN.{replicate}
use Rattle.std.proofs.Common.{Result, Ok, Err}
use borrow.Author.Tests.{ne_eqb}
use Rattle.arithmetic.proofs.Order.{clash}
use Rattle.arithmetic.specs.Reply.{Reply, finished, and_then}
use Rattle.settings.specs.Memory.{cap_judged, cap_reply}
use Rattle.settings.specs.declared.LimiterSettings.{LimiterSettings}
use Rattle.settings.specs.declared.memory.OverCap.{OverCap}
use Rattle.settings.specs.declared.ProcessSpec.{ProcessSpec}
use Rattle.limiter.specs.State.{not_set_up, started}
use Rattle.limiter.specs.Stores.{Stores, lengths_of}
use Rattle.limiter.specs.Prepare
use Rattle.limiter.specs.Prepare.{prepare_refusal, limiter_left, prepared_at, filled_for, prepare_of}
use Rattle.limiter.specs.declared.prepare.PrepareRefusal.{PrepareRefusal}
use Rattle.limiter.specs.declared.state.Limiter.{Limiter}
use Rattle.limiter.proofs.Judge.{refused_case}
use Rattle.bank.specs.Answers.{refusal_reply}
use Rattle.bank.specs.Bank
use Rattle.bank.specs.Bank.{unset, set_up_of}
use Rattle.bank.specs.declared.param.BankRefusal.{BankRefusal}
use Rattle.bank.specs.declared.smoother_bank.SmootherBank.{SmootherBank}
use Rattle.bank.proofs.Slots.{above_zero}
use Rattle.turns.specs.Machine.{Machine, machine_of, threshold_param}
use Rattle.driver.specs.Calls.{Left, left, settled, bank_bytes, budget_reply, with_rest, setup_of}

stopped : (r : Reply) (new old : Machine) → eqb r.number 0 ≡ false → left r old ≡ settled r new old
stopped r new old h = rw h refl

-- the limiter's share, refused, leaves the stores alone
stores_stay : (s : LimiterSettings) (spec : ProcessSpec) (stores : Stores) → eqb (prepare_of s spec stores).reply.number 0 ≡ false → (prepare_of s spec stores).stores ≡ stores
unfolding prepare_of
stores_stay s spec stores h = go (eqb r.number 0) refl h
  where
    r : Reply
    r = prepare_refusal s spec (lengths_of stores) stores.weights

    go : (b : Bool) → eqb r.number 0 ≡ b → (let o = cond b (limiter_left r (started s spec) (filled_for s spec stores)) (limiter_left r not_set_up stores) in eqb o.reply.number 0 ≡ false → o.stores ≡ stores)
    go true e h = clash (eqb r.number 0) e h
    go false e h = refl

module _ (s : LimiterSettings) (spec : ProcessSpec) (stores : Stores) (set : Result SmootherBank BankRefusal) (E : Bank.set_up_at set ≡ set_up_of (replicate 8 (threshold_param s)) 1 spec.rate) where
  abbrev joined : Bank.BankLeft → Prepare.LimiterLeft → Left
  joined b l = settled (and_then b.reply (and_then (budget_reply spec.cap) l.reply)) (machine_of l.limiter b.bank l.stores) (machine_of not_set_up unset stores)

  abbrev share : Prepare.LimiterLeft
  share = prepare_of s (with_rest spec) stores

  whole : setup_of s spec stores ≡ joined (Bank.set_up_at set) share
  unfolding setup_of
  whole = ap (λ (b : Bank.BankLeft). joined b share) (sym E)

  pub bank_refused : (why : BankRefusal) → set ≡ Err why → left (refusal_reply why) (machine_of not_set_up unset stores) ≡ setup_of s spec stores
  bank_refused why k =
      let n = ne_eqb (refusal_reply why).number 0 (above_zero why) in
      rw (whole, k, n) (stopped (refusal_reply why) (machine_of share.limiter unset share.stores) (machine_of not_set_up unset stores) n)

  module _ (bank : SmootherBank) (k : set ≡ Ok bank) where
    pub over_budget : (over : OverCap) → cap_judged bank_bytes spec.cap ≡ Err over → left (cap_reply 7 (Err over)) (machine_of not_set_up unset stores) ≡ setup_of s spec stores
    over_budget over h = rw (whole, k, h) refl

    module _ (u : Unit {0}) (h : cap_judged bank_bytes spec.cap ≡ Ok u) (rest : ProcessSpec) (c : rest ≡ with_rest spec) (r : Result Limiter PrepareRefusal) (later : Stores) (P : prepared_at r later ≡ prepare_of s rest stores) where
      share_is : prepared_at r later ≡ share
      share_is = P ∙ ap (λ (x : ProcessSpec). prepare_of s x stores) c

      pub limiter_refused : (why : PrepareRefusal) → r ≡ Err why → left (Prepare.refusal_reply why) (machine_of not_set_up unset later) ≡ setup_of s spec stores
      limiter_refused why e =
          let z : eqb share.reply.number 0 ≡ false = ap (λ (l : Prepare.LimiterLeft). eqb l.reply.number 0) (sym share_is) ∙ rw e (refused_case why) in
          let stay : later ≡ stores = ap (λ (l : Prepare.LimiterLeft). l.stores) share_is ∙ stores_stay s (with_rest spec) stores z in
          rw (whole, k, h, ← share_is, e, stay) (stopped (Prepare.refusal_reply why) (machine_of not_set_up bank stores) (machine_of not_set_up unset stores) (refused_case why))

      pub limiter_told : (l : Limiter) → r ≡ Ok l → left (finished []) (machine_of l bank later) ≡ setup_of s spec stores
      limiter_told l e = rw (whole, k, h, ← share_is, e) refl
