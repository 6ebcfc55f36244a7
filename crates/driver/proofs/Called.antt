-- Parameter call and reset: what their callees' promises add up to.
use mathlib.Core.Path.{◌≡◌, refl, sym, ap, ◌∙◌}
use mathlib.Core.Bool.{Bool, true, false, cond, not}
use mathlib.Core.List.{[], ◌∷◌}
use Prim.Native.Nat.{ℕ}
use lib.Dec.{eqb, leb}
use lib.Ieee.{Float}
use lib.Ieee.Scale.{finite}
use borrow.Author.Tests.{eqb-true}
use Rattle.arithmetic.specs.Reply.{Reply, finished, refused, numbered, count, float, and_then, must}
use Rattle.arithmetic.proofs.Passed.{passed_unless}
use Rattle.limiter.specs.Stores.{Stores}
use Rattle.limiter.specs.Reset
use Rattle.limiter.specs.declared.state.Limiter.{Limiter}
use Rattle.bank.specs.Smoother.{immediate_set, reset_one}
use Rattle.bank.specs.Bank
use Rattle.bank.specs.Bank.{one_changed, all_changed, call_reply, call_of, set_immediate_of}
use Rattle.bank.specs.declared.smoother_bank.SmootherBank.{SmootherBank}
use Rattle.turns.specs.Machine.{Machine, machine_of, prepared, reset_refusal}
use Rattle.driver.specs.Calls.{left, settled, parameter_reply, parameter_of, reset_of}
use Rattle.driver.proofs.Judged.{prepared_is}

-- ---- parameter call
-- a bank that changes by a reply is a machine that does
bank_settled : (r : Reply) (l : Limiter) (new old : SmootherBank) (s : Stores) → left r (machine_of l (cond (eqb r.number 0) new old) s) ≡ settled r (machine_of l new s) (machine_of l old s)
bank_settled r l new old s = go (eqb r.number 0)
  where
    go : (b : Bool) → left r (machine_of l (cond b new old) s) ≡ left r (cond b (machine_of l new s) (machine_of l old s))
    go true = refl
    go false = refl

module _ (m : Machine) (id : ℕ) (v : Float) where
  pub param_not_set_up : prepared m.limiter m.bank ≡ false → left (numbered 18) m ≡ parameter_of m id v
  unfolding parameter_of parameter_reply
  param_not_set_up h = rw h refl

  module _ (h : prepared m.limiter m.bank ≡ true) where
    reply_is : call_reply m.bank id v ≡ parameter_reply m id v
    unfolding call_reply parameter_reply
    reply_is = rw (h, (prepared_is m.limiter m.bank h).bank) (go (finite v) (leb m.bank.count id))
      where
        go : (f k : Bool) → cond (not f) (refused 23 (count id ∷ float v ∷ [])) (cond k (refused 24 []) (finished [])) ≡ and_then (cond f (finished []) (refused 23 (count id ∷ float v ∷ []))) (must (not k) 24)
        go true true = refl
        go true false = refl
        go false k = refl

    pub param_called : (o : Bank.BankLeft) → o ≡ set_immediate_of m.bank id v → left o.reply (machine_of m.limiter o.bank m.stores) ≡ parameter_of m id v
    unfolding parameter_of call_of
    param_called o e =
        ap (λ (o : Bank.BankLeft). left o.reply (machine_of m.limiter o.bank m.stores)) e
        ∙ ap (λ (r : Reply). left r (machine_of m.limiter (cond (eqb r.number 0) (one_changed (immediate_set v) id m.bank) m.bank) m.stores)) reply_is
        ∙ bank_settled (parameter_reply m id v) m.limiter (one_changed (immediate_set v) id m.bank) m.bank m.stores

-- ---- reset
module _ (m : Machine) (r : Reply) (R : r ≡ numbered (reset_refusal m)) (b : Bool) (B : b ≡ eqb r.number 0) where
  number_is : r.number ≡ reset_refusal m
  number_is = ap (λ (x : Reply). x.number) R

  pub reset_refused : b ≡ false → left r m ≡ reset_of m
  unfolding reset_of
  reset_refused f = ap (λ (x : Reply). left x m) R ∙ rw (ap (λ (n : ℕ). eqb n 0) (sym number_is) ∙ sym B ∙ f) refl

  none : b ≡ true → reset_refusal m ≡ 0
  none f = sym number_is ∙ eqb-true r.number 0 (sym B ∙ f)

  pub reset_prepared_lem : b ≡ true → prepared m.limiter m.bank ≡ true
  unfolding reset_refusal
  reset_prepared_lem f = (passed_unless (prepared m.limiter m.bank) 17 _ (none f)).0

  pub reset_done_lem : b ≡ true → (o : Reset.Reset) → o ≡ Reset.reset_of m.limiter m.stores → (bank : SmootherBank) → bank ≡ all_changed reset_one m.bank → left (finished []) (machine_of o.limiter bank o.stores) ≡ reset_of m
  unfolding reset_of
  reset_done_lem f o k bank j = rw (k, j, none f) refl
