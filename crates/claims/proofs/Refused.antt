-- What a refused setup leaves gives 18 to every call but setup.
use mathlib.Core.Path.{◌≡◌, refl, sym, subst}
use mathlib.Core.List.{List, [], ◌∷◌}
use Rattle.settings.specs.declared.LimiterSettings.{LimiterSettings}
use Rattle.settings.specs.declared.ProcessSpec.{ProcessSpec}
use Rattle.limiter.specs.State.{not_set_up}
use Rattle.limiter.specs.Stores.{Stores}
use Rattle.limiter.specs.Order
use Rattle.bank.specs.Bank
use Rattle.bank.specs.Bank.{unset, value_of}
use Rattle.turns.specs.Machine.{Machine, machine_of, prepared, ready_refusal, reset_refusal}
use Rattle.turns.specs.Block.{block_reply, block_by}
use Rattle.turns.specs.Drain.{drain_reply, drain_by}
use Rattle.driver.specs.Calls.{setup_of, parameter_reply, parameter_of, reset_of, gain_reply, gain_step}
use Rattle.claims.specs.Session.{Call, block, drain, parameter, reset, limiting, called}
use Rattle.claims.specs.Refused.{Gives18, AllGive18, OthersGive18}
use Rattle.claims.proofs.Setups.{setup_left_alone}

module _ (stores : Stores) where
  abbrev pub unready : Machine
  unready = machine_of not_set_up unset stores

  pub one_18 : (call : Call) → Gives18 unready call (called limiting unready call)
  unfolding prepared Order.prepared ready_refusal reset_refusal block_reply block_by drain_reply drain_by parameter_reply parameter_of reset_of
  one_18 (block format position frames events bytes) = record { reply = refl; machine = refl; bytes = refl; frames = refl }
  one_18 (drain format frames bytes) = record { reply = refl; machine = refl; bytes = refl; frames = refl }
  one_18 (parameter id v) = record { reply = refl; machine = refl; bytes = refl; frames = refl }
  one_18 reset = record { reply = refl; machine = refl; bytes = refl; frames = refl }

  all_18 : (calls : List Call) → AllGive18 limiting unready calls
  all_18 [] = tt
  all_18 (call ∷ calls) = (one_18 call, subst (λ (m : Machine). AllGive18 limiting m calls) (sym (one_18 call).machine) (all_18 calls))

  pub others : OthersGive18 unready
  unfolding gain_step gain_reply prepared Order.prepared value_of Bank.prepared
  others = record { gain_step_lem = λ x. refl; reading = λ id. refl }

module _ (s : LimiterSettings) (spec : ProcessSpec) (stores : Stores) (some : (setup_of s spec stores).reply.number ≡ 0 → ⊥) where
  pub refused_then_18 : (calls : List Call) → AllGive18 limiting (setup_of s spec stores).machine calls
  refused_then_18 calls = subst (λ (m : Machine). AllGive18 limiting m calls) (sym (setup_left_alone s spec stores some)) (all_18 stores calls)

  pub others_then_18 : OthersGive18 (setup_of s spec stores).machine
  others_then_18 = subst OthersGive18 (sym (setup_left_alone s spec stores some)) (others stores)
