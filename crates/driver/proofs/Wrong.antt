-- Inputs at which the wrong programs of ARCHITECTURE.md's table would answer otherwise: each row computes what the definition answers there, and its comment names the wrong program.
use Prim.Native.Nat.{ℕ}
use mathlib.Core.Path.{◌≡◌, refl}
use mathlib.Core.Bool.{true, false}
use mathlib.Core.List.{[], ◌∷◌}
use lib.ListN.{replicate}
use lib.Ieee.{nan, add, sub, mul, div, neg, lt, le, eq, ne, is_nan, of_int, of_bits, to_bits, to_unsigned}
use Rattle.arithmetic.specs.Number
use Rattle.arithmetic.specs.Number.{bits, one}
use Rattle.arithmetic.specs.Exp.{exp_of}
use Rattle.arithmetic.specs.Reply.{refused, numbered, count, float}
use Rattle.keeper.specs.InOrder
use Rattle.envelope.specs.Row.{row_in_order}
use Rattle.envelope.specs.Step.{GainStepped}
use Rattle.settings.specs.Target.{target_of}
use Rattle.settings.specs.Weights.{accepted}
use Rattle.std.proofs.Common.{Some}
use Rattle.limiter.specs.State.{not_set_up}
use Rattle.limiter.specs.Prepare.{prepare_of}
use Rattle.limiter.specs.Order
use Rattle.limiter.proofs.Wrong.{settings11, spec11, limiter11, stores11}
use Rattle.bank.specs.Param.{fault_of}
use Rattle.bank.specs.Smoother.{vacant, steps_of, coeff_of, smoother_of, derived, slot_prepared, changed, immediate_set}
use Rattle.bank.specs.Bank
use Rattle.bank.specs.Bank.{unset, slot_at, first_mapped, all_changed, first_fault, declared_reply, slots_of, set_up_of, all_prepared, value_of}
use Rattle.bank.specs.declared.smoother.Smoother.{Smoother}
use Rattle.bank.specs.declared.smoother_bank.SmootherBank.{SmootherBank}
use Rattle.turns.specs.Machine
use Rattle.turns.specs.Machine.{Machine, machine_of, lowest, threshold_param, declares, target_in_range, ready_refusal, reset_refusal}
use Rattle.driver.specs.Calls.{setup_of, parameter_reply, parameter_of, reset_of, gain_done, read_of}

-- the small start of limiter/proofs/Wrong.antt with the bank of its threshold, at a rate and a delay position, with so many places of the row
abbrev bank_at_rate : ℕ → SmootherBank
bank_at_rate rate = record {
  smoothers = smoother_of 8000 (threshold_param (settings11 Number.zero)) ∷ replicate 7 vacant;
  count = 1;
  rate = rate;
  ready = true;
}

abbrev pub machine : ℕ → ℕ → ℕ → Machine
machine rate pos row = machine_of (limiter11 Number.zero one pos 0) (bank_at_rate rate) (stores11 (one ∷ []) (replicate row one))

unfoldable pub judging : Type 0
unfolding of_bits to_bits lt le eq ne is_nan add sub mul div neg of_int to_unsigned exp_of ready_refusal reset_refusal Machine.prepared Machine.is_in_order declares Order.prepared Order.is_in_order InOrder.is_in_order row_in_order Bank.prepared all_prepared slot_prepared derived fault_of smoother_of steps_of coeff_of parameter_reply
judging = ⊥

-- ---- setup
-- the bank's bytes left in the cap: of 855 bytes the limiter's 776 would fit, and 775 are left for it
pub bank_bytes_first : (setup_of (settings11 Number.zero) (spec11 (Some 855)) (stores11 (one ∷ []) (one ∷ []))).reply ≡ refused 15 (count 776 ∷ count 775 ∷ [])
unfolding setup_of prepare_of accepted target_of set_up_of declared_reply first_fault slots_of judging
bank_bytes_first = refl

-- ---- 18, then 16, then 19
-- none, and a bank of another rate taken; 19 before 16 (a row place too many, and a delay position of look)
pub judged_in_order : (ready_refusal (machine 8000 0 1) ≡ 0) × (ready_refusal (machine 16000 0 1) ≡ 18) × (ready_refusal (machine 8000 11 2) ≡ 16) × (ready_refusal (machine 8000 11 1) ≡ 19)
unfolding judging
judged_in_order = (refl, refl, refl, refl)

-- a parameter's target outside its range taken: 0 dB is within, 1 dB is not
pub target_judged : (target_in_range (bank_at_rate 8000) ≡ true) × (target_in_range (all_changed (λ (s : Smoother). changed s.cur one 0 s.step_delta s) (bank_at_rate 8000)) ≡ false)
unfolding first_mapped judging
target_judged = (refl, refl)

-- 16 before 18: a limiter that was never set up, and stores that are not its
pub eighteen_first : (reset_of (machine_of not_set_up unset (stores11 [] []))).reply ≡ numbered 18
unfolding reset_of judging
eighteen_first = refl

-- ---- parameter call, and reading
-- a value outside the range kept: −40
pub parameter_in_range : (slot_at 0 (parameter_of (machine 8000 0 1) 0 (bits 0xc044_0000_0000_0000)).machine.bank.smoothers).cur ≡ lowest
unfolding parameter_of immediate_set judging
parameter_in_range = refl

-- 24 before 23: a NaN for an unknown id
pub twenty_three_first : parameter_reply (machine 8000 0 1) 5 nan ≡ refused 23 (count 5 ∷ float nan ∷ [])
unfolding judging
twenty_three_first = refl

-- a value read of a bank that was never set up, and of an unknown id
pub reading_judged : (read_of unset 0 ≡ refused 18 []) × (read_of (bank_at_rate 8000) 1 ≡ refused 24 [])
unfolding value_of judging
reading_judged = (refl, refl)

-- ---- the lone gain step, of every machine
-- one that moves the delay position, keeps another target, or touches delay lines and detector
pub gain_step_alone : (m : Machine) (g : GainStepped)
    → let after = (gain_done m g).machine in
    (after.limiter.delay_pos ≡ m.limiter.delay_pos) × (after.limiter.target ≡ m.limiter.target) × (after.limiter.drained ≡ m.limiter.drained)
    × (after.stores.delay ≡ m.stores.delay) × (after.stores.detector ≡ m.stores.detector) × (after.bank ≡ m.bank)
gain_step_alone m g = (refl, refl, refl, refl, refl, refl)
