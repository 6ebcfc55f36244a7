-- No reply of a call has more than six values, so that the answer's words tell all of them.
use Prim.Native.Nat.{ℕ, ◌≤◌}
use native.Mathlib.Omega.{arith}
use lib.ListN.{length}
use lib.Ieee.{Float}
use Rattle.std.proofs.Common.{Option, Some, None, Result, Ok, Err}
use Rattle.limiter.specs.Prepare
use Rattle.limiter.specs.declared.prepare.PrepareRefusal.{PrepareRefusal}
use Rattle.limiter.specs.declared.prepare.PrepareRefusal.TheVariants as Prepared
use Rattle.bank.specs.Answers.{refusal_reply, param_refusal_reply, param_set_reply, bank_value_reply}
use Rattle.bank.specs.declared.param.BankRefusal.{BankRefusal}
use Rattle.bank.specs.declared.smoother_bank.ParamRefusal.{ParamRefusal}
use Rattle.bank.specs.declared.smoother_bank.ParamRefusal.TheVariants as Called
use Rattle.frame.specs.declared.highest.Seat.{Seat}
use Rattle.turns.specs.Block.{placed}
use Rattle.driver.specs.Answers.{setup_refused_by, setup_reply, refused_by, answer_reply, flush_reply, gain_reply_of}
use Rattle.driver.specs.declared.answers.SetupRefusal.{SetupRefusal}
use Rattle.driver.specs.declared.answers.SetupRefusal.TheVariants as Setup
use Rattle.driver.specs.declared.answers.Refusal.{Refusal}
use Rattle.driver.specs.declared.answers.Flushed.{Flushed}
use Rattle.driver.specs.declared.answers.GainStepped.{GainStepped}
use Rattle.driver.specs.declared.state.KernelProcessor.{KernelProcessor}

bank_few : (why : BankRefusal) → length (refusal_reply why).values ≤ 6
bank_few BankRefusal.TooMany = omega arith
bank_few (BankRefusal.Id i) = omega arith
bank_few (BankRefusal.Range i) = omega arith
bank_few (BankRefusal.DefaultNotFinite i) = omega arith
bank_few (BankRefusal.DefaultOutside i) = omega arith
bank_few (BankRefusal.SmoothingTime i) = omega arith

prepare_few : (why : PrepareRefusal) → length (Prepare.refusal_reply why).values ≤ 6
prepare_few (Prepared.Settings why) = omega arith
prepare_few (Prepared.OverCap over) = omega arith
prepare_few Prepared.NoHouse = omega arith
prepare_few Prepared.StoreLength = omega arith
prepare_few Prepared.Weights = omega arith

pub setup_few : (r : Result KernelProcessor SetupRefusal) → length (setup_reply r).values ≤ 6
setup_few (Ok p) = omega arith
setup_few (Err why) = go why
  where
    go : (why : SetupRefusal) → length (setup_refused_by why).values ≤ 6
    go (Setup.Bank why) = bank_few why
    go (Setup.OverBudget over) = omega arith
    go (Setup.Limiter why) = prepare_few why

refused_few : (why : Refusal) → length (refused_by why).values ≤ 6
refused_few Refusal.NotSetUp = omega arith
refused_few Refusal.StoreLength = omega arith
refused_few Refusal.OutOfOrder = omega arith
refused_few Refusal.Geometry = omega arith
refused_few (Refusal.Event i) = omega arith
refused_few Refusal.TooFar = omega arith

pub answer_few : (r : Result (Unit {0}) Refusal) → length (answer_reply r).values ≤ 6
answer_few (Ok done) = omega arith
answer_few (Err why) = refused_few why

pub flush_few : (r : Result Flushed Refusal) → length (flush_reply r).values ≤ 6
flush_few (Ok told) = omega arith
flush_few (Err why) = refused_few why

pub gain_few : (r : Result GainStepped Refusal) → length (gain_reply_of r).values ≤ 6
gain_few (Ok told) = omega arith
gain_few (Err why) = refused_few why

call_few : (why : ParamRefusal) → length (param_refusal_reply why).values ≤ 6
call_few Called.NotSetUp = omega arith
call_few (Called.NonFiniteValue id v) = omega arith
call_few Called.UnknownParam = omega arith

pub parameter_few : (r : Result (Unit {0}) ParamRefusal) → length (param_set_reply r).values ≤ 6
parameter_few (Ok done) = omega arith
parameter_few (Err why) = call_few why

pub value_few : (r : Result Float ParamRefusal) → length (bank_value_reply r).values ≤ 6
value_few (Ok v) = omega arith
value_few (Err why) = call_few why

pub placed_few : (i : ℕ) (seat : Option Seat) → length (placed i seat).values ≤ 6
placed_few i None = omega arith
placed_few i (Some (Seat.OnSample c)) = omega arith
placed_few i (Some (Seat.Between c phase)) = omega arith
