-- `prepare`: the bank's refusal, 7, the limiter's, or both set up.
use mathlib.Core.Path.{sym, ◌∙◌}
use Rattle.limiter.specs.Stores.{stores_at}
use Rattle.driver.proofs.Answered.{handed_on}
use Rattle.driver.proofs.Started.{bank_refused, over_budget, limiter_refused, limiter_told}
use Rattle.driver.proofs.state.KernelProcessor.prepare.Goals as goal

pub returns-in_err-bank : goal.returns-in_err-bank
returns-in_err-bank c = rw (handed_on _ _ c.from_residual.ensures.1) (bank_refused _ _ _ _ c.bank_of.ensures _ c.in_err-bank.was)

pub returns-in_err-judge_cap : goal.returns-in_err-judge_cap
returns-in_err-judge_cap c =
    rw (handed_on _ _ c.from_residual-in_err-judge_cap.ensures.1) (over_budget _ _ _ _ c.bank_of.ensures _ c.in_ok-bank.was _ (sym c.judge_cap.ensures ∙ c.in_err-judge_cap.was))

pub returns-in_err-limiter : goal.returns-in_err-limiter
returns-in_err-limiter c =
    let p = c.prepare in
    rw (handed_on _ _ c.from_residual-in_err-limiter.ensures.1)
    (limiter_refused _ _ _ _ c.bank_of.ensures _ c.in_ok-bank.was _ (sym c.judge_cap.ensures ∙ c.in_ok-judge_cap.was) _ c.with_rest.ensures
    p.result (stores_at p.new.delay p.new.marks p.new.minima p.new.weights p.new.row p.new.detector) p.ensures _ c.in_err-limiter.was)

pub returns : goal.returns
returns c =
    let p = c.prepare in
    limiter_told _ _ _ _ c.bank_of.ensures _ c.in_ok-bank.was _ (sym c.judge_cap.ensures ∙ c.in_ok-judge_cap.was) _ c.with_rest.ensures
    p.result (stores_at p.new.delay p.new.marks p.new.minima p.new.weights p.new.row p.new.detector) p.ensures _ c.in_ok-limiter.was
