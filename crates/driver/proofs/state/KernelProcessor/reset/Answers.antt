-- `reset`: refused, or the kernel's reset and the bank's.
use Rattle.std.proofs.Common.{rules}
use Rattle.limiter.specs.Stores.{stores_at}
use Rattle.bank.specs.Smoother.{reset_one}
use Rattle.limiter.specs.Reset.{reset_at}
use Rattle.driver.proofs.Judged.{prepared_is}
use Rattle.driver.proofs.Answered.{handed_on, reset_refused, reset_prepared_lem, reset_done_lem}
use Rattle.driver.proofs.state.KernelProcessor.reset.Goals as goal

pub returns-in_err-judge_reset : goal.returns-in_err-judge_reset
returns-in_err-judge_reset c = rw (handed_on _ _ c.from_residual.ensures.1) (reset_refused _ _ c.judge_reset.ensures _ c.in_err-judge_reset.was)

pub reset_prepared-self-requires : goal.reset_prepared-self-requires
reset_prepared-self-requires c =
    let p = c.args.self.now in
    (prepared_is p.limiter p.bank (reset_prepared_lem _ _ c.judge_reset.ensures _ c.in_ok-judge_reset.was)).kernel

pub returns : goal.returns
returns c =
    let a = c.args in
    let r = c.reset_prepared-self in
    reset_done_lem _ _ c.judge_reset.ensures _ c.in_ok-judge_reset.was
    (reset_at r.result (stores_at r.new.delay a.marks.now a.minima.now a.weights.now r.new.row r.new.detector)) (r.ensures a.marks.now a.minima.now a.weights.now) _ (c.apply_all.ensures reset_one (λ s r done. search rules))
