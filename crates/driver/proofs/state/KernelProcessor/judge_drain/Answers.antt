-- `judge_drain`: 18, 16 and 19, then the tail's own.
use mathlib.Core.Path.{sym}
use Rattle.arithmetic.specs.Reply.{numbered}
use Rattle.limiter.specs.Stores.{stores_in}
use Rattle.turns.specs.Machine.{ready_refusal}
use Rattle.turns.specs.Drain.{tail_reply, drain_reply}
use Rattle.driver.specs.Answers.{machine_at}
use Rattle.driver.proofs.Refusing.{ready_kernel}
use Rattle.driver.proofs.Answered.{handed_on, first_refused, first_passed, first_finished}
use Rattle.driver.proofs.state.KernelProcessor.judge_drain.Goals as goal

pub returns-in_err-judge : goal.returns-in_err-judge
unfolding drain_reply
returns-in_err-judge c =
    rw (handed_on _ _ c.from_residual.ensures.1) (first_refused _ _ _ (c.judge.ensures c.args.self.now.bank (sym c.shown.ensures)) _ c.in_err-judge.was)

pub judge_tail-requires : goal.judge_tail-requires
judge_tail-requires c =
    let a = c.args in
    let m = machine_at a.self.now (stores_in a.lent.now) in
    ready_kernel m
    (first_finished _ (numbered (ready_refusal m)) (tail_reply m a.frames a.size) (c.judge.ensures a.self.now.bank (sym c.shown.ensures)) _ c.in_ok-judge.was)

pub returns : goal.returns
unfolding drain_reply
returns c =
    let a = c.args in
    let stores = stores_in a.lent.now in
    first_passed _ _ _ (c.judge.ensures a.self.now.bank (sym c.shown.ensures)) _ c.in_ok-judge.was _ (c.judge_tail.ensures stores)
