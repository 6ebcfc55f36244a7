-- `judge_block`: 18, 16 and 19, then the call's own.
use mathlib.Core.Path.{refl}
use Rattle.arithmetic.specs.Reply.{numbered}
use Rattle.limiter.specs.Stores.{stores_at}
use Rattle.turns.specs.Machine.{machine_of, ready_refusal}
use Rattle.turns.specs.Events.{events_of}
use Rattle.turns.specs.Block.{call_reply, block_reply}
use Rattle.driver.specs.Parts.{bank_with}
use Rattle.driver.proofs.Refusing.{ready_kernel}
use Rattle.driver.proofs.Answered.{handed_on, first_refused, first_passed, first_finished}
use Rattle.driver.proofs.process.judge_block.Goals as goal

pub returns-in_err-judge : goal.returns-in_err-judge
unfolding block_reply
returns-in_err-judge c b e = rw (handed_on _ _ c.from_residual.ensures.1) (first_refused _ _ _ (c.judge.ensures b e) _ c.in_err-judge.was)

pub judge_call-requires : goal.judge_call-requires
judge_call-requires c =
    let a = c.args in
    let b = bank_with a.t in
    let m = machine_of a.l b (stores_at a.delay.now a.marks.now a.minima.now a.weights.now a.row.now a.detector.now) in
    ready_kernel m
    (first_finished _ (numbered (ready_refusal m)) (call_reply m a.position a.frames (events_of a.events.now) a.size) (c.judge.ensures b refl) _ c.in_ok-judge.was)

pub returns : goal.returns
unfolding block_reply
returns c b e =
    let a = c.args in
    let stores = stores_at a.delay.now a.marks.now a.minima.now a.weights.now a.row.now a.detector.now in
    first_passed _ _ _ (c.judge.ensures b e) _ c.in_ok-judge.was _ (c.judge_call.ensures b stores)
