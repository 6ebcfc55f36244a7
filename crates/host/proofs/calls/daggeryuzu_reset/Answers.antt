-- `daggeryuzu_reset`: the driver's call through bytes.
use mathlib.Core.Path.{ap}
use Rattle.driver.specs.Calls.{Left, reset_of}
use Rattle.driver.specs.Answers.{answer_reply}
use Rattle.state_bytes.proofs.Finished.{reset_set_up}
use Rattle.host.proofs.Through.{told, finished_long, called}
use Rattle.host.proofs.calls.daggeryuzu_reset.Goals as goal

pub leave-requires : goal.leave-requires
leave-requires c =
    finished_long c.args.answer.now _ _ c.read_state-p.ensures _ _ _ (reset_set_up _) (ap (λ (o : Left). o.reply) c.reset-told.ensures) (told answer_reply _ _ c.into.ensures)

pub returns : goal.returns
returns c =
    called c.args.answer.now c.args.state.now c.read_state-p.result c.read_state-p.ensures (answer_reply c.reset-told.result) c.reset-told.new.self _ c.into.result _ _ _
    (told answer_reply _ _ c.into.ensures) c.leave.ensures.value c.leave.ensures.buffer_after c.leave.ensures.state_after reset_of _ c.reset-told.ensures
