-- `daggeryuzu_gain_step`: the driver's call through bytes.
use mathlib.Core.Path.{ap, ◌∙◌}
use mathlib.Core.List.{[]}
use Rattle.arithmetic.specs.Number.{bits}
use Rattle.turns.specs.Machine.{Machine}
use Rattle.driver.specs.Calls.{Left, gain_step}
use Rattle.driver.specs.Answers.{gain_reply_of}
use Rattle.state_bytes.proofs.Finished.{gain_set_up}
use Rattle.host.proofs.Through.{told, finished_long, called}
use Rattle.host.proofs.calls.daggeryuzu_gain_step.Goals as goal

pub leave-requires : goal.leave-requires
leave-requires c =
    finished_long c.args.answer.now _ _ c.read_state-p.ensures _ _ _ (gain_set_up _ _) (ap (λ (o : Left). o.reply) (c.step_env-told.ensures [] [])) (told gain_reply_of _ _ c.into.ensures)

pub returns : goal.returns
returns c delay detector =
    called c.args.answer.now c.args.state.now c.read_state-p.result c.read_state-p.ensures (gain_reply_of c.step_env-told.result) c.step_env-told.new.self _ c.into.result _ _ _
    (told gain_reply_of _ _ c.into.ensures) c.leave.ensures.value c.leave.ensures.buffer_after c.leave.ensures.state_after (λ (m : Machine). gain_step m (bits c.args.gain)) _
    (c.step_env-told.ensures delay detector ∙ ap (gain_step _) c.from_bits.ensures)
