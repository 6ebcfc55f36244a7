-- `step_env`: refused, or the envelope's own step, the one of a run of one gain.
use mathlib.Core.Path.{refl}
use mathlib.Core.List.{[]}
use Rattle.envelope.specs.Step.{gain_step_at}
use Rattle.driver.proofs.Answered.{handed_on}
use Rattle.driver.proofs.Stepped.{gain_refused, gain_ready, gain_done_lem}
use Rattle.driver.proofs.state.KernelProcessor.step_env.Goals as goal

pub returns-in_err-judge_gain : goal.returns-in_err-judge_gain
returns-in_err-judge_gain c delay detector =
    rw (handed_on _ _ c.from_residual.ensures.1) (gain_refused _ _ _ (c.judge_gain.ensures delay detector) _ c.in_err-judge_gain.was)

pub gain_steps-step-requires : goal.gain_steps-step-requires
gain_steps-step-requires c =
    let ready = gain_ready _ c.args.gain _ (c.judge_gain.ensures [] []) _ c.in_ok-judge_gain.was in
    record {
      env_ready = ready;
      gains_bound = ready.keeper.room;
    }

pub returns : goal.returns
returns c delay detector =
    let e = c.gain_steps-step in
    let marks = e.new.marks in
    let minima = e.new.minima in
    let row = e.new.row in
    rw (c.with_env-self.ensures, c.told.ensures marks minima row)
    (gain_done_lem _ _ _ (c.judge_gain.ensures delay detector) _ c.in_ok-judge_gain.was (gain_step_at e.result marks minima row) (e.ensures.one_step c.args.gain refl))
