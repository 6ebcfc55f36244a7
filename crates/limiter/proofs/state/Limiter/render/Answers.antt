-- `render`: the run, and the state that it leaves.
use mathlib.Core.Path.{ap, ◌∙◌}
use Rattle.frame.specs.Run.{RunDone}
use Rattle.limiter.specs.Stores.{stores_in}
use Rattle.limiter.specs.Run.{render_of, ran_by}
use Rattle.limiter.proofs.Frames.{run_asks, ran_in}
use Rattle.limiter.proofs.state.Limiter.render.Goals as goal

pub render_run-run-requires-clause-run_ready : goal.render_run-run-requires-clause-run_ready
render_run-run-requires-clause-run_ready c =
    let a = c.args in
    run_asks a.self a.n (stores_in a.lent.now) a.audio.now c.requires.kernel_ready c.requires.sanitized

pub returns-clause-run_done : goal.returns-clause-run_done
unfolding render_of
returns-clause-run_done c =
    let a = c.args in
    let r = c.render_run-run in
    rw c.moved_on-limiter.ensures
    (ran_in a.self a.lent.now.weights.now a.target 0 r.result.env r.result.pos r.new.lent r.new.audio r.ensures.stays.weights
    ∙ ap (λ (d : RunDone). ran_by a.self a.lent.now.weights.now a.target 0 d) r.ensures.run_done)
