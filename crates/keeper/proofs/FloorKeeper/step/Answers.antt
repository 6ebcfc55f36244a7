-- `step`: each answer by what is judged; the finished one is the inner step's.
use Rattle.std.proofs.lemmas.Result.{err_from_is_err_and}
use Rattle.keeper.specs.Keeper.{inner_at}
use Rattle.keeper.proofs.Calls.{step_refused, step_finished}
use Rattle.keeper.proofs.FloorKeeper.step.Goals as goal

pub returns-in_err-judge : goal.returns-in_err-judge
returns-in_err-judge c =
    let p = err_from_is_err_and c.from_residual.result c.from_residual.ensures.1 in
    rw (p.1, p.2) (step_refused _ _ _ c.in_err-judge.ensures)

pub returns : goal.returns
returns c =
    let d = c.step_in_order in
    rw d.ensures.kept (step_finished _ _ c.in_ok-judge.ensures (inner_at d.result d.new.self d.new.marks d.new.minima) d.ensures.stepped)
