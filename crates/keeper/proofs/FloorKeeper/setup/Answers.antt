-- `setup`: each answer by what is judged.
use lib.Ieee.{of_bits}
use Rattle.std.proofs.lemmas.Result.{err_from_is_err_and}
use Rattle.keeper.proofs.Calls.{setup_refused, setup_finished}
use Rattle.keeper.proofs.FloorKeeper.setup.Goals as goal

pub returns-in_err-judge_stores : goal.returns-in_err-judge_stores
returns-in_err-judge_stores c =
    let p = err_from_is_err_and c.from_residual.result c.from_residual.ensures.1 in
    rw (p.1, p.2) (setup_refused _ _ _ _ c.in_err-judge_stores.ensures)

pub returns : goal.returns
unfolding of_bits
returns c =
    rw c.fresh.ensures (setup_finished _ _ _ c.in_ok-judge_stores.ensures _ _ (c.fill.ensures.after (λ y e. e)) (c.fill-2.ensures.after (λ y e. e)))
