-- `floors_in_order`: the floors passed, and what the rest comes to.
use mathlib.Core.Path.{◌∙◌}
use native.Mathlib.Omega.{arith}
use Rattle.keeper.proofs.Run.{floors_turn, floors_done}
use Rattle.keeper.proofs.FloorKeeper.floors_in_order.Goals as goal

pub loop-gain-preserved : goal.loop-gain-preserved
loop-gain-preserved c =
    floors_turn _ _ _ _ _ c.loop-gain.invariant (omega arith) c.step_in_order.ensures.stepped

pub returns : goal.returns
returns c = floors_done _ c.loop-gain.gain-index _ (omega arith) ∙ c.loop-gain.invariant.rest
