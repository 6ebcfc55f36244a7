-- `drop_back`: what the drop makes of the entries left is what it makes of all.
use mathlib.Core.Path.{sym, ◌∙◌}
use Rattle.keeper.proofs.Loops.{back_turn}
use Rattle.keeper.proofs.FloorKeeper.drop_back.Goals as goal

pub loop-back-preserved : goal.loop-back-preserved
loop-back-preserved c marks =
    sym (back_turn _ marks _ _ _ _ _ c.loop-back-test.true c.place-at.ensures.value c.if-minima-at.false) ∙ c.loop-back.invariant marks
