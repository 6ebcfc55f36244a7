-- `drop_front`: what the drop makes of the entries left is what it makes of all.
use mathlib.Core.Path.{refl, ◌∙◌}
use native.Mathlib.Omega.{arith}
use Rattle.keeper.proofs.Loops.{front_done, front_turn, front_on}
use Rattle.keeper.proofs.FloorKeeper.drop_front.Goals as goal

pub returns-then-marks-at-clause-ring_left : goal.returns-then-marks-at-clause-ring_left
returns-then-marks-at-clause-ring_left c minima =
    let l = c.loop-dropped in
    front_done _ _ _ _ _ c.requires.placed.inside c.requires.few _ _ _ c.loop-dropped-test.true l.invariant.0 refl (omega arith) minima ∙ l.invariant.1 minima

pub loop-dropped-preserved : goal.loop-dropped-preserved
loop-dropped-preserved c =
    let l = c.loop-dropped in
    let inside = c.requires.placed.inside in (
      front_on _ _ _ c.args.self.frame c.args.marks.now inside c.requires.few _ _ _ c.loop-dropped-test.true l.invariant.0 c.wrap-at.ensures,
      λ minima. front_turn _ _ _ _ _ inside c.requires.few _ _ _ c.loop-dropped-test.true l.invariant.0 c.wrap-at.ensures (omega arith) minima ∙ l.invariant.1 minima,
    )
