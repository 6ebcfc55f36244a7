-- `step_in_order`: what the calls hand back adds up to the definition's step, by the laws of Step: `front_fits` is what both drops leave.
use native.Mathlib.Omega.{arith}
use lib.ListN.{length-set}
use Rattle.keeper.proofs.Step.{ready_placed, back_fits, front_fits, step_done}
use Rattle.keeper.proofs.FloorKeeper.step_in_order.Goals as goal

pub drop_back-back-requires : goal.drop_back-back-requires
drop_back-back-requires c = ready_placed _ _ c.requires c.requires.minima_fit

pub drop_front-front-requires : goal.drop_front-front-requires
drop_front-front-requires c = record {
  placed = ready_placed _ _ c.requires c.requires.marks_fit;
  few = (back_fits _ _ c.requires _ c.unit_gain-rg.ensures _ c.drop_back-back.ensures).0;
}

pub overflow_sub-dropped : goal.overflow_sub-dropped
overflow_sub-dropped c =
    let f = c.drop_front-front.ensures in
    omega (arith, front_fits _ _ c.requires _ c.unit_gain-rg.ensures _ c.drop_back-back.ensures _ _ f.ring_left f.places.1, back_fits _ _ c.requires _ c.unit_gain-rg.ensures _ c.drop_back-back.ensures)

pub place-place-requires : goal.place-place-requires
place-place-requires c =
    let f = c.drop_front-front.ensures in
    let k = front_fits _ _ c.requires _ c.unit_gain-rg.ensures _ c.drop_back-back.ensures _ _ f.ring_left f.places.1 in
    (omega (arith, c.requires.marks_fit), omega (arith, k.0), omega (arith, k.1))

pub bounds-minima-self : goal.bounds-minima-self
bounds-minima-self c =
    let f = c.drop_front-front.ensures in
    simp length-set (omega (arith, front_fits _ _ c.requires _ c.unit_gain-rg.ensures _ c.drop_back-back.ensures _ _ f.ring_left f.places.1, c.requires.minima_fit))

pub returns-clause-stepped : goal.returns-clause-stepped
returns-clause-stepped c =
    let f = c.drop_front-front.ensures in
    step_done _ _ c.requires _ c.unit_gain-rg.ensures _ c.drop_back-back.ensures _ _ f.ring_left f.places.1 _ c.place-place.ensures.value
