-- `floors_in_order`: the floors passed, and what the rest comes to.
use Rattle.keeper.specs.Keeper.{keeping_at}
use Rattle.keeper.specs.Run.{floors_of}
use Rattle.keeper.proofs.Run.{FloorsLeft}
use Rattle.keeper.proofs.FloorKeeper.floors_in_order.Given as goal

abbrev pub invariant-loop-gain : goal.invariant-loop-gain
invariant-loop-gain l =
    FloorsLeft (floors_of (keeping_at l.initial.k l.initial.marks l.initial.minima) l.initial.gains) (keeping_at l.k l.marks l.minima) l.gain-index l.gains
