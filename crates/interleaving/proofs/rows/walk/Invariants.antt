-- `walk`: each turn fills the place whose row was taken last, and takes the row that comes to it.
use Prim.Native.Nat.{◌*◌}
use Rattle.interleaving.proofs.Cycles.{Walking, clear}
use Rattle.interleaving.proofs.rows.walk.Given as goal

abbrev pub invariant-loop-from : goal.invariant-loop-from
invariant-loop-from l = Walking l.size l.table.rows l.table.columns l.start l.at l.from l.initial.bytes l.initial.done.bits l.bytes l.done.bits

abbrev pub decreases-loop-from : goal.decreases-loop-from
decreases-loop-from l = clear l.done.bits (l.table.rows * l.table.columns)
