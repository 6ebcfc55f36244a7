-- `transpose_rows`: the cycle of each place in turn.
use Rattle.interleaving.proofs.Cycles.{Turning}
use Rattle.interleaving.proofs.rows.transpose_rows.Given as goal

abbrev pub invariant-loop-start : goal.invariant-loop-start
invariant-loop-start l = Turning l.size l.table.rows l.table.columns l.start l.initial.bytes l.bytes l.done.bits
