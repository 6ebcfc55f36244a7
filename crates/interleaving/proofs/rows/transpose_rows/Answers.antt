-- `transpose_rows`: the cycle of each place in turn.
use native.Mathlib.Omega.{arith}
use Rattle.interleaving.proofs.Cycles.{turning_done}
use Rattle.interleaving.proofs.rows.transpose_rows.Goals as goal

pub returns : goal.returns
returns c = turning_done (omega arith) c.loop-start.invariant
