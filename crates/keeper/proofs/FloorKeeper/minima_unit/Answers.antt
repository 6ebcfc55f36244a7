-- `minima_unit`: of minima that rise, the first and the last tell (Rising).
use native.Mathlib.Omega.{arith}
use lib.Ieee.{of_bits}
use Rattle.keeper.proofs.Rising.{ends_read}
use Rattle.keeper.proofs.FloorKeeper.minima_unit.Goals as goal

pub returns : goal.returns
unfolding of_bits
returns c marks r = ends_read _ marks _ _ _ _ (omega arith) (omega arith) c.place-last.ensures.value r
