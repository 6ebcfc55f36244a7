-- `ends_fit`: each test is about an end of the ring, by the laws of Loops.
use native.Mathlib.Omega.{arith}
use Rattle.keeper.proofs.Loops.{ends_same}
use Rattle.keeper.proofs.FloorKeeper.ends_fit.Goals as goal

pub returns-then-marks-last : goal.returns-then-marks-last
returns-then-marks-last c minima =
    ends_same _ _ _ _ _ _ minima c.requires.inside (omega arith) c.place-last.ensures.value _ c.saturating_sub-first.ensures c.if-self-eq0-2.false c.if-marks-last.true
