-- `answer_fours`: at each turn the answers agree with the definition's on those passed.
use mathlib.Core.Path.{◌≡◌}
use Prim.Native.Nat.{◌*◌}
use lib.ListN.{take}
use Rattle.detector.specs.Sums.{sums_by, answers_of}
use Rattle.detector.proofs.phases.answer_fours.Given as goal

abbrev pub invariant-loop-g : goal.invariant-loop-g
invariant-loop-g l = take (4 * l.g) l.answers ≡ take (4 * l.g) (answers_of (sums_by l.table) l.store l.run)
