-- `answer_four`: at each turn the answers agree with the definition's on those passed.
use mathlib.Core.Path.{◌≡◌}
use Prim.Native.Nat.{◌+◌}
use lib.ListN.{take}
use Rattle.detector.specs.Sums.{sums_by, answers_of}
use Rattle.detector.proofs.phases.answer_four.Given as goal

abbrev pub invariant-loop-r : goal.invariant-loop-r
invariant-loop-r l =
    take l.at l.initial.answers ≡ take l.at (answers_of (sums_by l.table) l.store l.run) → take (l.at + l.r) l.answers ≡ take (l.at + l.r) (answers_of (sums_by l.table) l.store l.run)
