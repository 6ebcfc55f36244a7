-- `answer_all`: at each turn the answers passed are those of the run.
use Rattle.detector.specs.Sums.{sums_by, answers_of}
use lib.ListN.{take}
use mathlib.Core.Path.{◌≡◌}
use Rattle.detector.proofs.phases.answer_all.Given as goal

abbrev pub invariant-loop-i : goal.invariant-loop-i
invariant-loop-i l = take l.i l.answers ≡ take l.i (answers_of (sums_by l.table) l.store l.run)
