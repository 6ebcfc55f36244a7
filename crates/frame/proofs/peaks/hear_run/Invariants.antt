-- `hear_run`: the peaks passed, and what the rest comes to.
use mathlib.Core.Path.{◌≡◌}
use mathlib.Core.Bool.{true}
use mathlib.Core.List.{◌++◌}
use lib.ListN.{take, drop}
use Rattle.frame.specs.Passes.{all_from_zero, heard_all}
use Rattle.frame.proofs.peaks.hear_run.Given as goal

abbrev pub invariant-loop-i : goal.invariant-loop-i
invariant-loop-i l = (take l.i l.peaks ++ heard_all true (drop l.i l.peaks) (drop l.i l.samples) (drop l.i l.answers) ≡ heard_all true l.initial.peaks l.samples l.answers) × (all_from_zero l.peaks ≡ true)
