-- `sums_up`: the loop keeps what is still to be found out equal to what was asked.
use Rattle.settings.proofs.WeightSum.{Summed}
use Rattle.settings.proofs.weights.sums_up.Given as goal

abbrev pub invariant-loop-w : goal.invariant-loop-w
invariant-loop-w l = Summed l.weights l.slack l.sum l.w-index
