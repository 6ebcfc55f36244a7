-- `answer_of`: the largest magnitude, and the first that is it.
use Rattle.detector.proofs.Push.{sums_tell}
use Rattle.detector.proofs.phases.answer_of.Goals as goal

pub returns : goal.returns
returns c =
    let both =
    let g = c.largest_of-peak in
    sums_tell c.args.sums.now g.result c.phase_of-phase.result g.ensures c.phase_of-phase.ensures in
    record { peak_value = both.0; phase_value = both.1 }
