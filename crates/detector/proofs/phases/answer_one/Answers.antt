-- `answer_one`: what its sums tell.
use Rattle.detector.proofs.Push.{tell_same}
use Rattle.detector.proofs.phases.answer_one.Goals as goal

pub returns : goal.returns
returns c =
    let both =
    let o = c.sums_of_one-sums in
    let t = c.answer_of in
    tell_same o.result _ t.result.peak t.result.phase o.ensures (t.ensures.peak_value, t.ensures.phase_value) in
    record { peak_value = both.0; phase_value = both.1 }
