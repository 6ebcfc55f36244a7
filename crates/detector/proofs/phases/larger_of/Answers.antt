-- `larger_of`: the magnitude wins, or the peak stays.
use Rattle.detector.proofs.Pattern.{larger_wins, larger_stays}
use Rattle.detector.proofs.Peak.{both_ways}
use Rattle.detector.proofs.phases.larger_of.Goals as goal

pub returns-then-m-peak : goal.returns-then-m-peak
returns-then-m-peak c =
    let both =
    let a = c.args in
    both_ways a.peak a.sum c.requires (larger_wins a.peak a.sum c.magnitude-m.result c.magnitude-m.ensures c.requires c.if-m-peak.true) in
    record { value = both.0; not_below_zero = both.1 }

pub returns-else-m-peak : goal.returns-else-m-peak
returns-else-m-peak c =
    let both =
    let a = c.args in
    both_ways a.peak a.sum c.requires (larger_stays a.peak a.sum c.magnitude-m.result c.magnitude-m.ensures c.if-m-peak.false) in
    record { value = both.0; not_below_zero = both.1 }
