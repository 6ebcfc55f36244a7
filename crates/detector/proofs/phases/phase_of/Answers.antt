-- `phase_of`: the first place that has the peak, as `position` tells it.
use mathlib.Core.Path.{◌∙◌}
use lib.Ieee.{Float, eq, of_bits}
use Rattle.std.proofs.Common.{rules, tests}
use Rattle.std.proofs.lemmas.Iterator.{YieldsList-from_slice}
use Rattle.std.proofs.lemmas.Iterator.Search.{position_from_yields_List}
use Rattle.arithmetic.specs.Number.{abs_of}
use Rattle.detector.proofs.Push.{phase_found}
use Rattle.detector.proofs.phases.phase_of.Goals as goal

pub returns-then-peak : goal.returns-then-peak
unfolding of_bits
returns-then-peak c = rw c.if-peak.true

pub returns : goal.returns
unfolding of_bits
returns c =
    let a = c.args in
    rw c.if-peak.false
    (position_from_yields_List (λ (s : Float). eq (abs_of s) a.peak) _ _ c.position.result c.position.ensures.ran (YieldsList-from_slice a.sums.now (cc)) (λ x b q k. search (rules, tests)) ∙ phase_found a.sums.now a.peak)
