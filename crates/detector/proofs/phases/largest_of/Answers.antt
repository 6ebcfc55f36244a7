-- `largest_of`: the largest of the peak so far and the sums that are left stays that of them all.
use mathlib.Core.Path.{refl, ◌∙◌}
use lib.Ieee.{lt, of_bits}
use Rattle.detector.specs.Oversample.{largest_of}
use Rattle.detector.proofs.Push.{largest_more, largest_done}
use Rattle.detector.proofs.phases.largest_of.Goals as goal

pub loop-s-init : goal.loop-s-init
unfolding lt of_bits largest_of
loop-s-init c = (refl, refl)

pub loop-s-preserved : goal.loop-s-preserved
loop-s-preserved c =
    let l = c.loop-s in
    let o = c.larger_of-peak in
    (o.ensures.not_below_zero, largest_more c.args.sums.now l.s-index l.peak o.result c.loop-s-test.true o.ensures.value ∙ l.invariant.1)

pub returns : goal.returns
returns c =
    let l = c.loop-s in
    largest_done c.args.sums.now l.s-index l.peak c.loop-s-test.false ∙ l.invariant.1
