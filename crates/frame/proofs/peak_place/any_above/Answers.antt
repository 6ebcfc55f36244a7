-- `any_above`: what was found so far, or the rest finds.
use Rattle.frame.proofs.Risen.{above_more, above_done}
use Rattle.frame.specs.Passes.{any_above}
use borrow.Author.Rules.{rules}
use Rattle.frame.proofs.peak_place.any_above.Goals as goal

pub loop-p-preserved : goal.loop-p-preserved
loop-p-preserved c =
    let a = c.args in
    above_more a.peaks.now c.loop-p.p-index a.top c.loop-p.found (any_above a.top a.peaks.now) (search rules) c.loop-p.invariant

pub returns : goal.returns
returns c =
    let a = c.args in
    above_done a.peaks.now c.loop-p.p-index a.top c.loop-p.found (any_above a.top a.peaks.now) (search rules) c.loop-p.invariant
