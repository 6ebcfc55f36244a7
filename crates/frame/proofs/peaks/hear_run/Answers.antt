-- `hear_run`: the peaks passed, and what the rest comes to.
use mathlib.Core.Path.{refl, ◌∙◌}
use mathlib.Core.Bool.{true}
use native.Mathlib.Omega.{arith}
use Rattle.frame.proofs.Heard.{peak_from_zero, set_from_zero}
use Rattle.frame.proofs.Turns.{heard_more, heard_done}
use Rattle.frame.proofs.peaks.hear_run.Goals as goal

pub loop-i-init : goal.loop-i-init
loop-i-init c = (refl, c.requires.from_zero)

pub heard_in-requires : goal.heard_in-requires
heard_in-requires c =
    peak_from_zero c.loop-i.peaks c.loop-i.i c.loop-i.invariant.1 (omega arith)

pub loop-i-preserved : goal.loop-i-preserved
loop-i-preserved c =
    let a = c.args in (
      heard_more true c.loop-i.peaks a.samples.now a.answers.now c.loop-i.i c.heard_in.result (omega arith) (omega arith) (omega arith) c.heard_in.ensures.value ∙ c.loop-i.invariant.0,
      set_from_zero c.loop-i.peaks c.loop-i.i c.heard_in.result c.loop-i.invariant.1 c.heard_in.ensures.from_zero,
    )

pub returns : goal.returns
returns c =
    let a = c.args in
    record {
      peaks_after = heard_done true c.loop-i.peaks a.samples.now a.answers.now c.loop-i.i (omega arith) ∙ c.loop-i.invariant.0;
      still_from_zero = c.loop-i.invariant.1;
    }
