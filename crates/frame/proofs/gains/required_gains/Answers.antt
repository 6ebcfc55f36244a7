-- `required_gains`: 1 where nothing was heard, else the gains passed, and those of the peaks that are left.
use mathlib.Core.Path.{◌∙◌}
use native.Mathlib.Omega.{arith}
use lib.Ieee.{Float, of_bits}
use Rattle.frame.specs.Frame.{required_gain}
use Rattle.frame.proofs.Alike.{unheard_gains}
use Rattle.arithmetic.proofs.InTurn.{map_more, map_done}
use Rattle.frame.proofs.gains.required_gains.Goals as goal

pub returns-then-heard-target : goal.returns-then-heard-target
unfolding of_bits
returns-then-heard-target c =
    let a = c.args in
    unheard_gains a.heard a.target a.peaks.now c.fill.new.self c.requires c.if-heard-target.true (c.fill.ensures.after (λ y h. h))

pub loop-i-preserved : goal.loop-i-preserved
loop-i-preserved c =
    let a = c.args in
    map_more (λ (p : Float). required_gain a.target p) c.loop-i.peaks c.loop-i.i c.required_gain.result (omega arith) c.required_gain.ensures ∙ c.loop-i.invariant

pub returns : goal.returns
returns c =
    let a = c.args in
    map_done (λ (p : Float). required_gain a.target p) c.loop-i.peaks c.loop-i.i (omega arith) ∙ c.loop-i.invariant
