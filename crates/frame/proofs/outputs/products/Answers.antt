-- `products`: the outputs passed, and what the rest comes to.
use mathlib.Core.Path.{◌∙◌}
use native.Mathlib.Omega.{arith}
use Rattle.frame.specs.Rules.{leaves_by}
use Rattle.frame.proofs.Turns.{products_more, products_done}
use Rattle.frame.proofs.outputs.products.Goals as goal

pub loop-i-preserved : goal.loop-i-preserved
loop-i-preserved c =
    let a = c.args in
    products_more (leaves_by a.format) a.gains.now c.loop-i.samples c.loop-i.i c.given_out.result (omega arith) (omega arith) c.given_out.ensures ∙ c.loop-i.invariant

pub returns : goal.returns
returns c =
    let a = c.args in
    products_done (leaves_by a.format) a.gains.now c.loop-i.samples c.loop-i.i (omega arith) (omega arith) ∙ c.loop-i.invariant
