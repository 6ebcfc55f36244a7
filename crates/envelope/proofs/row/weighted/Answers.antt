-- `weighted`: the sum so far, with the products that are left, is the whole sum.
use mathlib.Core.Path.{◌∙◌}
use native.Mathlib.Omega.{arith}
use Rattle.envelope.proofs.Weighted.{weighted_more}
use Rattle.envelope.proofs.row.weighted.Goals as goal

pub loop-i-preserved : goal.loop-i-preserved
loop-i-preserved c =
    let l = c.loop-i in
    weighted_more _ _ _ l.i _ (omega arith) (omega arith) ∙ l.invariant
