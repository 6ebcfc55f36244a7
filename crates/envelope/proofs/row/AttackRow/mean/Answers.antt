-- `mean`: a tally of 0 says that all are 1.0; else the two parts of the row, one after the other.
use mathlib.Core.Path.{sym, ◌∙◌}
use native.Mathlib.Omega.{arith}
use lib.Ieee.{of_bits}
use lib.Seq.{length-take-le}
use Rattle.envelope.proofs.Tally.{ordered, placed}
use Rattle.envelope.proofs.Weighted.{mean_one, mean_parts}
use Rattle.envelope.proofs.row.AttackRow.mean.Goals as goal

pub returns-then-self-eq0 : goal.returns-then-self-eq0
unfolding of_bits
returns-then-self-eq0 c =
    let o = ordered _ _ c.requires.row_ordered in
    mean_one c.args.weights.now c.args.row.now c.args.self.pos (omega (arith, o.place)) (sym o.true_tally ∙ c.if-self-eq0.true)

pub slice_bounds-weighted-end : goal.slice_bounds-weighted-end
slice_bounds-weighted-end c = sym (length-take-le _ _ (let p = placed _ _ c.requires.row_ordered in omega (arith, c.requires.weights_len)))

pub slice_bounds-weighted-end-2 : goal.slice_bounds-weighted-end-2
slice_bounds-weighted-end-2 c = sym (length-take-le _ _ (let p = placed _ _ c.requires.row_ordered in omega arith))

pub returns : goal.returns
unfolding of_bits
returns c =
    let o = ordered _ _ c.requires.row_ordered in
    mean_parts _ _ _ (omega (arith, o.place)) c.requires.weights_len _ _ (λ z. c.if-self-eq0.false (o.true_tally ∙ z)) c.weighted-newer.ensures c.weighted.ensures
