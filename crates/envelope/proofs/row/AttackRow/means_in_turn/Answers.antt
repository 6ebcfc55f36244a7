-- `means_in_turn`: the means passed, and what the rest comes to.
use mathlib.Core.Path.{sym, ◌∙◌}
use native.Mathlib.Omega.{arith}
use Rattle.envelope.specs.Row.{rowed_at}
use Rattle.envelope.proofs.RunMeans.{means_more, means_done, turn_keeps}
use Rattle.envelope.proofs.row.AttackRow.means_in_turn.Goals as goal

pub mean-requires : goal.mean-requires
mean-requires c =
    let l = c.loop-floor in
    let k = turn_keeps l.a l.row l.floor-index l.floors (rowed_at c.push-a.result c.push-a.new.row) (omega arith) c.push-a.ensures l.invariant.0 l.invariant.1 in
    record {
      row_ordered = k.0;
      weights_len = c.requires.weights_len ∙ sym l.invariant.2 ∙ sym k.2;
    }

pub loop-floor-preserved : goal.loop-floor-preserved
loop-floor-preserved c =
    let l = c.loop-floor in
    let next = rowed_at c.push-a.result c.push-a.new.row in
    let k = turn_keeps l.a l.row l.floor-index l.floors next (omega arith) c.push-a.ensures l.invariant.0 l.invariant.1 in (
      k.0,
      k.1 c.mean.result,
      k.2 ∙ l.invariant.2,
      means_more c.args.weights.now (rowed_at l.a l.row) l.floor-index l.floors next c.mean.result (omega arith) c.push-a.ensures c.mean.ensures ∙ l.invariant.3,
    )

pub returns : goal.returns
returns c = means_done _ _ c.loop-floor.floor-index _ (omega arith) ∙ c.loop-floor.invariant.3
