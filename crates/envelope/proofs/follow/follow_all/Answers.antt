-- `follow_all`: the gains passed, and what the rest comes to.
use mathlib.Core.Path.{sym, ap, ◌∙◌}
use native.Mathlib.Omega.{arith}
use lib.ListN.{set}
use Rattle.envelope.proofs.Following.{attacked, follows_turn, follows_done}
use Rattle.envelope.proofs.follow.follow_all.Goals as goal
use Rattle.envelope.proofs.follow.follow_all.Goals.{then-attacks, else-attacks}

pub loop-mean-preserved : goal.loop-mean-preserved
loop-mean-preserved c =
    let l = c.loop-mean in
    elim c.if-attacks.branch [
      | then-attacks w ↦
          let hit = attacked _ _ c.args.coeff (sym c.attacks.ensures ∙ w.if-attacks.true) in
          follows_turn _ l.g l.mean-index l.means _ _ (omega arith) (w.g-is ∙ hit) (w.means-is ∙ ap (set l.means l.mean-index) (sym w.g-is)) ∙ l.invariant
      | else-attacks w ↦ follows_turn _ l.g l.mean-index l.means _ _ (omega arith) (w.g-is ∙ w.follow-g.ensures) (w.means-is ∙ ap (set l.means l.mean-index) (sym w.g-is)) ∙ l.invariant
    ]

pub returns : goal.returns
returns c = follows_done _ _ c.loop-mean.mean-index _ (omega arith) ∙ c.loop-mean.invariant
