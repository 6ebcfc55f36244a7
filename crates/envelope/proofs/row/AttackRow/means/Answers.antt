-- `means`: each way gives the same means.
use Rattle.std.proofs.Common.{rules}
use mathlib.Core.Path.{sym, ◌∙◌}
use Rattle.envelope.proofs.RunMeans.{still}
use Rattle.envelope.proofs.row.AttackRow.means.Goals as goal

pub returns-then-all_one : goal.returns-then-all_one
returns-then-all_one c =
    still _ _ _ _ _ (search rules) (search rules) c.requires.row_ordered c.if-self-eq0.true (sym c.all_one.ensures ∙ c.if-all_one.true) c.pos_after.ensures
