-- `sums_along`: sixteen sums, and sixteen more where the run asks for them.
use mathlib.Core.Path.{◌∙◌}
use Rattle.envelope.proofs.Along.{sums_early, sums_late}
use Rattle.envelope.proofs.means.sums_along.Goals as goal

pub returns-then-n-le16 : goal.returns-then-n-le16
returns-then-n-le16 c =
    sums_early _ _ c.args.sums.now _ (c.copy_from_slice.ensures.after ∙ c.sums_from-early.ensures) _ c.if-n-le16.true

pub returns : goal.returns
returns c =
    sums_late _ _ c.args.sums.now _ (c.copy_from_slice.ensures.after ∙ c.sums_from-early.ensures) _ c.requires.n_bound c.requires.sums_len _ _ (c.copy_from_slice-2.ensures.after ∙ c.sums_from-late.ensures)
