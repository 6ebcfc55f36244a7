-- `means_along`: the line gives the sums, and the sums the means.
use Rattle.envelope.proofs.RunMeans.{along_laid}
use Rattle.envelope.proofs.row.AttackRow.means_along.Goals as goal

pub returns : goal.returns
returns c =
    let asked = c.requires.asked in
    c.means_given.ensures _ (along_laid _ _ _ _ _ _ asked.row_ordered asked.weights_len c.lay_line.ensures c.sums_along.ensures)
