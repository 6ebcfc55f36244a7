-- `abs`: std's word for it.
use Rattle.std.proofs.Common.{◌∙◌}
use Rattle.arithmetic.proofs.Cases.{abs_same}
use Rattle.arithmetic.proofs.number.abs.Goals as goal

pub returns : goal.returns
returns c = c.abs.ensures.value ∙ abs_same c.args.x
