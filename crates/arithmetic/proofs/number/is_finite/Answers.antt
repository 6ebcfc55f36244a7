-- `is_finite`: std's word for it.
use Rattle.std.proofs.Common.{◌∙◌}
use Rattle.arithmetic.proofs.Cases.{finite_same}
use Rattle.arithmetic.proofs.number.is_finite.Goals as goal

pub returns : goal.returns
returns c = c.is_finite.ensures.value ∙ finite_same c.args.x
