-- `copysign`: std's word for it, and of a NaN's sign the clear one.
use Rattle.std.proofs.Common.{sym, ◌∙◌}
use Rattle.arithmetic.proofs.Cases.{copied_same, copied_nan}
use Rattle.arithmetic.proofs.number.copysign.Goals as goal

pub returns-then-is_nan : goal.returns-then-is_nan
returns-then-is_nan c = c.abs.ensures.value ∙ copied_nan c.args.x c.args.y (sym c.is_nan.ensures.value ∙ c.if-is_nan.true)

pub returns-else-is_nan : goal.returns-else-is_nan
returns-else-is_nan c = c.copysign.ensures ∙ copied_same c.args.x c.args.y
