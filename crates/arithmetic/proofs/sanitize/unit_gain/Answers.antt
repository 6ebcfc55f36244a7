-- `unit_gain`: what lies within 0 and 1 stays; else the two calls, one after the other.
use Rattle.std.proofs.Common.{sym, ◌∙◌}
use Rattle.arithmetic.proofs.Within.{unit_same}
use Rattle.arithmetic.proofs.sanitize.unit_gain.Goals as goal

pub returns-then-unit : goal.returns-then-unit
returns-then-unit c = sym (unit_same c.args.x (sym c.unit.ensures ∙ c.if-unit.true))
