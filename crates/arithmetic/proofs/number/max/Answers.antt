-- `max`: each branch is one of the definition's.
use Rattle.std.proofs.Common.{sym, ◌∙◌}
use Rattle.arithmetic.proofs.Cases.{ne_nan}
use Rattle.arithmetic.proofs.number.max.Goals as goal

pub returns-then-a : goal.returns-then-a
returns-then-a c = simp (c.if-a-b.false, sym (ne_nan c.args.a) ∙ c.if-a.true)

pub returns-else-a : goal.returns-else-a
returns-else-a c = simp (c.if-a-b.false, sym (ne_nan c.args.a) ∙ c.if-a.false)
