-- `kept_argument`: the two tests are the definition's.
use lib.Ieee.{of_bits, neg}
use Rattle.settings.proofs.target.kept_argument.Goals as goal

pub returns-then-a : goal.returns-then-a
unfolding of_bits neg
returns-then-a c = simp c.if-a.true

pub returns-then-a-2 : goal.returns-then-a-2
unfolding of_bits neg
returns-then-a-2 c = simp (c.if-a.false, c.if-a-2.true)

pub returns-else-a-2 : goal.returns-else-a-2
unfolding of_bits neg
returns-else-a-2 c = simp (c.if-a.false, c.if-a-2.false)
