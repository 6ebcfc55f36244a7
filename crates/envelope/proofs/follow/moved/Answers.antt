-- `moved`: the test is the definition's.
use mathlib.Core.Path.{refl}
use Rattle.envelope.proofs.follow.moved.Goals as goal

pub returns-then-mean-gain : goal.returns-then-mean-gain
returns-then-mean-gain c = rw c.if-mean-gain.true refl

pub returns-else-mean-gain : goal.returns-else-mean-gain
returns-else-mean-gain c = rw c.if-mean-gain.false refl
