-- `start_of`: the literals.
use lib.Ieee.{of_bits}
use mathlib.Core.Path.{refl}
use Rattle.frame.proofs.highest.start_of.Goals as goal

pub returns-then-asked : goal.returns-then-asked
unfolding of_bits
returns-then-asked c = rw c.if-asked.true refl

pub returns-else-asked : goal.returns-else-asked
unfolding of_bits
returns-else-asked c = rw c.if-asked.false refl
