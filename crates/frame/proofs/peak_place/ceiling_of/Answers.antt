-- `ceiling_of`: the lower of the two.
use mathlib.Core.Path.{refl, sym}
use Rattle.frame.proofs.peak_place.ceiling_of.Goals as goal

pub returns-then-top-target : goal.returns-then-top-target
returns-then-top-target c = sym (rw c.if-top-target.true refl)

pub returns-else-top-target : goal.returns-else-top-target
returns-else-top-target c = sym (rw c.if-top-target.false refl)
