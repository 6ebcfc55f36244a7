-- `attacks`: the tests are the definition's.
use mathlib.Core.Path.{refl}
use Rattle.envelope.proofs.follow.attacks.Goals as goal

pub returns : goal.returns
returns c = rw (c.unit.ensures, c.unit-2.ensures) refl
