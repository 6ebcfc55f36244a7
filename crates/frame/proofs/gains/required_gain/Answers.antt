-- `required_gain`: the quotient, and the smaller one.
use mathlib.Core.Path.{refl}
use lib.Ieee.{of_bits}
use Rattle.frame.proofs.gains.required_gain.Goals as goal

pub returns : goal.returns
unfolding of_bits
returns c = rw c.min.ensures refl
