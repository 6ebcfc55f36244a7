-- `has_fraction`: the tests are the definition's.
use Rattle.std.proofs.Common.{refl}
use lib.Ieee.{of_bits}
use Rattle.arithmetic.proofs.number.has_fraction.Goals as goal

pub returns : goal.returns
unfolding of_bits
returns c = refl
