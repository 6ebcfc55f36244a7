-- `threshold_param`: the declaration, number by number.
use mathlib.Core.Path.{refl}
use lib.Ieee.{of_bits, neg}
use Rattle.driver.proofs.setup.threshold_param.Goals as goal

pub returns : goal.returns
unfolding of_bits neg
returns c = refl
