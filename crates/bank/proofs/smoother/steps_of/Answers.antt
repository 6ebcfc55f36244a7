-- `steps_of`: the definition with its literals.
use lib.Ieee.{of_bits}
use Rattle.bank.specs.Smoother.{steps_of}
use Rattle.bank.proofs.smoother.steps_of.Goals as goal

pub returns : goal.returns
unfolding steps_of of_bits
returns c = c.max.ensures
