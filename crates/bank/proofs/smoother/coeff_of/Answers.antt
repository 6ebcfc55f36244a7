-- `coeff_of`: by shape; `exp` answers a value.
use mathlib.Core.Path.{refl, ◌∙◌}
use lib.Ieee.{of_bits, neg}
use Rattle.bank.specs.Smoother.{coeff_of}
use Rattle.bank.proofs.Domain.{exp_value, coeff_pole}
use Rattle.bank.proofs.smoother.coeff_of.Goals as goal

pub returns-in-Step : goal.returns-in-Step
unfolding coeff_of of_bits neg
returns-in-Step c = rw c.in-Step.is refl

pub returns-in-Linear : goal.returns-in-Linear
unfolding coeff_of of_bits neg
returns-in-Linear c = rw c.in-Linear.is refl

pub returns-in-OnePole : goal.returns-in-OnePole
unfolding coeff_of of_bits neg
returns-in-OnePole c =
    let a = c.args in
    coeff_pole a.shape a.steps _ c.in-OnePole.is (c.unwrap_or.ensures ∙ exp_value a.steps _ c.exp.result c.requires c.exp.ensures)
