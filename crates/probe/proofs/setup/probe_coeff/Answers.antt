-- `probe_coeff`: where setup refuses, −1.0.
use Rattle.std.proofs.Common.{refl, sym, ◌∙◌}
use Rattle.std.specs.Float.Ieee.{of_bits, neg}
use Rattle.probe.proofs.setup.probe_coeff.Goals as goal

pub returns-else-has_coeff : goal.returns-else-has_coeff
unfolding of_bits neg
returns-else-has_coeff c = rw (sym c.has_coeff.ensures ∙ c.if-has_coeff.false) refl
