-- `default`: the literals are the definition's bits; −1.0 is a negated literal.
use Rattle.std.proofs.Common.{refl}
use lib.Ieee.{of_bits, neg}
use Rattle.settings.proofs.LimiterSettingsDefault.default.Goals as goal

pub returns : goal.returns
unfolding of_bits neg
returns c = refl
