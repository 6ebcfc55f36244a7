-- `declares`: clause by clause.
use mathlib.Core.Path.{◌≡◌, refl, ◌∙◌}
use denote.Enum.Bare.{sameb}
use lib.Ieee.{of_bits, neg}
use Rattle.bank.specs.contracts.param.Smoothing.{the_type}
use Rattle.bank.specs.declared.param.Smoothing.{Smoothing}
use Rattle.bank.specs.declared.param.Smoothing.TheVariants.{Step, Linear, OnePole}
use Rattle.turns.specs.Machine.{is_linear, declares}
use Rattle.driver.proofs.ready.declares.Goals as goal

linear_same : (s : Smoothing) → sameb the_type s Linear ≡ is_linear s
linear_same Step = refl
linear_same Linear = refl
linear_same OnePole = refl

pub returns : goal.returns
unfolding declares of_bits neg
returns c = rw (c.eq.ensures ∙ linear_same c.args.p.shape, c.same_value-time.ensures, c.same_value-default.ensures, c.same_value-high.ensures, c.same_value-low.ensures) refl
