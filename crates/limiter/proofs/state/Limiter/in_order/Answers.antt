-- `in_order`: clause by clause.
use mathlib.Core.Path.{refl}
use Rattle.limiter.specs.Order.{is_in_order}
use Rattle.limiter.proofs.state.Limiter.in_order.Goals as goal

pub returns : goal.returns
unfolding is_in_order
returns c =
    rw (c.unit-target.ensures, c.unit-gain.ensures, c.in_order-rowed.ensures, c.in_order-kept.ensures) refl
