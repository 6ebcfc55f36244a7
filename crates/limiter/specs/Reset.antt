-- Reset: the starting values again, marks and minima unread and unchanged.
use Rattle.limiter.specs.State.{spec_of, started}
use Rattle.limiter.specs.Stores.{Stores, cleared}
use Rattle.limiter.specs.declared.state.Limiter.{Limiter}

abbrev pub reset_state : Limiter → Limiter
reset_state l = started l.settings (spec_of l)

pub record Reset : Type 0 where
  pub limiter : Limiter
  pub stores : Stores

abbrev pub reset_at : Limiter → Stores → Reset
reset_at l stores = record { limiter = l; stores = stores }

unfoldable pub reset_of : Limiter → Stores → Reset
reset_of l stores = reset_at (reset_state l) (cleared stores)
