-- What bytes keep of a machine, beside its stores: the limiter, and what its bank shows.
use Rattle.limiter.specs.Stores.{Stores}
use Rattle.limiter.specs.declared.state.Limiter.{Limiter}
use Rattle.turns.specs.Machine.{Machine}
use Rattle.driver.specs.Parts.{shown_of}
use Rattle.driver.specs.declared.state.Threshold.{Threshold}
use Rattle.state_bytes.specs.declared.block.RenderedBlock.{RenderedBlock}

pub record Showing : Type 0 where
  pub limiter : Limiter
  pub threshold : Threshold
  pub stores : Stores

abbrev pub showing : Machine → Showing
showing m = record { limiter = m.limiter; threshold = shown_of m.bank; stores = m.stores }

abbrev pub rendered_at : RenderedBlock → Stores → Showing
rendered_at r s = record { limiter = r.limiter; threshold = r.threshold; stores = s }
