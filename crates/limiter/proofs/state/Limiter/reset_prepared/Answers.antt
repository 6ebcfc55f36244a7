-- `reset_prepared`: the stores filled again, the starting values made again.
use mathlib.Core.Path.{refl}
use lib.Ieee.{of_bits}
use Rattle.limiter.specs.Reset.{reset_of}
use Rattle.limiter.proofs.Ready.{prepared_is}
use Rattle.limiter.proofs.state.Limiter.reset_prepared.Goals as goal

pub started-requires : goal.started-requires
started-requires c =
    let t = (prepared_is c.args.self c.requires).rules in
    record {
      release_taken = t.release_is;
      rate_taken = rw c.spec.ensures t.rate_is;
    }

pub returns : goal.returns
unfolding of_bits reset_of
returns c marks minima weights =
    rw (c.started.ensures, c.spec.ensures, c.fill-3.ensures.after (λ y h. h), c.fill-2.ensures.after (λ y h. h), c.fill.ensures.after (λ y h. h)) refl
