-- `follow`: the calls, one inside the other.
use mathlib.Core.Path.{refl}
use Rattle.envelope.specs.Follow.{followed}
use Rattle.envelope.proofs.follow.follow.Goals as goal

pub returns : goal.returns
unfolding followed
returns c = rw (c.unit_gain-2.ensures, c.moved.ensures, c.unit_gain.ensures) refl
