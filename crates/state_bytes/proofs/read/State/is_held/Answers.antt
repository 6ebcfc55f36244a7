-- `is_held`: test by test.
use Rattle.state_bytes.specs.State.{holds_state}
use Rattle.state_bytes.proofs.read.State.is_held.Goals as goal

pub returns : goal.returns
unfolding holds_state
returns c = cc
