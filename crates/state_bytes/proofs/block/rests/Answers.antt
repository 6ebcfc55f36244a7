-- `rests`: one parameter, which is still.
use Rattle.state_bytes.proofs.Shows.{shown_rests}
use Rattle.state_bytes.proofs.block.rests.Goals as goal

pub returns : goal.returns
returns c = shown_rests c.args.t c.is_still.result c.is_still.ensures
