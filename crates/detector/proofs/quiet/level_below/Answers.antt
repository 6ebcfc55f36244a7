-- `level_below`: the ceiling's share where the ceiling has a level, or 0.
use lib.Ieee.{of_bits}
use Rattle.detector.proofs.Level.{has_level, no_level}
use Rattle.detector.proofs.quiet.level_below.Goals as goal

pub returns-then-ceiling : goal.returns-then-ceiling
unfolding of_bits
returns-then-ceiling c = has_level c.args.ceiling c.if-ceiling.true

pub returns-else-ceiling : goal.returns-else-ceiling
unfolding of_bits
returns-else-ceiling c = no_level c.args.ceiling c.if-ceiling.false
