-- `given`: the test is the definition's.
use mathlib.Core.Path.{refl}
use lib.Ieee.{of_bits}
use borrow.Author.Tests.{eq-eqb, ne_eqb}
use Rattle.envelope.proofs.means.given.Goals as goal

pub returns-then-tally-eq0 : goal.returns-then-tally-eq0
unfolding of_bits
returns-then-tally-eq0 c = rw (eq-eqb c.args.tally 0 c.if-tally-eq0.true) refl

pub returns-else-tally-eq0 : goal.returns-else-tally-eq0
returns-else-tally-eq0 c = rw (ne_eqb c.args.tally 0 c.if-tally-eq0.false) refl
