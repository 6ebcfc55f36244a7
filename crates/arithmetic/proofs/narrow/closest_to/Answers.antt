-- `closest_to`: half a unit less one, and one more at an odd quotient, rounds a tie to the even number.
use Rattle.arithmetic.proofs.Places32.{closest_is}
use Rattle.arithmetic.proofs.narrow.closest_to.Goals as goal

pub returns : goal.returns
returns c = closest_is c.args.n c.args.unit c.requires.unit_some c.requires.unit_even
