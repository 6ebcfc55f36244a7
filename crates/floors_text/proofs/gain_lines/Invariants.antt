-- `gain_lines`: the invariant is Going, whose laws say what a turn, a malformed line and the end of the text make of it. The measure is what is left of the text.
use lib.ListN.{length}
use Rattle.keeper.specs.Keeper.{keeping_at}
use Rattle.floors_text.proofs.Going.{Going}
use Rattle.floors_text.proofs.gain_lines.Given as goal

abbrev pub invariant-loop-rest : goal.invariant-loop-rest
invariant-loop-rest l =
    Going l.text l.look l.initial.output (keeping_at l.keeper l.marks l.minima) l.rest l.number l.output l.next

abbrev pub decreases-loop-rest : goal.decreases-loop-rest
decreases-loop-rest l = length l.rest
