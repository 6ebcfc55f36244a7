-- `drive_still`: each run of the loop is a turn that keeps the bank, whichever it is.
use mathlib.Core.Path.{◌≡◌}
use Prim.Native.Nat.{◌-◌}
use lib.ListN.{length}
use Rattle.frame.specs.Lent.{Stays}
use Rattle.limiter.specs.Stores.{stores_in}
use Rattle.turns.proofs.Still.{Going}
use Rattle.turns.proofs.drive.drive_still.Given as goal

abbrev pub invariant-loop-first : goal.invariant-loop-first
invariant-loop-first l =
    Going l.format l.position l.frames l.initial.audio l.initial.moved.limiter (stores_in l.initial.lent) l.target l.asked l.first l.moved.highest l.moved.limiter (stores_in l.lent) l.audio l.run
    × (length l.audio ≡ length l.initial.audio) × Stays l.initial.lent l.lent

abbrev pub decreases-loop-first : goal.decreases-loop-first
decreases-loop-first l = l.frames - l.first
