-- `drive_turns`: each turn of the loop is a turn of the block.
use mathlib.Core.Path.{◌≡◌}
use Prim.Native.Nat.{◌-◌}
use lib.ListN.{length}
use Rattle.frame.specs.Lent.{Stays}
use Rattle.limiter.specs.Stores.{stores_in}
use Rattle.turns.specs.Machine.{machine_of}
use Rattle.turns.proofs.Driving.{Driving}
use Rattle.turns.proofs.drive.drive_turns.Given as goal

abbrev pub invariant-loop-block : goal.invariant-loop-block
invariant-loop-block l =
    Driving l.format l.position l.frames l.events l.initial.audio (machine_of l.initial.l l.initial.b (stores_in l.initial.lent)) l.asked l.block (machine_of l.l l.b (stores_in l.lent)) l.audio l.run
    × (length l.audio ≡ length l.initial.audio) × Stays l.initial.lent l.lent

abbrev pub decreases-loop-block : goal.decreases-loop-block
decreases-loop-block l =
    l.frames - l.block.rendered
