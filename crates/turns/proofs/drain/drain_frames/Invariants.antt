-- `drain_frames`: a turn of the loop is a run of silence.
use mathlib.Core.Path.{◌≡◌}
use Prim.Native.Nat.{◌-◌}
use lib.ListN.{length}
use Rattle.frame.specs.Lent.{Stays}
use Rattle.limiter.specs.Stores.{stores_in}
use Rattle.turns.proofs.Draining.{Drained}
use Rattle.turns.proofs.drain.drain_frames.Given as goal

abbrev pub invariant-loop-first : goal.invariant-loop-first
invariant-loop-first l =
    Drained l.format l.initial.l l.n l.width (stores_in l.initial.lent) l.initial.audio l.first l.l (stores_in l.lent) l.audio l.run
    × (length l.audio ≡ length l.initial.audio) × Stays l.initial.lent l.lent

abbrev pub decreases-loop-first : goal.decreases-loop-first
decreases-loop-first l =
    l.n - l.first
