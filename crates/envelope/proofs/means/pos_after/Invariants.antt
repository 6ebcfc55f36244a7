-- `pos_after`: so many places from the start, less a whole round at each turn.
use mathlib.Core.Path.{◌≡◌}
use Prim.Native.Nat.{◌+◌, ◌≤◌}
use Rattle.envelope.specs.Row.{pos_after}
use Rattle.envelope.proofs.means.pos_after.Given as goal

abbrev pub invariant-loop-p : goal.invariant-loop-p
invariant-loop-p l = (l.p ≤ l.pos + l.n) × (pos_after l.l 0 l.p ≡ pos_after l.l l.pos l.n)

abbrev pub decreases-loop-p : goal.decreases-loop-p
decreases-loop-p l = l.p
