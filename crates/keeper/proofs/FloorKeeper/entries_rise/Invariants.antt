-- `entries_rise`: the answer so far and the test on the entries left are the test on all.
use mathlib.Core.Path.{◌≡◌}
use mathlib.Core.Bool.{◌&&◌}
use Prim.Native.Nat.{◌+◌, ◌-◌, ◌<◌}
use Rattle.keeper.specs.Ring.{wrap, ring_of}
use Rattle.keeper.proofs.Loops.{rises}
use Rattle.keeper.proofs.FloorKeeper.entries_rise.Given as goal

abbrev pub invariant-loop-i : goal.invariant-loop-i
invariant-loop-i l =
    let cap = l.self.look + 1 in
    (l.at ≡ wrap cap (l.self.head + (l.i - 1))) × (l.at < cap) × (l.ok && rises (ring_of cap l.marks l.minima l.at (l.self.len + 1 - l.i)) ≡ rises (ring_of cap l.marks l.minima l.self.head l.self.len))
