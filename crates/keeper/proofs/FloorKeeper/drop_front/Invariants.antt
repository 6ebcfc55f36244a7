-- `drop_front`: what the drop makes of the entries left is what it makes of all.
use mathlib.Core.Path.{◌≡◌}
use mathlib.Core.List.{List}
use Prim.Native.Nat.{◌+◌, ◌-◌}
use lib.Ieee.{Float}
use Rattle.keeper.specs.Ring.{wrap, ring_of, drop_front}
use Rattle.keeper.proofs.FloorKeeper.drop_front.Given as goal

abbrev pub invariant-loop-dropped : goal.invariant-loop-dropped
invariant-loop-dropped l =
    let k = l.self in
    let cap = k.look + 1 in
    (l.at ≡ wrap cap (k.head + l.dropped))
    × ((minima : List Float) → drop_front k.look k.frame (ring_of cap l.marks minima l.at (l.len - l.dropped)) ≡ drop_front k.look k.frame (ring_of cap l.marks minima k.head l.len))
