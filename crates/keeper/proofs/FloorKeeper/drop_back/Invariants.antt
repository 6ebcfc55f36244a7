-- `drop_back`: what the drop makes of the entries left is what it makes of all.
use mathlib.Core.Path.{◌≡◌}
use mathlib.Core.List.{List}
use Prim.Native.Nat.{ℕ, ◌+◌}
use Rattle.keeper.specs.Ring.{ring_of, drop_back}
use Rattle.keeper.proofs.FloorKeeper.drop_back.Given as goal

abbrev pub invariant-loop-back : goal.invariant-loop-back
invariant-loop-back l =
    (marks : List ℕ) → drop_back l.gain (ring_of (l.self.look + 1) marks l.minima l.self.head l.back) ≡ drop_back l.gain (ring_of (l.self.look + 1) marks l.minima l.self.head l.self.len)
