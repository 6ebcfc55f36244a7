-- `top_of`: what the peaks from i on raise stays what they all do.
use Rattle.std.specs.Prelude.{None, IfSome}
use Rattle.frame.specs.Passes.{risen_to, risen_from}
use lib.ListN.{length, drop}
use Prim.Native.Nat.{ℕ, ◌<◌}
use mathlib.Core.Path.{◌≡◌}
use Rattle.frame.proofs.peak_place.top_of.Given as goal

abbrev pub invariant-loop-i : goal.invariant-loop-i
invariant-loop-i l =
    (risen_from l.i (risen_to l.peak l.at) (drop l.i l.peaks) ≡ risen_from 0 (risen_to l.top None) l.peaks)
    × IfSome l.at (λ (i : ℕ). i < length l.peaks)
