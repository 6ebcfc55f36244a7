-- `exchange`: the samples passed, and what the rest comes to, a straight stretch at a time.
use mathlib.Core.Path.{◌≡◌}
use mathlib.Core.List.{map}
use Prim.Native.Nat.{◌-◌, ◌≤◌, ◌<◌}
use lib.ListN.{drop}
use Rattle.arithmetic.specs.Sanitize.{finite_or_zero}
use Rattle.envelope.specs.Row.{pos_after}
use Rattle.frame.specs.Passes.{exchange_of}
use Rattle.frame.proofs.Stretch.{exchange_from}
use Rattle.frame.proofs.outputs.exchange.Given as goal

abbrev pub invariant-loop-i : goal.invariant-loop-i
invariant-loop-i l =
    (l.i ≤ l.n) × (l.p < l.look) × (exchange_from l.look l.p l.line l.i l.samples ≡ exchange_of l.look l.pos l.initial.line l.initial.samples)
    × (pos_after l.look l.p (l.n - l.i) ≡ pos_after l.look l.pos l.n) × (map finite_or_zero (drop l.i l.samples) ≡ drop l.i l.samples)

abbrev pub decreases-loop-i : goal.decreases-loop-i
decreases-loop-i l = l.n - l.i
