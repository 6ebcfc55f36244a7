-- `all_within`: the answer so far and the answer on the rest are the answer on the whole.
use mathlib.Core.Path.{◌≡◌}
use mathlib.Core.Bool.{◌&&◌}
use lib.ListN.{drop}
use Rattle.detector.specs.Level.{all_within}
use Rattle.detector.proofs.quiet.all_within.Given as goal

abbrev pub invariant-loop-x : goal.invariant-loop-x
invariant-loop-x l = l.ok && all_within l.m (drop l.x-index l.samples) ≡ all_within l.m l.samples
