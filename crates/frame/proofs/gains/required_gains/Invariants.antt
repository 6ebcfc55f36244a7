-- `required_gains`: 1 where nothing was heard, else the gains passed, and those of the peaks that are left.
use mathlib.Core.Path.{◌≡◌}
use mathlib.Core.List.{◌++◌, map}
use lib.ListN.{take, drop}
use lib.Ieee.{Float}
use Rattle.frame.specs.Frame.{required_gain}
use Rattle.frame.proofs.gains.required_gains.Given as goal

abbrev pub invariant-loop-i : goal.invariant-loop-i
invariant-loop-i l = take l.i l.peaks ++ map (λ (p : Float). required_gain l.target p) (drop l.i l.peaks) ≡ map (λ (p : Float). required_gain l.target p) l.initial.peaks
