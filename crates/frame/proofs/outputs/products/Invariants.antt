-- `products`: the outputs passed, and what the rest comes to.
use mathlib.Core.Path.{◌≡◌}
use mathlib.Core.List.{◌++◌}
use lib.ListN.{take, drop}
use Rattle.frame.specs.Rules.{leaves_by}
use Rattle.frame.specs.Passes.{products_of}
use Rattle.frame.proofs.outputs.products.Given as goal

abbrev pub invariant-loop-i : goal.invariant-loop-i
invariant-loop-i l = take l.i l.samples ++ products_of (leaves_by l.format) (drop l.i l.gains) (drop l.i l.samples) ≡ products_of (leaves_by l.format) l.gains l.initial.samples
