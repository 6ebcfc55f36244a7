-- `all_one`: the test of every floor.
use mathlib.Core.Path.{◌∙◌}
use lib.Ieee.{Float, eq, of_bits}
use Rattle.std.proofs.Common.{rules, tests}
use Rattle.std.proofs.lemmas.Iterator.{YieldsList-from_slice}
use Rattle.std.proofs.lemmas.Iterator.Search.{all_from_yields_List}
use Rattle.arithmetic.specs.Number.{one}
use Rattle.envelope.proofs.Scan.{all_one_is}
use Rattle.envelope.proofs.means.all_one.Goals as goal

pub returns : goal.returns
unfolding of_bits
returns c =
    all_from_yields_List (λ (f : Float). eq f one) _ _ c.all.result c.all.ensures.ran (YieldsList-from_slice c.args.floors.now cc) (λ x b q k. search (rules, tests)) ∙ all_one_is _
