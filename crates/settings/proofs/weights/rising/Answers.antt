-- `rising`: what `is_sorted_by` tells of the first half.
use Rattle.std.proofs.Common.{rules, arith}
use Rattle.std.proofs.lemmas.List.Sorted.{answers_always}
use lib.Ieee.{lt}
use Rattle.settings.proofs.WeightPairs.{half_told}
use Rattle.settings.proofs.weights.rising.Goals as goal

pub returns : goal.returns
returns c =
    half_told c.args.weights.now c.div_ceil.result _ (omega (arith, c.div_ceil.ensures))
    (c.is_sorted_by.ensures.cases lt (answers_always _ _ _ (λ f a r f' k. search rules)))
