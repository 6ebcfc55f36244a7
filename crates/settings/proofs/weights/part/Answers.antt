-- `part`: the product is exact.
use Rattle.std.proofs.Common.{◌∙◌}
use lib.Ieee.{of_bits}
use Rattle.settings.proofs.WeightPart.{cut_weight}
use Rattle.settings.proofs.weights.part.Goals as goal

pub truncating_f64_to_u64-requires : goal.truncating_f64_to_u64-requires
unfolding of_bits
truncating_f64_to_u64-requires c =
    let cut = cut_weight _ c.well_formed.0.1 c.requires in
    record {
      lower_bound = cut.above;
      upper_bound = cut.below;
    }

pub returns : goal.returns
unfolding of_bits
returns c =
    let cut = cut_weight _ c.well_formed.0.1 c.requires in
    let e = c.truncating_f64_to_u64.ensures ∙ cut.part in
    record {
      value = e;
      upper_bound = rw e cut.most;
    }
