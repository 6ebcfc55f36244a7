-- `cut`: the bound is `cut_bounded`.
use Rattle.std.proofs.Common.{T, sym, refl, subst}
use Rattle.arithmetic.proofs.Cut.{cut_bounded}
use Rattle.arithmetic.proofs.math.cut.Goals as goal

pub truncating_f64_to_u64-requires : goal.truncating_f64_to_u64-requires
truncating_f64_to_u64-requires c =
    let b = cut_bounded c.args.x c.requires.domain c.requires.some in
    rw c.cutting.ensures record {
      lower_bound = subst T (sym b.above) tt;
      upper_bound = subst T (sym b.below) tt;
    }

pub returns : goal.returns
returns c =
    let s = c in
    let b = cut_bounded s.args.x s.requires.domain s.requires.some in
    rw (c.truncating_f64_to_u64.ensures, c.cutting.ensures) record {
      value = refl;
      few = b.small;
    }
