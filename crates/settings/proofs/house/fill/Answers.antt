-- `fill`: the stretch lies inside the table.
use Rattle.std.proofs.Common.{arith}
use Rattle.settings.proofs.Stretches.{house_inside}
use Rattle.settings.proofs.house.fill.Goals as goal

pub copy_house-requires : goal.copy_house-requires
copy_house-requires c =
    let e = rw c.unwrap.ensures at c.start.ensures.value in
    omega (arith, e, c.requires.weights_len, house_inside c.args.rate c.args.look c.requires.housed)
