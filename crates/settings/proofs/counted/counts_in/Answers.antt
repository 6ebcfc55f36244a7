-- `counts_in`: the shifted mask's last bit.
use Rattle.std.proofs.Common.{refl}
use Rattle.settings.specs.Counted.{counts_in}
use Rattle.settings.proofs.counted.counts_in.Goals as goal

pub returns : goal.returns
unfolding counts_in
returns c = refl
