-- `is_done`: the bit, as it is defined.
use mathlib.Core.Path.{refl}
use Rattle.interleaving.specs.Inner.{bit_at}
use Rattle.interleaving.proofs.rows.Done.is_done.Goals as goal

pub returns : goal.returns
unfolding bit_at
returns c = refl
