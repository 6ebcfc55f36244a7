-- `source_of`: the formula, which stays within the table.
use mathlib.Core.Path.{refl}
use Rattle.interleaving.specs.Walks.{source_of}
use Rattle.interleaving.proofs.table.Table+8192.source_of.Goals as goal

pub returns : goal.returns
unfolding source_of
returns c = refl
