-- `spread_channel`: the slide, then the samples left.
use mathlib.Core.Path.{refl}
use Rattle.interleaving.proofs.Spreading.{spans_in}
use Rattle.interleaving.proofs.spread.spread_channel.Goals as goal

pub move_spaced-requires-clause-to_inside : goal.move_spaced-requires-clause-to_inside
move_spaced-requires-clause-to_inside c = rw c.carry.auto.bytes (spans_in c.args.shape c.args.bytes.now c.requires.fills c.args.c _ c.requires.c_lt_channels refl).end
