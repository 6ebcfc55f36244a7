-- `close_up`: the channels passed are apart; at the end what was aside goes behind them.
use Prim.Native.Nat.{◌*◌}
use Rattle.audio.specs.Format.{sample_bytes}
use Rattle.interleaving.proofs.Spreading.{Closing}
use Rattle.interleaving.proofs.close.close_up.Given as goal

abbrev pub invariant-loop-c : goal.invariant-loop-c
invariant-loop-c l = Closing (sample_bytes l.shape.format) l.shape.channels (64 * l.shape.tiles) l.shape.left l.initial.bytes l.c l.kept.bytes l.bytes
