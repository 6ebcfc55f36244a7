-- `spread`: the channels passed, from the last down, are together.
use Prim.Native.Nat.{◌*◌}
use Rattle.audio.specs.Format.{sample_bytes}
use Rattle.interleaving.proofs.Spreading.{Kept, Spreading}
use Rattle.interleaving.proofs.spread.spread.Given as goal

abbrev pub invariant-loop-c : goal.invariant-loop-c
invariant-loop-c l = record {
  aside : Kept (sample_bytes l.shape.format) l.shape.channels (64 * l.shape.tiles) l.shape.left l.initial.bytes l.kept.bytes;
  spreading : Spreading (sample_bytes l.shape.format) l.shape.channels (64 * l.shape.tiles) l.shape.left l.initial.bytes l.c l.bytes;
}
