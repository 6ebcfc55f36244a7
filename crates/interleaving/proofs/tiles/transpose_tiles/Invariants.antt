-- `transpose_tiles`: the tiles passed are transposed.
use Rattle.audio.specs.Format.{sample_bytes}
use Rattle.interleaving.specs.Inner.{TransposedEach}
use Rattle.interleaving.proofs.tiles.transpose_tiles.Given as goal

abbrev pub invariant-loop-t : goal.invariant-loop-t
invariant-loop-t l = TransposedEach (sample_bytes l.format) l.table.rows l.table.columns l.t l.initial.bytes l.bytes
