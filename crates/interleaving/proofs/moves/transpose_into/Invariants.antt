-- `transpose_into`: the columns passed are there.
use Rattle.audio.specs.Format.{sample_bytes}
use Rattle.interleaving.proofs.Spacing.{ColumnsDone}
use Rattle.interleaving.proofs.moves.transpose_into.Given as goal

abbrev pub invariant-loop-c : goal.invariant-loop-c
invariant-loop-c l = ColumnsDone (sample_bytes l.format) l.table.rows l.table.columns l.source l.c l.target
