-- `transpose_into`: the columns passed are there.
use Rattle.audio.specs.Format.{sample_bytes}
use Rattle.interleaving.proofs.Spacing.{columns_more}
use Rattle.interleaving.proofs.moves.transpose_into.Goals as goal

pub loop-c-preserved : goal.loop-c-preserved
loop-c-preserved c =
    let a = c.args in
    columns_more (sample_bytes a.format) a.table.rows a.table.columns a.source.now c.loop-c.c c.loop-c.target c.move_spaced.new.target c.loop-c.invariant c.move_spaced.ensures
