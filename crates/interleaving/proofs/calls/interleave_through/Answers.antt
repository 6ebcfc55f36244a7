-- `interleave_through`: the same steps backwards.
use Rattle.audio.specs.Format.{sample_bytes}
use Rattle.interleaving.proofs.Joining.{interleaved_pieces}
use Rattle.interleaving.proofs.calls.interleave_through.Goals as goal

pub returns : goal.returns
returns c =
    let shape = c.args.shape in
    let rowed = c.transpose_rows in
    interleaved_pieces (sample_bytes shape.format) shape.channels shape.tiles shape.left c.args.bytes.now c.close_up.new.bytes rowed.new.bytes c.transpose_tiles.new.bytes c.close_up.ensures
    (rw c.sample_bytes.ensures at rowed.ensures) c.transpose_tiles.ensures
