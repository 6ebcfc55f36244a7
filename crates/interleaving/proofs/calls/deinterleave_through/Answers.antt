-- `deinterleave_through`: tiles, their rows, and the frames left.
use Rattle.audio.specs.Format.{sample_bytes}
use Rattle.interleaving.proofs.Joining.{deinterleaved_pieces}
use Rattle.interleaving.proofs.calls.deinterleave_through.Goals as goal

pub returns : goal.returns
returns c =
    let shape = c.args.shape in
    let rowed = c.transpose_rows in
    deinterleaved_pieces (sample_bytes shape.format) shape.channels shape.tiles shape.left c.args.bytes.now c.transpose_tiles.new.bytes rowed.new.bytes c.spread.new.bytes c.transpose_tiles.ensures
    (rw c.sample_bytes.ensures at rowed.ensures) c.spread.ensures
