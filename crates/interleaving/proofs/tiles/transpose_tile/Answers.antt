-- `transpose_tile`: what the room got is transposed into the tile.
use mathlib.Core.Path.{ap, ◌∙◌}
use mathlib.Core.List.{List}
use Prim.Native.Nat.{ℕ, ◌+◌, ◌*◌}
use native.Mathlib.Omega.{arith}
use Rattle.audio.specs.Format.{sample_bytes}
use Rattle.interleaving.specs.Inner.{piece}
use Rattle.interleaving.proofs.Pieces.{ends_before}
use Rattle.interleaving.proofs.Tiling.{by_row, whole_tile}
use Rattle.interleaving.proofs.tiles.transpose_tile.Goals as goal

pub returns : goal.returns
returns c = λ r d h g.
    let a = c.args in
    let size = sample_bytes a.format in
    let tile = a.tile.now in
    let p = r * a.table.columns + d in
    let inside = ends_before size (by_row a.table.rows a.table.columns r d h g) in
    c.transpose_into.ensures r d h g ∙ ap (λ (room : List ℕ). piece size p room) c.keep.ensures ∙ whole_tile size p a.room.now.bytes tile (omega (arith, inside, c.requires))
