-- `move_piece`: the bytes that were read.
use mathlib.Core.Path.{ap, ◌∙◌}
use mathlib.Core.List.{List}
use Prim.Native.Nat.{ℕ, ◌*◌}
use Rattle.audio.specs.Inner.{put}
use Rattle.interleaving.specs.Inner.{piece}
use Rattle.interleaving.proofs.moves.move_piece.Goals as goal

pub returns : goal.returns
unfolding piece
returns g c =
    let a = c.args in
    c.put_bytes.ensures ∙ ap (λ (new : List ℕ). put a.target.now (g.row.N * a.k) new) c.bytes_at.ensures
