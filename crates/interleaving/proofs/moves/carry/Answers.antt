-- `carry`: bytes that stand there stay.
use mathlib.Core.Path.{◌≡◌, subst}
use Prim.Native.Nat.{ℕ}
use lib.ListN.{take, drop}
use Rattle.audio.specs.Inner.{put}
use Rattle.interleaving.proofs.Pieces.{put_same}
use Rattle.interleaving.proofs.moves.carry.Goals as goal

pub returns-else-from-to : goal.returns-else-from-to
returns-else-from-to c =
    let a = c.args in
    let bytes = a.bytes.now in
    subst (λ (to : ℕ). bytes ≡ put bytes to (take a.n (drop a.from bytes))) c.if-from-to.false (put_same bytes a.from a.n c.requires.from_inside)
