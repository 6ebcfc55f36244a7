-- `move_spaced`: the samples passed are there.
use mathlib.Core.Path.{sym, subst}
use mathlib.Core.List.{List}
use Prim.Native.Nat.{ℕ, ◌+◌}
use native.Mathlib.Nat.{le_trans}
use native.Mathlib.Omega.{arith}
use Rattle.audio.specs.Format.{sample_bytes}
use Rattle.interleaving.specs.Inner.{Spaced}
use Rattle.interleaving.proofs.Pieces.{ends_before}
use Rattle.interleaving.proofs.Spacing.{spaced_more}
use Rattle.interleaving.proofs.moves.move_spaced.Goals as goal

pub loop-k-preserved : goal.loop-k-preserved
loop-k-preserved c =
    let a = c.args in
    let k = c.loop-k.k in
    let size = sample_bytes a.format in
    let room = le_trans (ends_before size {p = a.to + k} {q = a.to + a.n} (omega arith)) c.requires.to_inside in
    subst (λ (v : List ℕ). Spaced size (k + 1) a.from a.step a.source.now a.to a.target.now v) (sym c.move_sample.ensures)
    (spaced_more size a.from a.step a.source.now a.to a.target.now k c.loop-k.target (rw c.loop-k.auto.target room) (c.requires.from_inside k c.loop-k-test.true) c.loop-k.invariant)
