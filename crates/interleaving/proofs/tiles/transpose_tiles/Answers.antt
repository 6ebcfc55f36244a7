-- `transpose_tiles`: the tiles passed are transposed.
use mathlib.Core.Path.{◌≡◌, ap}
use Prim.Native.Nat.{ℕ, ◌+◌, ◌-◌, ◌*◌, ◌≤◌, ◌<◌}
use lib.ListN.{length}
use native.Mathlib.Omega.{arith}
use Rattle.audio.specs.Format.{sample_bytes}
use Rattle.audio.proofs.Carry.{places-end}
use Rattle.interleaving.proofs.Tiling.{lent_more}
use Rattle.interleaving.proofs.tiles.transpose_tiles.Goals as goal

-- a tile lies in the bytes
inside : (z size n t tiles bytes : ℕ) → z ≡ size → t < tiles → tiles * (size * n) ≤ bytes → t * (z * n) + z * n ≤ bytes
inside z size n t tiles bytes e h room = rw e (omega (arith, places-end t tiles (size * n) h, room))

pub slice_bounds-transpose_tile-end : goal.slice_bounds-transpose_tile-end
slice_bounds-transpose_tile-end c =
    omega (arith, inside _ _ _ _ _ _ c.sample_bytes.ensures c.loop-t-test.true c.requires.tiles_inside, c.loop-t.auto.bytes)

pub loop-t-preserved : goal.loop-t-preserved
loop-t-preserved c =
    let a = c.args in
    let l = c.loop-t in
    let n = a.table.rows * a.table.columns in
    let z = c.sample_bytes.result in
    let at = l.t * (z * n) in
    let w : at + z * n - at ≡ z * n = omega arith in
    let e = ap (λ (x : ℕ). x * n) c.sample_bytes.ensures in
    let room = inside z (sample_bytes a.format) n l.t a.tiles (length l.bytes) c.sample_bytes.ensures c.loop-t-test.true (rw l.auto.bytes c.requires.tiles_inside) in
    (lent_more (sample_bytes a.format) a.table.rows a.table.columns a.bytes.now l.t (z * n) (at + z * n - at) l.bytes c.transpose_tile.new.tile e w room l.invariant c.transpose_tile.ensures c.transpose_tile.auto.tile).1
