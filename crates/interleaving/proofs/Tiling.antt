-- Tiles transposed one after the other.
use mathlib.Core.Path.{◌≡◌, refl, sym, ap, subst, ◌∙◌}
use mathlib.Core.Bool.{Bool, true, false}
use mathlib.Core.List.{List, ◌++◌}
use Prim.Native.Nat.{ℕ, ◌+◌, ◌*◌, ◌≤◌, ◌<◌}
use native.Mathlib.Nat.{mul-add, mul_comm, mul_left_comm, mul-le-mul, mul-le-mul_left, zero-add}
use native.Mathlib.Omega.{arith}
use lib.Dec.{ltb}
use lib.ListN.{length, take, drop}
use borrow.Author.Tests.{ltb-true, ltb-false}
use Rattle.audio.specs.Format.{sample_bytes}
use Rattle.audio.specs.Inner.{put}
use Rattle.audio.specs.declared.format.Format.{Format}
use Rattle.audio.specs.declared.format.Format.TheVariants.{F64, F32}
use Rattle.audio.proofs.Carry.{places-end}
use Rattle.interleaving.specs.Inner.{piece, Transposed, TransposedEach}
use Rattle.audio.proofs.Numbers.{put_length}
use Rattle.interleaving.proofs.Pieces.{part_length, times_more, ends_before, put_in, put_part, piece_in, piece_before, piece_after, piece_within}

-- a sample has at most eight bytes
pub sample_few : (format : Format) → sample_bytes format ≤ 8
sample_few F64 = omega arith
sample_few F32 = omega arith

-- so 512 of them fit in a room of 4,096
pub table_fits : (format : Format) (n : ℕ) → n ≤ 512 → sample_bytes format * n ≤ 4096
table_fits format n h = mul-le-mul (sample_few format) h

-- the places of a table
module _ (rows columns r c : ℕ) (h : r < rows) (g : c < columns) where
  pub by_column : c * rows + r < rows * columns
  by_column = omega (arith, places-end c columns rows g, mul_comm rows columns, h)

  pub by_row : r * columns + c < rows * columns
  by_row = omega (arith, places-end r rows columns h, g)

-- a room that got all of a tile
pub whole_tile : (size p : ℕ) (room tile : List ℕ) → size * p + size ≤ length tile → piece size p (put room 0 tile) ≡ piece size p tile
unfolding piece
whole_tile size p room tile h = ap (λ (q : ℕ). take size (drop q (put room 0 tile))) (sym (zero-add (size * p))) ∙ put_in room 0 tile (size * p) size (omega arith) h

module _ (size rows columns : ℕ) (before : List ℕ) where
  abbrev n : ℕ
  n = rows * columns

  pub tiles_more : (t : ℕ) (now tile : List ℕ) → t * (size * n) + size * n ≤ length now → length tile ≡ size * n → Transposed size rows columns (take (size * n) (drop (t * (size * n)) now)) tile
      → TransposedEach size rows columns t before now → TransposedEach size rows columns (t + 1) before (put now (t * (size * n)) tile)
  tiles_more t now tile room long transposed k = subst (λ (at : ℕ). TransposedEach size rows columns (t + 1) before (put now at tile)) (sym at) (record { there = λ u r c l h g. go u r c l h g (ltb u t) refl; beyond = past })
    where
      -- the tile's place, in bytes and in samples
      at : t * (size * n) ≡ size * (t * n)
      at = mul_left_comm t size n

      ahead : size * (t * n) ≤ length now
      ahead = omega (arith, at, room)

      go : (u r c : ℕ) → u < t + 1 → r < rows → c < columns → (b : Bool) → ltb u t ≡ b → piece size (u * n + (c * rows + r)) (put now (size * (t * n)) tile) ≡ piece size (u * n + (r * columns + c)) before
      go u r c l h g true e =
          let m = ltb-true u t e in
          let earlier : u * n + (c * rows + r) < t * n = omega (arith, places-end u t n m, by_column rows columns r c h g) in
          piece_before size now (t * n) tile ahead (u * n + (c * rows + r)) (ends_before size earlier) ∙ k.there u r c m h g
      go u r c l h g false e =
          let q : u ≡ t = omega (arith, ltb-false u t e, l) in
          let to = ends_before size (by_column rows columns r c h g) in
          let from = ends_before size (by_row rows columns r c h g) in
          subst (λ (i : ℕ). piece size (i * n + (c * rows + r)) (put now (size * (t * n)) tile) ≡ piece size (i * n + (r * columns + c)) before) (sym q)
          (piece_in size now (t * n) tile ahead (c * rows + r) (omega (arith, to, long))
          ∙ transposed r c h g
          ∙ ap (λ (p : ℕ). piece size (r * columns + c) (take (size * n) (drop p now))) at
          ∙ piece_within size now (t * n) (size * n) (r * columns + c) from
          ∙ k.beyond (t * n + (r * columns + c)) (omega arith))

      past : (p : ℕ) → (t + 1) * n ≤ p → piece size p (put now (size * (t * n)) tile) ≡ piece size p before
      past p h =
          let e = times_more t n in
          let m = mul-le-mul_left {m = t * n + n} {n = p} size (omega (arith, e, h)) in
          piece_after size now (t * n) tile ahead p (omega (arith, m, mul-add size (t * n) n, long)) ∙ k.beyond p (omega (arith, e, h))

  -- the same of a lent part, whose width the code computes
  abbrev Lent : ℕ → ℕ → ℕ → List ℕ → List ℕ → Type 0
  Lent t w m now tile = Transposed size rows columns (take m (drop (t * w) now)) tile → length tile ≡ length (take m (drop (t * w) now))
      → (length (take (t * w) now ++ (tile ++ drop m (drop (t * w) now))) ≡ length now) × TransposedEach size rows columns (t + 1) before (take (t * w) now ++ (tile ++ drop m (drop (t * w) now)))

  pub lent_more : (t w m : ℕ) (now tile : List ℕ) → w ≡ size * n → m ≡ w → t * w + w ≤ length now → TransposedEach size rows columns t before now → Lent t w m now tile
  lent_more t w m now tile e f room k =
      subst (λ (x : ℕ). Lent t w x now tile) (sym f) (subst (λ (x : ℕ). t * x + x ≤ length now → Lent t x x now tile) (sym e) whole room)
    where
      whole : t * (size * n) + size * n ≤ length now → Lent t (size * n) (size * n) now tile
      whole room transposed long =
          let at = t * (size * n) in
          let wide : length tile ≡ size * n = long ∙ part_length now at (size * n) room in
          rw (put_part now tile at (size * n) wide) (put_length now at tile (omega (arith, room, wide)), tiles_more t now tile room wide transposed k)
