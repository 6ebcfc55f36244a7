-- The steps of a call, joined: tiles transposed, their rows put in order, and the frames left in their places. Interleaving is the same backwards.
use mathlib.Core.Path.{◌≡◌, refl, sym, ap, subst, ◌∙◌}
use mathlib.Core.Bool.{Bool, true, false}
use mathlib.Core.List.{List}
use Prim.Native.Nat.{ℕ, ◌+◌, ◌-◌, ◌*◌, ◌/◌, ◌%◌, ◌<◌}
use native.Mathlib.Nat.{mul-add, add-mul, mul_comm, mul_assoc, mul_left_comm, div-add-mod}
use native.Mathlib.Omega.{arith}
use lib.Dec.{ltb}
use lib.ListN.{take, drop}
use lib.Seq.{drop-drop}
use borrow.Author.Tests.{ltb-true, ltb-false}
use Rattle.interleaving.specs.Inner.{piece, Transposed, TransposedEach, TransposedFirst, Spread}
use Rattle.interleaving.proofs.Pieces.{take_within, ends_before}

-- ---- backwards
module _ {size rows columns : ℕ} {before after : List ℕ} where
  -- tables transposed
  back_each : {n : ℕ} → TransposedEach size rows columns n before after → TransposedEach size columns rows n after before
  back_each k = record { there = λ t c r l g h. rw (mul_comm columns rows) (sym (k.there t r c l h g)); beyond = λ p h. sym (k.beyond p (rw (mul_comm rows columns) h)) }

  -- a table of rows
  back_first : TransposedFirst size rows columns before after → TransposedFirst size columns rows after before
  back_first k = record { there = λ c r g h. sym (k.there r c h g); beyond = rw (mul_comm columns rows) (sym k.beyond) }

-- ---- rows of 64 samples
module _ (size : ℕ) where
  -- a sample's place
  in_row : (k j : ℕ) → 64 * size * k + size * j ≡ size * (64 * k + j)
  in_row k j = omega (arith, mul-add size (64 * k) j, mul_left_comm size 64 k, mul_assoc 64 size k)

  -- in its row
  row_sample : (k j : ℕ) (l : List ℕ) → j < 64 → piece size j (piece (64 * size) k l) ≡ piece size (64 * k + j) l
  unfolding piece
  row_sample k j l h = rw (← in_row k j) (take_within l (64 * size * k) (64 * size) (size * j) size (omega (arith, ends_before size h)))

  -- and from its row on
  from_row : (k j : ℕ) (l : List ℕ) → piece size j (drop (64 * size * k) l) ≡ piece size (64 * k + j) l
  unfolding piece
  from_row k j l = rw (← in_row k j) (ap (take size) (drop-drop (size * j) (64 * size * k) l))

  module _ (channels tiles left : ℕ) (before transposed placed after : List ℕ) (each : TransposedEach size 64 channels tiles before transposed) (first : TransposedFirst (64 * size) tiles channels transposed placed) where
    -- the samples of the whole tiles
    in_tiles : (t j c : ℕ) → t < tiles → j < 64 → c < channels → piece size (c * (64 * tiles) + (64 * t + j)) placed ≡ piece size ((64 * t + j) * channels + c) before
    in_tiles t j c l h g =
        let m = mul_left_comm t 64 channels in
        let e : c * (64 * tiles) + (64 * t + j) ≡ 64 * (c * tiles + t) + j = omega (arith, mul_left_comm c 64 tiles) in
        let f : 64 * (t * channels + c) + j ≡ t * (64 * channels) + (c * 64 + j) = omega arith in
        let d : t * (64 * channels) + (j * channels + c) ≡ (64 * t + j) * channels + c = omega (arith, add-mul (64 * t) j channels, mul_assoc 64 t channels) in
        ap (λ (p : ℕ). piece size p placed) e
        ∙ sym (row_sample (c * tiles + t) j placed h)
        ∙ ap (piece size j) (first.there t c l g)
        ∙ row_sample (t * channels + c) j transposed h
        ∙ ap (λ (p : ℕ). piece size p transposed) f
        ∙ each.there t j c l h g
        ∙ ap (λ (p : ℕ). piece size p before) d

    -- of the frames behind them
    behind : (j c : ℕ) → piece size (channels * (64 * tiles) + (j * channels + c)) placed ≡ piece size ((64 * tiles + j) * channels + c) before
    behind j c =
        let n = tiles * channels in
        let p = j * channels + c in
        let e : channels * (64 * tiles) + p ≡ 64 * n + p = omega (arith, mul_left_comm channels 64 tiles, mul_comm channels tiles) in
        let d : 64 * n + p ≡ (64 * tiles + j) * channels + c = omega (arith, add-mul (64 * tiles) j channels, mul_assoc 64 tiles channels) in
        ap (λ (q : ℕ). piece size q placed) e
        ∙ sym (from_row n p placed)
        ∙ ap (piece size p) first.beyond
        ∙ from_row n p transposed
        ∙ each.beyond (64 * n + p) (omega (arith, mul_left_comm tiles 64 channels))
        ∙ ap (λ (q : ℕ). piece size q before) d

    -- each frame is one of a tile, or one left
    steps_joined : Spread size channels (64 * tiles) left placed after → Transposed size (64 * tiles + left) channels before after
    steps_joined spread i c h g = go (ltb i (64 * tiles)) refl
      where
        go : (b : Bool) → ltb i (64 * tiles) ≡ b → piece size (c * (64 * tiles + left) + i) after ≡ piece size (i * channels + c) before
        go true e =
            let l = ltb-true i (64 * tiles) e in
            spread.wholes c i g l
            ∙ subst (λ (k : ℕ). piece size (c * (64 * tiles) + k) placed ≡ piece size (k * channels + c) before) (div-add-mod i 64) (in_tiles (i / 64) (i % 64) c (omega (arith, l)) (omega arith) g)
        go false e =
            let k = ltb-false i (64 * tiles) e in
            let q : 64 * tiles + (i - 64 * tiles) ≡ i = omega (arith, k) in
            subst (λ (k : ℕ). piece size (c * (64 * tiles + left) + k) after ≡ piece size (k * channels + c) before) q (spread.lefts c (i - 64 * tiles) g (omega (arith, h, k)) ∙ behind (i - 64 * tiles) c)

-- ---- the calls
module _ (size channels tiles left : ℕ) where
  -- tiles, rows, frames left
  pub deinterleaved_pieces : (a b c d : List ℕ) → TransposedEach size 64 channels tiles a b → TransposedFirst (64 * size) tiles channels b c → Spread size channels (64 * tiles) left c d → Transposed size (64 * tiles + left) channels a d
  deinterleaved_pieces = steps_joined size channels tiles left

  -- and the other way round
  pub interleaved_pieces : (a b c d : List ℕ) → Spread size channels (64 * tiles) left b a → TransposedFirst (64 * size) channels tiles b c → TransposedEach size channels 64 tiles c d → Transposed size channels (64 * tiles + left) a d
  interleaved_pieces a b c d spread first each k i g h = sym (deinterleaved_pieces d c b a (back_each each) (back_first first) spread i k h g)
