-- The turns of the loops that move samples.
use mathlib.Core.Path.{◌≡◌, refl, sym, ap, subst, ◌∙◌}
use mathlib.Core.Bool.{Bool, true, false}
use mathlib.Core.List.{List}
use Prim.Native.Nat.{ℕ, ◌+◌, ◌*◌, ◌≤◌, ◌<◌}
use native.Mathlib.Nat.{mul-le-mul_left, mul-one, mul_comm}
use native.Mathlib.Omega.{arith}
use lib.Dec.{ltb}
use lib.ListN.{length}
use borrow.Author.Tests.{ltb-true, ltb-false}
use Rattle.audio.specs.Inner.{put}
use Rattle.interleaving.specs.Inner.{piece, Spaced}
use Rattle.audio.proofs.Carry.{places-end}
use Rattle.interleaving.proofs.Pieces.{ends_before, piece_same, piece_other, piece_length}

-- a place is no further than its bytes
pub no_further : (size : ℕ) → 1 ≤ size → (p : ℕ) → p ≤ size * p
no_further size h p = let m = mul-le-mul_left {m = 1} {n = size} p h in let o = mul-one p in let c = mul_comm p size in omega (arith, m, o, c)

module _ (size from step : ℕ) (source : List ℕ) (to : ℕ) (before : List ℕ) where
  pub spaced_more : (n : ℕ) (now : List ℕ) → size * (to + n) + size ≤ length now → size * (from + n * step) + size ≤ length source → Spaced size n from step source to before now
      → Spaced size (n + 1) from step source to before (put now (size * (to + n)) (piece size (from + n * step) source))
  spaced_more n now room s k = new (piece size (from + n * step) source) refl
    where
      new : (x : List ℕ) → x ≡ piece size (from + n * step) source → Spaced size (n + 1) from step source to before (put now (size * (to + n)) x)
      new x e = record {
        there = λ j h. go j h (ltb j n) refl;
        elsewhere = λ p h. piece_other size now (to + n) x room long p (λ q. absurd (omega (arith, q, h (omega (arith, q))))) ∙ k.elsewhere p (λ a. omega (arith, h a));
      }
        where
          long : length x ≡ size
          long = rw e (piece_length size source (from + n * step) s)

          go : (j : ℕ) → j < n + 1 → (b : Bool) → ltb j n ≡ b → piece size (to + j) (put now (size * (to + n)) x) ≡ piece size (from + j * step) source
          go j h true t =
              let l = ltb-true j n t in
              piece_other size now (to + n) x room long (to + j) (λ q. absurd (omega (arith, l, q))) ∙ k.there j l
          go j h false t =
              let q : j ≡ n = omega (arith, ltb-false j n t, h) in
              subst (λ (i : ℕ). piece size (to + i) (put now (size * (to + n)) x) ≡ piece size (from + i * step) source) (sym q) (piece_same size now (to + n) x room long ∙ e)

-- a column at a time
module _ (size rows columns : ℕ) (source : List ℕ) where
  -- so many of a table's columns, one after the other
  abbrev pub ColumnsDone : ℕ → List ℕ → Type 0
  ColumnsDone n now = (r c : ℕ) → r < rows → c < n → piece size (c * rows + r) now ≡ piece size (r * columns + c) source

  pub columns_more : (n : ℕ) (now after : List ℕ) → ColumnsDone n now → Spaced size rows n columns source (n * rows) now after → ColumnsDone (n + 1) after
  columns_more n now after k s r c h g = go (ltb c n) refl
    where
      go : (b : Bool) → ltb c n ≡ b → piece size (c * rows + r) after ≡ piece size (r * columns + c) source
      go true e =
          let l = ltb-true c n e in
          s.elsewhere (c * rows + r) (λ a. absurd (omega (arith, a, places-end c n rows l, h))) ∙ k r c h l
      go false e =
          let q : c ≡ n = omega (arith, ltb-false c n e, g) in
          let f : n + r * columns ≡ r * columns + n = omega arith in
          subst (λ (i : ℕ). piece size (i * rows + r) after ≡ piece size (r * columns + i) source) (sym q) (s.there r h ∙ ap (λ (p : ℕ). piece size p source) f)

  -- a column's places lie in the table, where they come from and where they go
  pub column_from : (c k : ℕ) → c < columns → k < rows → size * (c + k * columns) + size ≤ size * (rows * columns)
  column_from c k h g = ends_before size {p = c + k * columns} {q = rows * columns} (omega (arith, places-end k rows columns g, h))

  pub column_to : (c : ℕ) → c < columns → size * (c * rows + rows) ≤ size * (rows * columns)
  column_to c h = mul-le-mul_left {m = c * rows + rows} {n = rows * columns} size (omega (arith, places-end c columns rows h, mul_comm rows columns))
