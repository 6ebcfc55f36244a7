-- Rows moved along the cycles of their order. No row comes to two places, so a walk comes to places that are not done until it is back at its start.
use mathlib.Core.Path.{◌≡◌, refl, sym, ap, ◌∙◌}
use mathlib.Core.Bool.{Bool, true, false, cond, ◌||◌, or-true}
use mathlib.Core.List.{List}
use mathlib.Core.Logic.{◌⊎◌, inl, inr, ⊎_elim}
use Prim.Native.Nat.{ℕ, zero, suc, ◌+◌, ◌*◌, ◌/◌, ◌%◌, ◌≤◌, ◌<◌}
use native.Mathlib.Nat.{add-zero, mul-zero, zero-mul, mul_comm, mul-add-div_right, mul-add-mod_self_right, div-eq_of_lt, mod-eq_of_lt, mod-lt, div-lt_iff_lt-mul, div-add-mod', le_trans, eq-or-lt_of_le, le_of_suc-le-suc}
use native.Mathlib.Omega.{arith}
use borrow.Author.Tests.{eqb-true, eqb-false, eq-eqb}
use lib.Dec.{eqb}
use lib.ListN.{length, take, drop}
use Rattle.arithmetic.proofs.Order.{clash}
use Rattle.audio.specs.Inner.{put}
use Rattle.interleaving.specs.Inner.{piece, bit_at, TransposedFirst}
use Rattle.interleaving.specs.Walks.{source_of, Closed, Partly, Walked}
use Rattle.interleaving.proofs.Pieces.{put_after, put_back, ends_before, piece_same, piece_other, piece_length}
use Rattle.interleaving.proofs.Tiling.{by_column, by_row}

-- ---- the order
-- a place by row and column
module _ (a b m : ℕ) (h : b < m) where
  row_of : (a * m + b) / m ≡ a
  row_of = mul-add-div_right (omega arith) a b ∙ ap (λ (d : ℕ). a + d) (div-eq_of_lt h) ∙ add-zero a

  column_of : (a * m + b) % m ≡ b
  column_of = mul-add-mod_self_right a m b ∙ mod-eq_of_lt h

-- a table with a place in it has rows and columns
pub some : (rows columns k : ℕ) → k < rows * columns → (0 < rows) × (0 < columns)
some zero columns k h = omega (arith, zero-mul columns)
some (suc rows) zero k h = omega (arith, mul-zero (suc rows))
some (suc rows) (suc columns) k h = (omega arith, omega arith)

module _ (rows columns k : ℕ) (h : k < rows * columns) where
  -- the row that comes to a place is one of the table
  column_below : k / rows < columns
  column_below = (div-lt_iff_lt-mul (some rows columns k h).0).1 (rw (mul_comm columns rows) h)

  source_below : source_of rows columns k < rows * columns
  unfolding source_of
  source_below = by_row rows columns (k % rows) (k / rows) (mod-lt k (some rows columns k h).0) column_below

  -- the table stored column after column, transposed again, is the table
  source_back : source_of columns rows (source_of rows columns k) ≡ k
  unfolding source_of
  source_back = rw (column_of (k % rows) (k / rows) columns column_below, row_of (k % rows) (k / rows) columns column_below) (div-add-mod' k rows)

-- no row comes to two places
one_place : (rows columns k m : ℕ) → k < rows * columns → m < rows * columns → source_of rows columns k ≡ source_of rows columns m → k ≡ m
one_place rows columns k m h l e = sym (source_back rows columns k h) ∙ ap (source_of columns rows) e ∙ source_back rows columns m l

-- ---- how many places are not done
abbrev pub clear : List ℕ → ℕ → ℕ
clear done zero = 0
clear done (suc n) = clear done n + cond (bit_at done n) 0 1

module _ (done done' : List ℕ) (grown : (k : ℕ) → bit_at done k ≡ true → bit_at done' k ≡ true) where
  -- of one place, and of the first n
  one_no_more : (b b' : Bool) → (b ≡ true → b' ≡ true) → cond b' 0 1 ≤ cond b 0 1
  one_no_more true b' h = rw (h refl) (omega arith)
  one_no_more false true h = omega arith
  one_no_more false false h = omega arith

  no_more : (n : ℕ) → clear done' n ≤ clear done n
  no_more zero = omega arith
  no_more (suc n) = omega (arith, no_more n, one_no_more (bit_at done n) (bit_at done' n) (grown n))

  -- one that was clear is done
  fewer : (at n : ℕ) → at < n → bit_at done at ≡ false → bit_at done' at ≡ true → clear done' n < clear done n
  fewer at zero h e f = omega arith
  fewer at (suc n) h e f = ⊎_elim
      (λ s. rw (rw s at e, rw s at f) (omega (arith, no_more n)))
      (λ l. omega (arith, fewer at n l e f, one_no_more (bit_at done n) (bit_at done' n) (grown n)))
      (eq-or-lt_of_le (le_of_suc-le-suc h))

-- ---- a walk's state
-- as `Partly`, but for one place
pub record AllBut (size rows columns at : ℕ) (before bytes done : List ℕ) : Type 0 where
  pub moved : (k : ℕ) → k < rows * columns → (k ≡ at → ⊥) → bit_at done k ≡ true → piece size k bytes ≡ piece size (source_of rows columns k) before
  pub still : (k : ℕ) → k < rows * columns → bit_at done k ≡ false → piece size k bytes ≡ piece size k before
  pub beyond : drop (size * (rows * columns)) bytes ≡ drop (size * (rows * columns)) before

-- a walk from `start`, since its first row was taken away, has come to `at`, whose row was taken last, and goes on to `from`: of the places done, only `start` may be done before the one that its row goes to
pub record Walking (size rows columns start at from : ℕ) (bytes done bytes' done' : List ℕ) : Type 0 where
  pub wide : size * (rows * columns) ≤ length bytes
  pub as_long : length bytes' ≡ length bytes
  pub source : from ≡ source_of rows columns at
  pub inside : at < rows * columns
  pub here : bit_at done' at ≡ true
  pub next : bit_at done' from ≡ true → from ≡ start
  pub behind : (k : ℕ) → k < rows * columns → bit_at done' (source_of rows columns k) ≡ true → (bit_at done' k ≡ true) ⊎ (source_of rows columns k ≡ start)
  pub started : bit_at done' start ≡ true
  pub grown : (k : ℕ) → bit_at done k ≡ true → bit_at done' k ≡ true
  pub all_but : (before : List ℕ) → AllBut size rows columns start before bytes done → AllBut size rows columns at before bytes' done'

-- ---- one bit more
-- what is not true is false
not_so : (b : Bool) → (b ≡ true → ⊥) → b ≡ false
not_so true h = absurd (h refl)
not_so false h = refl

module _ (done done' : List ℕ) (at : ℕ) (marked : (k : ℕ) → bit_at done' k ≡ (eqb k at || bit_at done k)) where
  -- the bit itself, those set before, and no others
  marked_here : bit_at done' at ≡ true
  marked_here = marked at ∙ ap (λ (t : Bool). t || bit_at done at) (eq-eqb at at refl)

  marked_more : (k : ℕ) → bit_at done k ≡ true → bit_at done' k ≡ true
  marked_more k e = marked k ∙ rw e (or-true (eqb k at))

  marked_cases : (k : ℕ) → bit_at done' k ≡ true → (k ≡ at) ⊎ (bit_at done k ≡ true)
  marked_cases k e = go (eqb k at) refl
    where
      go : (t : Bool) → eqb k at ≡ t → (k ≡ at) ⊎ (bit_at done k ≡ true)
      go true f = inl (eqb-true k at f)
      go false f = inr (sym (marked k ∙ ap (λ (t : Bool). t || bit_at done k) f) ∙ e)

  -- the place marked is yet to be filled
  opened : (size rows columns : ℕ) (before bytes : List ℕ) → Partly size rows columns before bytes done → AllBut size rows columns at before bytes done'
  opened size rows columns before bytes p = record {
    moved = λ k l apart e. ⊎_elim (λ s. absurd (apart s)) (λ d. p.moved k l d) (marked_cases k e);
    still = λ k l e. p.still k l (not_so (bit_at done k) (λ d. clash (bit_at done' k) (marked_more k d) e));
    beyond = p.beyond;
  }

  -- fewer are clear
  pub fewer_clear : (n : ℕ) → at < n → bit_at done at ≡ false → clear done' n < clear done n
  fewer_clear n h e = fewer done done' marked_more at n h e marked_here

-- ---- a row put in its place
module _ (size rows columns at : ℕ) (bytes new after : List ℕ) (h : at < rows * columns) (room : size * (rows * columns) ≤ length bytes) (whole : length new ≡ size)
    (is-put : after ≡ put bytes (size * at) new) where
  -- the row that comes to it fills the place left out
  filled : (before done : List ℕ) → new ≡ piece size (source_of rows columns at) before → bit_at done at ≡ true
      → AllBut size rows columns at before bytes done → Partly size rows columns before after done
  filled before done row here a = record {
    moved = λ k l e. go k l e (eqb k at) refl;
    still = λ k l e. others k (λ s. clash (bit_at done k) (ap (bit_at done) s ∙ here) e) ∙ a.still k l e;
    beyond = ap (drop (size * (rows * columns))) is-put ∙ put_after bytes (size * at) new (size * (rows * columns)) (omega (arith, inside)) (omega (arith, inside)) ∙ a.beyond;
  }
    where
      inside : size * at + size ≤ size * (rows * columns)
      inside = ends_before size h

      others : (k : ℕ) → (k ≡ at → ⊥) → piece size k after ≡ piece size k bytes
      others k apart = ap (piece size k) is-put ∙ piece_other size bytes at new (omega (arith, inside)) whole k apart

      go : (k : ℕ) → k < rows * columns → bit_at done k ≡ true → (t : Bool) → eqb k at ≡ t → piece size k after ≡ piece size (source_of rows columns k) before
      go k l e true f = rw (eqb-true k at f) (ap (piece size at) is-put ∙ piece_same size bytes at new (omega (arith, inside)) whole ∙ row)
      go k l e false f = let apart = eqb-false k at f in others k apart ∙ a.moved k l apart e

-- ---- a walk's steps
module _ {size rows columns start at from : ℕ} {bytes done bytes' done' : List ℕ} (w : Walking size rows columns start at from bytes done bytes' done') where
  -- the next place is one of the table
  pub next_inside : from < rows * columns
  next_inside = rw w.source (source_below rows columns at w.inside)

  -- the table still fits
  still_wide : size * (rows * columns) ≤ length bytes'
  still_wide = rw w.as_long w.wide

  -- the bytes hold both rows
  pub rows_inside : (size * at + size ≤ length bytes') × (size * from + size ≤ length bytes')
  rows_inside = (le_trans (ends_before size w.inside) still_wide, le_trans (ends_before size next_inside) still_wide)

  -- the next place is not done
  pub next_open : (from ≡ start → ⊥) → bit_at done' from ≡ false
  next_open on = not_so (bit_at done' from) (λ e. on (w.next e))

  -- the place that its row goes to is done
  before_it : (k : ℕ) → k < rows * columns → source_of rows columns k ≡ from → bit_at done' k ≡ true
  before_it k l e = ap (bit_at done') (one_place rows columns k at l w.inside (e ∙ w.source)) ∙ w.here

  -- a step
  pub walk_goes : {after done'' : List ℕ} {from' : ℕ} → (from ≡ start → ⊥) → length after ≡ length bytes' → after ≡ put bytes' (size * at) (take size (drop (size * from) bytes'))
      → ((k : ℕ) → bit_at done'' k ≡ (eqb k from || bit_at done' k)) → from' ≡ source_of rows columns from → Walking size rows columns start from from' bytes done after done''
  unfolding piece
  walk_goes {after} {done''} on long is-put m source =
      let cases = marked_cases done' done'' from m in
      let more = marked_more done' done'' from m in
      let fresh = next_open on in
      record {
        wide = w.wide;
        as_long = long ∙ w.as_long;
        source = source;
        inside = next_inside;
        here = marked_here done' done'' from m;
        next = λ e. ⊎_elim (λ s. clash (bit_at done' from) (before_it from next_inside (sym source ∙ s)) fresh)
            (λ d. ⊎_elim (λ f. clash (bit_at done' from) f fresh) (λ s. source ∙ s) (w.behind from next_inside (rw source at d))) (cases _ e);
        behind = λ k l e. ⊎_elim (λ s. inl (more k (before_it k l s))) (λ d. ⊎_elim (λ f. inl (more k f)) (λ s. inr s) (w.behind k l d)) (cases (source_of rows columns k) e);
        started = more start w.started;
        grown = λ k e. more k (w.grown k e);
        all_but = λ before b.
            let a = w.all_but before b in
            opened done' done'' from m size rows columns before after
            (filled size rows columns at bytes' (piece size from bytes') after w.inside still_wide (piece_length size bytes' from rows_inside.1) is-put before done'
            (a.still from next_inside fresh ∙ ap (λ (k : ℕ). piece size k before) w.source) w.here a);
      }

  -- at its end, with the first row
  pub walk_ends : {kept' after entry : List ℕ} (kept : List ℕ) → from ≡ start → kept' ≡ put kept 0 (take size (drop (size * start) bytes)) → after ≡ put bytes' (size * at) (take size kept')
      → bit_at entry start ≡ false → ((k : ℕ) → bit_at done k ≡ (eqb k start || bit_at entry k)) → Walked size rows columns start bytes entry after done'
  unfolding piece
  walk_ends {kept'} {after} {entry} kept end is-kept is-put fresh m =
      let inside : start < rows * columns = rw end at next_inside in
      let row = le_trans (ends_before size inside) w.wide in
      let held : take size kept' ≡ piece size start bytes = ap (take size) is-kept ∙ put_back kept bytes (size * start) size row in
      record {
        started = w.started;
        grown = λ k e. w.grown k (marked_more entry done start m k e);
        closed = λ k l e. ⊎_elim (λ f. f) (λ s. before_it k l (s ∙ sym end)) (w.behind k l e);
        partly = λ before p.
            filled size rows columns at bytes' (take size kept') after w.inside still_wide (ap length held ∙ piece_length size bytes start row) is-put before done'
            (held ∙ p.still start inside fresh ∙ ap (λ (k : ℕ). piece size k before) (sym end ∙ w.source)) w.here
            (w.all_but before (opened entry done start m size rows columns before bytes p));
      }

-- ---- all walks
-- the cycles of the first places are done
pub record Turning (size rows columns passed : ℕ) (before bytes done : List ℕ) : Type 0 where
  pub all : (k : ℕ) → k < passed → bit_at done k ≡ true
  pub closed : Closed rows columns done
  pub partly : Partly size rows columns before bytes done

module _ {size rows columns : ℕ} {before : List ℕ} where
  -- a table of which every place is done is transposed
  pub turning_done : {passed : ℕ} {bytes done : List ℕ} → rows * columns ≤ passed → Turning size rows columns passed before bytes done → TransposedFirst size rows columns before bytes
  unfolding source_of
  turning_done whole t = record {
    there = λ r c h l.
        let place = by_column rows columns r c h l in
        t.partly.moved (c * rows + r) place (t.all (c * rows + r) (omega arith)) ∙ ap (λ (k : ℕ). piece size k before) (rw (column_of c r rows h, row_of c r rows h));
    beyond = t.partly.beyond;
  }
