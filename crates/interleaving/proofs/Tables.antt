-- Tables transposed, over any elements.
use mathlib.Core.Path.{◌≡◌, refl, sym, ap, subst, ◌∙◌}
use mathlib.Core.List.{List, [], ◌∷◌, ◌++◌, map}
use Prim.Native.Nat.{ℕ, zero, suc, ◌+◌, ◌*◌, ◌/◌, ◌%◌, ◌<◌}
use native.Mathlib.Nat.{suc-mul, zero-mul, mul-zero, mod-lt, div-add-mod', div-lt_iff_lt-mul}
use native.Mathlib.Omega.{arith}
use lib.ListN.{length, get_or, length-append, length-map, get_or-append}
use lib.Seq.{get_or-append-add}
use Rattle.audio.proofs.Carry.{places-end}
use Rattle.audio.proofs.Places.{Each, get_d_map}
use Rattle.audio.proofs.Planes.{planes_same}
use Rattle.interleaving.specs.Interleaved.{every, columns_from, transposed}

module _ {A : Type 0} (none : A) where
  -- ---- a column: as long as it should be, and what stands where in it
  every_length : (step i n : ℕ) (l : List A) → length (every none step i n l) ≡ n
  unfolding every
  every_length step i zero l = refl
  every_length step i (suc n) l = ap suc (every_length step (i + step) n l)

  every_at : (step i n j : ℕ) (l : List A) → j < n → get_or (every none step i n l) j none ≡ get_or l (j * step + i) none
  unfolding every
  every_at step i zero j l h = absurd (omega arith)
  every_at step i (suc n) zero l h = let e : i ≡ 0 * step + i = rw (zero-mul step) (omega arith) in ap (λ (p : ℕ). get_or l p none) e
  every_at step i (suc n) (suc j) l h =
      let e : j * step + (i + step) ≡ suc j * step + i = let t = suc-mul j step in omega arith in
      every_at step (i + step) n j l (omega arith) ∙ ap (λ (p : ℕ). get_or l p none) e

  -- ---- columns, likewise
  columns_length : (step rows c n : ℕ) (l : List A) → length (columns_from none step rows c n l) ≡ n * rows
  unfolding columns_from
  columns_length step rows c zero l = sym (zero-mul rows)
  columns_length step rows c (suc n) l =
      length-append (every none step c rows l) (columns_from none step rows (c + 1) n l)
      ∙ rw (every_length step c rows l, columns_length step rows (c + 1) n l) (let t = suc-mul n rows in omega arith)

  columns_at : (step rows c n k r : ℕ) (l : List A) → k < n → r < rows → get_or (columns_from none step rows c n l) (k * rows + r) none ≡ get_or l (r * step + (c + k)) none
  unfolding columns_from
  columns_at step rows c zero k r l h g = absurd (omega arith)
  columns_at step rows c (suc n) zero r l h g =
      let e : 0 * rows + r ≡ r = rw (zero-mul rows) (omega arith) in
      let f : c ≡ c + 0 = omega arith in
      let first = every none step c rows l in
      let later = columns_from none step rows (c + 1) n l in
      ap (λ (p : ℕ). get_or (first ++ later) p none) e
      ∙ get_or-append first later none r (rw (every_length step c rows l) g)
      ∙ every_at step c rows r l g
      ∙ ap (λ (p : ℕ). get_or l (r * step + p) none) f
  columns_at step rows c (suc n) (suc k) r l h g =
      let first = every none step c rows l in
      let later = columns_from none step rows (c + 1) n l in
      let e : suc k * rows + r ≡ length first + (k * rows + r) = let t = suc-mul k rows in omega (arith, every_length step c rows l) in
      let f : c + 1 + k ≡ c + suc k = omega arith in
      ap (λ (p : ℕ). get_or (first ++ later) p none) e
      ∙ get_or-append-add first later (k * rows + r) none
      ∙ columns_at step rows (c + 1) n k r l (omega arith) g
      ∙ ap (λ (p : ℕ). get_or l (r * step + p) none) f

  -- ---- a table
  -- has as many places as before
  pub transposed_length : (rows columns : ℕ) (l : List A) → length (transposed none rows columns l) ≡ columns * rows
  transposed_length rows columns l = columns_length columns rows 0 columns l

  -- the element of a row and a column
  pub transposed_at : (rows columns r c : ℕ) (l : List A) → r < rows → c < columns → get_or (transposed none rows columns l) (c * rows + r) none ≡ get_or l (r * columns + c) none
  transposed_at rows columns r c l h g =
      let e : 0 + c ≡ c = omega arith in
      columns_at columns rows 0 columns c r l g h ∙ ap (λ (p : ℕ). get_or l (r * columns + p) none) e

  -- a list with each element there is the table transposed
  pub transposed_is : (rows columns : ℕ) (l after : List A) → length after ≡ columns * rows → ((r c : ℕ) → r < rows → c < columns → get_or after (c * rows + r) none ≡ get_or l (r * columns + c) none)
      → after ≡ transposed none rows columns l
  transposed_is rows columns l after e same =
      planes_same none rows columns after (transposed none rows columns l) e (transposed_length rows columns l) (λ c r h g. same r c g h ∙ sym (transposed_at rows columns r c l g h))

  -- transposed twice it is as before
  pub transposed_back : (rows columns : ℕ) (l : List A) → length l ≡ rows * columns → transposed none columns rows (transposed none rows columns l) ≡ l
  transposed_back rows columns l e = sym (transposed_is columns rows (transposed none rows columns l) l e (λ c r g h. sym (transposed_at rows columns r c l h g)))

  -- one column, or one row, stays as it is
  pub transposed_column : (n : ℕ) (l : List A) → length l ≡ n → transposed none n 1 l ≡ l
  transposed_column n l e = sym (transposed_is n 1 l l (omega (arith, e)) (λ r c h g.
      let z : c ≡ 0 = omega (arith, g) in
      let f : 0 * n + r ≡ r * 1 + 0 = rw (zero-mul n) (omega arith) in
      rw (z, f) refl))

  pub transposed_row : (n : ℕ) (l : List A) → length l ≡ n → transposed none 1 n l ≡ l
  transposed_row n l e = rw (transposed_column n l e) at (transposed_back n 1 l (omega (arith, e)))

-- of each place's image, whatever stands past a list's end
pub transposed_map : {A B : Type 0} (f : A → B) (none : A) (none' : B) (rows columns : ℕ) (l : List A) → length l ≡ rows * columns
    → transposed none' rows columns (map f l) ≡ map f (transposed none rows columns l)
transposed_map f none none' rows columns l e =
    let t = transposed none rows columns l in
    let n = transposed_length none rows columns l in
    sym (transposed_is none' rows columns (map f l) (map f t) (length-map t f ∙ n) (λ r c h g.
    get_d_map f t (c * rows + r) none none' (omega (arith, n, places-end c columns rows g))
    ∙ ap f (transposed_at none rows columns r c l h g)
    ∙ sym (get_d_map f l (r * columns + c) none none' (omega (arith, e, places-end r rows columns h)))))

-- ---- what holds of each in a table
-- a place is one of a row and a column
parted : (w k p : ℕ) → p < k * w → (p / w < k) × (p % w < w)
parted zero k p h = absurd (omega (arith, h, mul-zero k))
parted (suc w) k p h = ((div-lt_iff_lt-mul {k = suc w} (omega arith)).1 h, mod-lt p (omega arith))

module _ {A : Type 0} (P : A → Type 0) (none : A) where
  -- each is what stands at some place
  each_of : (l : List A) → ((i : ℕ) → i < length l → P (get_or l i none)) → Each P l
  each_of [] h = tt
  each_of (x ∷ l) h = (h 0 (omega arith), each_of l (λ i g. h (suc i) (omega (arith, g))))

  each_at : (l : List A) (i : ℕ) → Each P l → i < length l → P (get_or l i none)
  each_at [] i h g = absurd (omega (arith, g))
  each_at (x ∷ l) zero h g = h.0
  each_at (x ∷ l) (suc i) h g = each_at l i h.1 (omega (arith, g))

  -- transposed, they are the same
  pub transposed_each : (rows columns : ℕ) (l : List A) → length l ≡ rows * columns → Each P l → Each P (transposed none rows columns l)
  transposed_each rows columns l e h = each_of (transposed none rows columns l) (λ p g.
      let inside = parted rows columns p (rw (← transposed_length none rows columns l) g) in
      let r = p % rows in
      let c = p / rows in
      subst (λ (q : ℕ). P (get_or (transposed none rows columns l) q none)) (div-add-mod' p rows)
      (rw (transposed_at none rows columns r c l inside.1 inside.0) (each_at l (r * columns + c) h (omega (arith, e, inside.0, places-end r rows columns inside.1)))))
