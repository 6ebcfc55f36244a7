-- The means over a run of floors: the means passed, and what the rest comes to, stay the whole; a line gives the same sums; nothing but 1 stays nothing but 1.
use mathlib.Core.Path.{◌≡◌, refl, sym, ap, ◌∙◌}
use mathlib.Core.Bool.{true}
use mathlib.Core.List.{List, [], ◌∷◌, ◌++◌}
use Prim.Native.Nat.{ℕ, zero, suc, ◌+◌, ◌-◌, ◌≤◌, ◌<◌}
use native.Mathlib.Omega.{arith}
use lib.Dec.{T}
use lib.ListN.{length, get_or, set, take, drop, replicate, length-set, length-drop, length-replicate, get_or-append}
use lib.Seq.{get_or-take, get_or-drop, get_or-append-add, length-take-le}
use lib.Ieee.{Float, nan, binary64, fits, eq, ne}
use borrow.Author.Tests.{eq-eqb}
use Rattle.arithmetic.specs.Number
use Rattle.arithmetic.specs.Number.{one, within}
use Rattle.arithmetic.proofs.Order.{and-true}
use Rattle.arithmetic.proofs.Same.{one_same}
use Rattle.arithmetic.proofs.InTurn.{split, kept, stored, none_left, all_stored}
use Rattle.envelope.specs.Row.{Rowed, rowed_at, pushed, newest_first, down, tally_of, next_pos, pos_after, all_unit, row_in_order}
use Rattle.envelope.specs.Mean.{is_all_one, weighted_from, mean_of}
use Rattle.envelope.specs.Run.{Means, means_at, means_of, sums_of, line_of, sums_along, given}
use Rattle.envelope.specs.declared.row.AttackRow.{AttackRow}
use Rattle.envelope.proofs.Tally.{ordered, all_one}
use Rattle.envelope.proofs.Weighted.{newest_all_one, mean_one}
use Rattle.envelope.proofs.Newest.{down_take, newest_pushed}
use Rattle.envelope.proofs.Gain.{pushed_in_order, next_inside}

-- ---- the turns of a run
abbrev pub means_from : List Float → Rowed → ℕ → List Float → Means
means_from weights r i l =
    let later = means_of weights r (drop i l) in
    record { means = take i l ++ later.means; rowed = later.rowed }

module _ (weights : List Float) (r : Rowed) (i : ℕ) (l : List Float) where
  pub means_more : (p : Rowed) (m : Float) → i < length l → p ≡ pushed r.state r.row (get_or l i nan) → m ≡ mean_of weights (newest_first p.state.pos p.row)
      → means_from weights p (i + 1) (set l i m) ≡ means_from weights r i l
  unfolding means_of
  means_more p m h P M =
      let later = means_of weights p (drop (i + 1) l) in
      let a : means_from weights p (i + 1) (set l i m) ≡ record { means = take i l ++ (m ∷ later.means); rowed = later.rowed } =
      rw (kept l i h m, stored l i h m later.means) refl
      in
      a ∙ rw (split l i h, M, P) refl

  pub means_done : length l ≤ i → record { means = l; rowed = r } ≡ means_from weights r i l
  unfolding means_of
  means_done h = rw (none_left l i h, all_stored l i h) refl

-- a turn leaves a row in order, of the same length, and floors ahead that lie within 0 and 1
pub turn_keeps : (s : AttackRow) (row : List Float) (i : ℕ) (l : List Float) (p : Rowed) → i < length l → p ≡ pushed s row (get_or l i nan) → row_in_order s row ≡ true → all_unit (drop i l) ≡ true
    → (row_in_order p.state p.row ≡ true) × ((y : Float) → all_unit (drop (i + 1) (set l i y)) ≡ true) × (length p.row ≡ length row)
unfolding pushed
turn_keeps s row i l p h P o u =
    let f = get_or l i nan in
    let k = and-true (within Number.zero one f) (all_unit (drop (i + 1) l)) (rw (split l i h) at u) in
    (rw P (pushed_in_order s row f o k.0), λ y. rw (kept l i h y) k.1, rw P (length-set row s.pos f))

-- ---- with the sums at hand
pub mean_given : (weights : List Float) (s : AttackRow) (row : List Float) (sum m : Float) → row_in_order s row ≡ true → sum ≡ weighted_from Number.zero weights (newest_first s.pos row) → m ≡ given s.tally sum
    → m ≡ mean_of weights (newest_first s.pos row)
unfolding mean_of
mean_given weights s row sum m o S M =
    let k = ordered s row o in
    M ∙ rw (newest_all_one row s.pos (omega (arith, k.place)), k.true_tally, S) refl

-- the sums ahead, and the first of them
module _ (weights : List Float) (r p : Rowed) (i : ℕ) (l sums : List Float) (h : i < length l) (k : length l ≤ length sums) (P : p ≡ pushed r.state r.row (get_or l i nan)) (S : take (length l - i) (drop i sums) ≡ sums_of weights r (drop i l)) where
  both : get_or sums i nan ∷ take (length l - (i + 1)) (drop (i + 1) sums) ≡ weighted_from Number.zero weights (newest_first p.state.pos p.row) ∷ sums_of weights p (drop (i + 1) l)
  unfolding sums_of
  both =
      let n : length l - i ≡ suc (length l - (i + 1)) = omega arith in
      rw (n, split sums i (omega arith), split l i h, ← P) at S

  pub sum_here : get_or sums i nan ≡ weighted_from Number.zero weights (newest_first p.state.pos p.row)
  sum_here = ap (λ (x : List Float). get_or x 0 nan) both

  pub sums_ahead : take (length l - (i + 1)) (drop (i + 1) sums) ≡ sums_of weights p (drop (i + 1) l)
  sums_ahead = ap (λ (x : List Float). drop 1 x) both

-- ---- over a line
down_same : (xs ys : List Float) (a b n : ℕ) → ((i : ℕ) → i < n → get_or xs (a + i) nan ≡ get_or ys (b + i) nan) → down xs a n ≡ down ys b n
down_same xs ys a b zero h = refl
down_same xs ys a b (suc n) h = rw (h n (omega arith), down_same xs ys a b n (λ i l. h i (omega arith))) refl

down_parts : (l : List Float) (from a b : ℕ) → down l from (a + b) ≡ down l (from + a) b ++ down l from a
down_parts l from a zero = let e : a + zero ≡ a = omega arith in rw e refl
down_parts l from a (suc b) =
    let e : a + suc b ≡ suc (a + b) = omega arith in
    let f : from + (a + b) ≡ from + a + b = omega arith in
    rw (e, f, down_parts l from a b) refl

module _ (pos : ℕ) (row floors line : List Float) (h : pos < length row) (laid : take (length row + length floors) line ≡ line_of pos row floors) where
  at_line : (i : ℕ) → i < length row + length floors → get_or line i nan ≡ get_or (line_of pos row floors) i nan
  at_line i l = sym (get_or-take (length row + length floors) line i nan l) ∙ ap (λ (x : List Float). get_or x i nan) laid

  ahead_of : (i : ℕ) → get_or (line_of pos row floors) (length row - pos + i) nan ≡ get_or (take pos row ++ floors) i nan
  ahead_of i = rw (← length-drop pos row) (get_or-append-add (drop pos row) (take pos row ++ floors) i nan)

  older : (i : ℕ) → i < length row - pos → get_or line (0 + i) nan ≡ get_or row (pos + i) nan
  older i l =
      let e : 0 + i ≡ i = omega arith in
      let d = length-drop pos row in
      rw e (at_line i (omega arith) ∙ get_or-append (drop pos row) (take pos row ++ floors) nan i (omega arith) ∙ get_or-drop pos row i nan)

  newer : (i : ℕ) → i < pos → get_or line (0 + (length row - pos) + i) nan ≡ get_or row (0 + i) nan
  newer i l =
      let e : 0 + (length row - pos) + i ≡ length row - pos + i = omega arith in
      let z : 0 + i ≡ i = omega arith in
      let t = length-take-le pos row (omega arith) in
      rw (e, z) (at_line (length row - pos + i) (omega arith) ∙ ahead_of i ∙ get_or-append (take pos row) floors nan i (omega arith) ∙ get_or-take pos row i nan l)

  behind : (i : ℕ) → i < length floors → get_or line (length row + i) nan ≡ get_or floors i nan
  behind i l =
      let e : length row + i ≡ length row - pos + (pos + i) = omega arith in
      let t = length-take-le pos row (omega arith) in
      let a : get_or (line_of pos row floors) (length row + i) nan ≡ get_or (take pos row ++ floors) (pos + i) nan = rw e (ahead_of (pos + i)) in
      let f : pos + i ≡ length (take pos row) + i = omega arith in
      let b : get_or (take pos row ++ floors) (pos + i) nan ≡ get_or floors i nan = ap (λ (n : ℕ). get_or (take pos row ++ floors) n nan) f ∙ get_or-append-add (take pos row) floors i nan in
      at_line (length row + i) (omega arith) ∙ a ∙ b

  -- read downward, the line's first places are the row newest first
  line_newest : newest_first pos row ≡ down line 0 (length row)
  line_newest =
      let e : length row ≡ length row - pos + pos = omega arith in
      sym
      (ap (down line 0) e
      ∙ down_parts line 0 (length row - pos) pos
      ∙ rw (down_same line row (0 + (length row - pos)) 0 pos newer, down_same line row 0 pos (length row - pos) older) refl)

-- a push moves on by a place
push_along : (s : AttackRow) (row : List Float) (x : Float) (line : List Float) (k l : ℕ) → s.pos < length row → length row ≡ l → newest_first s.pos row ≡ down line k l → get_or line (k + l) nan ≡ x
    → newest_first (pushed s row x).state.pos (pushed s row x).row ≡ down line (k + 1) l
push_along s row x line k zero h m n f = absurd (omega arith)
push_along s row x line k (suc l) h m n f =
    let z : length row - 1 ≡ l = omega arith in
    let p : k + suc l ≡ k + 1 + l = omega arith in
    let q : suc k ≡ k + 1 = omega arith in
    let older : take (length row - 1) (newest_first s.pos row) ≡ down line (k + 1) l = rw (z, n, ← q) (down_take line k l) in
    newest_pushed s row x h ∙ rw (older, ← p, f) refl

pub along_pushed : (weights line : List Float) (fs : List Float) (r : Rowed) (k : ℕ) → r.state.pos < length r.row → length weights ≡ length r.row
    → newest_first r.state.pos r.row ≡ down line k (length weights) → ((i : ℕ) → i < length fs → get_or line (k + length weights + i) nan ≡ get_or fs i nan)
    → sums_along weights line k (length fs) ≡ sums_of weights r fs
unfolding sums_along sums_of pushed
along_pushed weights line [] r k h w n f = refl
along_pushed weights line (x ∷ fs) r k h w n f =
    let p = pushed r.state r.row x in
    let l = length-set r.row r.state.pos x in
    let z : k + length weights + 0 ≡ k + length weights = omega arith in
    let first : newest_first p.state.pos p.row ≡ down line (k + 1) (length weights) =
    push_along r.state r.row x line k (length weights) h (sym w) n (rw z at (f 0 (omega arith)))
    in
    let inside : p.state.pos < length p.row = rw l (next_inside (length r.row) r.state.pos h) in
    let later = along_pushed weights line fs p (k + 1) inside (w ∙ sym l) first (λ i m. let e : k + 1 + length weights + i ≡ k + length weights + suc i = omega arith in rw e (f (suc i) (omega arith))) in
    rw (first, later) refl

-- the line that is laid gives a run's sums
pub along_laid : (weights line : List Float) (s : AttackRow) (row floors sums : List Float) → row_in_order s row ≡ true → length weights ≡ length row → take (length row + length floors) line ≡ line_of s.pos row floors
    → take (length floors) sums ≡ sums_along weights line 0 (length floors) → take (length floors) sums ≡ sums_of weights (rowed_at s row) floors
along_laid weights line s row floors sums o w laid S =
    let h = (ordered s row o).place in
    let z : 0 + length weights ≡ length row = omega arith in
    S
    ∙ along_pushed weights line floors (rowed_at s row) 0 h w (rw w (line_newest s.pos row floors line h laid))
    (λ i l. rw z (behind s.pos row floors line h laid i l))

-- ---- nothing but 1
pub ones : (l : List Float) → ((i : ℕ) → T (fits binary64 (get_or l i nan))) → is_all_one l ≡ true → l ≡ replicate (length l) one
ones [] f h = refl
ones (x ∷ xs) f h =
    let k = and-true (eq x one) (is_all_one xs) h in
    rw (one_same x (f 0) k.0) (ap (λ (r : List Float). one ∷ r) (ones xs (λ i. f (suc i)) k.1))

set-one : (n i : ℕ) → set (replicate n one) i one ≡ replicate n one
set-one zero i = refl
set-one (suc n) zero = refl
set-one (suc n) (suc i) = ap (λ (r : List Float). one ∷ r) (set-one n i)

no_tally : (n : ℕ) → tally_of (replicate n one) ≡ 0
unfolding ne eq
no_tally zero = refl
no_tally (suc n) = ap (λ (k : ℕ). 0 + k) (no_tally n)

-- a row of nothing but 1 stays as it is, and its means are 1
abbrev ones_at : ℕ → ℕ → Rowed
ones_at l pos = rowed_at (record { pos = pos; tally = 0 }) (replicate l one)

still_pushed : (l : ℕ) (s : AttackRow) → pushed s (replicate l one) one ≡ ones_at l (next_pos l s.pos)
unfolding pushed
still_pushed l s = rw (set-one l s.pos, length-replicate l one, no_tally l) refl

still_on : (weights : List Float) (l n pos : ℕ) → pos < l → record { means = replicate n one; rowed = ones_at l (pos_after l pos n) } ≡ means_of weights (ones_at l pos) (replicate n one)
unfolding means_of pos_after
still_on weights l zero pos h = refl
still_on weights l (suc n) pos h =
    let k = next_inside l pos h in
    let m = mean_one weights (replicate l one) (next_pos l pos) (rw (length-replicate l one) (omega arith)) (no_tally l) in
    rw (still_pushed l (record { pos = pos; tally = 0 }), ← still_on weights l n (next_pos l pos) k, ← m) refl

pub still : (weights : List Float) (s : AttackRow) (row floors : List Float) (next : ℕ) → ((i : ℕ) → T (fits binary64 (get_or row i nan))) → ((i : ℕ) → T (fits binary64 (get_or floors i nan)))
    → row_in_order s row ≡ true → s.tally ≡ 0 → is_all_one floors ≡ true → next ≡ pos_after (length row) s.pos (length floors) → means_at (record { pos = next; tally = 0 }) row floors ≡ means_of weights (rowed_at s row) floors
still weights s row floors next R F o t a N =
    let k = ordered s row o in
    let r : row ≡ replicate (length row) one = ones row R (all_one row ∙ eq-eqb (tally_of row) 0 (sym k.true_tally ∙ t)) in
    let f : floors ≡ replicate (length floors) one = ones floors F a in
    let whole = still_on weights (length row) (length floors) s.pos k.place in
    let same : s ≡ record { pos = s.pos; tally = 0 } = ap (λ (n : ℕ). record { pos = s.pos; tally = n }) t in
    rw N
    (ap (λ (l : List Float). means_at (record { pos = pos_after (length row) s.pos (length floors); tally = 0 }) l floors) r
    ∙ ap (λ (l : List Float). means_at (record { pos = pos_after (length row) s.pos (length floors); tally = 0 }) (replicate (length row) one) l) f
    ∙ whole
    ∙ sym
    (ap (λ (l : List Float). means_of weights (rowed_at s row) l) f
    ∙ ap (λ (l : List Float). means_of weights (rowed_at s l) (replicate (length floors) one)) r
    ∙ ap (λ (a : AttackRow). means_of weights (rowed_at a (replicate (length row) one)) (replicate (length floors) one)) same))
