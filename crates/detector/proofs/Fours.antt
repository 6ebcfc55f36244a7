-- Four answers of a run side by side: sixteen sums, of which those of an answer are a tap ahead of the one before it.
use mathlib.Core.Path.{◌≡◌, refl, sym, ap, ◌∙◌}
use mathlib.Core.List.{List, [], ◌∷◌, ◌++◌, reverse_aux, reverse_aux-eq, reverse_aux-append, append_assoc}
use Prim.Native.Nat.{ℕ, zero, suc, ◌+◌, ◌-◌, ◌*◌, ◌<◌, ◌≤◌}
use native.Mathlib.Nat.{add-zero}
use native.Mathlib.Numerals.{add-one}
use native.Mathlib.Omega.{arith}
use lib.ListN.{length, get_or, take, drop, replicate, take-append-drop, length-drop}
use lib.Seq.{take-suc, take-take, take-add, take_all, drop-drop, take-append-le, length-take-le, get_or-take}
use lib.Ieee.{Float, nan}
use Rattle.arithmetic.specs.Number
use Rattle.arithmetic.proofs.InTurn.{split}
use Rattle.detector.specs.Oversample.{remembered}
use Rattle.detector.specs.Sums.{factor, tap_count, added, sums_on, sums_by, up_to, samples_at, newer_of, fours_of}
use Rattle.detector.proofs.Sums.{added_part, sums_length, sums_append, sums_split, sums_enough, four_of}
use Rattle.detector.proofs.Line.{newest_twelve, up_to_length, sample_up_to}

-- the sums of one answer
by_length : (table ds : List Float) → length (sums_by table ds) ≡ factor
unfolding sums_by
by_length table ds = sums_length ds table (replicate factor Number.zero)

-- ---- what lies behind the newest samples
-- a run from place i + r back: the r newest, and the run from place i back
older : (run : List Float) (i r : ℕ) → i + r < length run → drop r (up_to run (i + r)) ≡ up_to run i
older run i zero h = rw (add-zero i)
older run i (suc r) h =
    let e : i + suc r ≡ i + r + 1 = omega arith in
    let k : up_to run (i + r + 1) ≡ get_or run (i + r + 1) nan ∷ up_to run (i + r) =
    rw (add-one (i + r + 1), take-suc run (i + r + 1) nan (omega arith)) (reverse_aux-append (take (i + r + 1) run) (get_or run (i + r + 1) nan ∷ []) []) in
    rw (e, k) (older run i r (omega arith))

newer_older : (run : List Float) (i r : ℕ) → i + r < length run → take r (up_to run (i + r)) ++ up_to run i ≡ up_to run (i + r)
newer_older run i r h = rw (← older run i r h) (take-append-drop r (up_to run (i + r)))

-- the first n of two lists: the second may be cut off after n or more
take_over : (n m : ℕ) (xs ys : List Float) → n ≤ m → take n (xs ++ take m ys) ≡ take n (xs ++ ys)
take_over n m [] ys h = take-take n m ys h
take_over zero m (x ∷ xs) ys h = refl
take_over (suc n) m (x ∷ xs) ys h = rw (take_over n m xs ys (omega arith))

module _ (table behind run : List Float) (at : ℕ) (t : length table ≡ tap_count) where
  -- the answer r places on: its newer samples, and then those that the first answer reads
  ahead : (r : ℕ) → at + r < length run
      → sums_on (drop (factor * r) table) (sums_by table (take r (up_to run (at + r)))) (samples_at behind run at) ≡ sums_by table (samples_at behind run (at + r))
  unfolding sums_by
  ahead r h =
      let zs = replicate factor Number.zero in
      let xs = take r (up_to run (at + r)) in
      let n : length xs ≡ r = length-take-le r (up_to run (at + r)) (omega (arith, up_to_length run (at + r) h)) in
      let joint : take remembered (xs ++ samples_at behind run at) ≡ samples_at behind run (at + r) =
      take_over remembered remembered xs (reverse_aux (take (at + 1) run) behind) (omega arith)
      ∙ rw (reverse_aux-eq (take (at + 1) run) behind, ← append_assoc xs (up_to run at) behind, newer_older run at r h, reverse_aux-eq (take (at + r + 1) run) behind) in
      let g = sums_append xs (samples_at behind run at) table zs ∙ sums_enough remembered (xs ++ samples_at behind run at) table zs (omega arith) in
      rw (← joint) (rw n at g)

  -- all four
  pub fours : at + 3 < length run → sums_on table (newer_of table run at) (samples_at behind run at) ≡ fours_of table behind run at
  unfolding newer_of fours_of sums_by
  fours h =
      let es = samples_at behind run at in
      let zs = replicate factor Number.zero in
      let s1 = sums_by table (take 1 (up_to run (at + 1))) in
      let s2 = sums_by table (take 2 (up_to run (at + 2))) in
      let s3 = sums_by table (take 3 (up_to run (at + 3))) in
      sums_split es zs (s1 ++ (s2 ++ s3)) table
      ∙ ap (λ (l : List Float). sums_on table zs es ++ l)
      (rw (sums_split es s1 (s2 ++ s3) (drop factor table), by_length table (take 1 (up_to run (at + 1))), drop-drop factor factor table, sums_split es s2 s3 (drop (factor * 2) table), by_length table (take 2 (up_to run (at + 2))), drop-drop factor (factor * 2) table)
      (rw (ahead 1 (omega arith), ahead 2 (omega arith), ahead 3 h)))

-- ---- parts of the sixteen
-- a list whose part from a on comes back as y
abbrev back : List Float → ℕ → List Float → List Float
back l a y = take a l ++ (y ++ drop factor (drop a l))

-- the sums of the answers ahead, one after the other
pub laid_first : (table run z y1 y2 y3 : List Float) (at : ℕ) → z ≡ replicate (factor * 4) Number.zero
    → y1 ≡ sums_on table (take factor (drop 4 z)) (take 1 (up_to run (at + 1)))
    → y2 ≡ sums_on table (take factor (drop 8 (back z 4 y1))) (take 2 (up_to run (at + 2)))
    → y3 ≡ sums_on table (take factor (drop 12 (back (back z 4 y1) 8 y2))) (take 3 (up_to run (at + 3)))
    → back (back (back z 4 y1) 8 y2) 12 y3 ≡ newer_of table run at
unfolding newer_of sums_by
laid_first table run z y1 y2 y3 at e e1 e2 e3 =
    let zs = replicate factor Number.zero in
    let f1 : y1 ≡ sums_by table (take 1 (up_to run (at + 1))) = rw e at e1 in
    let v1 = four_of y1 (rw f1 (by_length table (take 1 (up_to run (at + 1))))) in
    let k2 : take factor (drop 8 (back z 4 y1)) ≡ zs = rw (e, v1.is) in
    let f2 : y2 ≡ sums_by table (take 2 (up_to run (at + 2))) = rw k2 at e2 in
    let v2 = four_of y2 (rw f2 (by_length table (take 2 (up_to run (at + 2))))) in
    let k3 : take factor (drop 12 (back (back z 4 y1) 8 y2)) ≡ zs = rw (e, v1.is, v2.is) in
    let f3 : y3 ≡ sums_by table (take 3 (up_to run (at + 3))) = rw k3 at e3 in
    let v3 = four_of y3 (rw f3 (by_length table (take 3 (up_to run (at + 3))))) in
    let whole : back (back (back z 4 y1) 8 y2) 12 y3 ≡ zs ++ (y1 ++ (y2 ++ y3)) = rw (e, v1.is, v2.is, v3.is) in
    whole ∙ rw (f1, f2, f3)

-- the sums of each answer
module _ (table behind run : List Float) (at : ℕ) where
  pub quarters : let l = fours_of table behind run at in
      (take factor (drop 0 l) ≡ sums_by table (samples_at behind run at)) × (take factor (drop 4 l) ≡ sums_by table (samples_at behind run (at + 1)))
      × (take factor (drop 8 l) ≡ sums_by table (samples_at behind run (at + 2))) × (take factor (drop 12 l) ≡ sums_by table (samples_at behind run (at + 3)))
  unfolding fours_of
  quarters =
      let v0 = four_of (sums_by table (samples_at behind run at)) (by_length table (samples_at behind run at)) in
      let v1 = four_of (sums_by table (samples_at behind run (at + 1))) (by_length table (samples_at behind run (at + 1))) in
      let v2 = four_of (sums_by table (samples_at behind run (at + 2))) (by_length table (samples_at behind run (at + 2))) in
      let v3 = four_of (sums_by table (samples_at behind run (at + 3))) (by_length table (samples_at behind run (at + 3))) in
      rw (v0.is, v1.is, v2.is, v3.is) (refl, refl, refl, refl)

  pub quarter : (r : ℕ) → r < 4 → take factor (drop (4 * r) (fours_of table behind run at)) ≡ sums_by table (samples_at behind run (at + r))
  quarter zero h = rw (add-zero at) quarters.0
  quarter (suc zero) h = quarters.1
  quarter (suc (suc zero)) h = quarters.2
  quarter (suc (suc (suc zero))) h = quarters.3
  quarter (suc (suc (suc (suc r)))) h = absurd (omega (arith, h))

-- ---- the twelve samples that the first answer reads
-- three more of a list
three : (l : List Float) (n : ℕ) → n + 3 ≤ length l → take (n + 3) l ≡ take n l ++ (get_or l n nan ∷ get_or l (n + 1) nan ∷ get_or l (n + 2) nan ∷ [])
three l n h =
    let e : n + 1 + 1 ≡ n + 2 = omega arith in
    let last : drop (n + 1 + 1) l ≡ get_or l (n + 2) nan ∷ drop (n + 2 + 1) l = rw e (split l (n + 2) (omega arith)) in
    take-add n 3 l
    ∙ ap (λ (r : List Float). take n l ++ take 3 r)
    (split l n (omega arith) ∙ ap (λ (r : List Float). get_or l n nan ∷ r) (split l (n + 1) (omega arith) ∙ ap (λ (r : List Float). get_or l (n + 1) nan ∷ r) last))

module _ (table : List Float) (t : length table ≡ tap_count) where
  -- the last three, of which the answers ahead have no taps for some
  pub last_three : (s : List Float) (d0 d1 d2 : Float)
      → let s1 = added (take 12 s) (take 12 (drop 36 table)) d0 ++ drop 12 s in
      let s2 = added (take 8 s1) (take 8 (drop 40 table)) d1 ++ drop 8 s1 in
      added (take 4 s2) (take 4 (drop 44 table)) d2 ++ drop 4 s2 ≡ sums_on (drop (factor * 9) table) s (d0 ∷ d1 ∷ d2 ∷ [])
  unfolding sums_on
  last_three s d0 d1 d2 =
      let few : (a b : ℕ) → tap_count ≤ a + b → take b (drop a table) ≡ drop a table = λ a b h. take_all b (drop a table) (simp length-drop (omega arith)) in
      rw (few 36 12 (omega arith), few 40 8 (omega arith), few 44 4 (omega arith), drop-drop factor 36 table, drop-drop factor 40 table)
      (rw (added_part s (drop 36 table) 12 d0 (simp length-drop (omega arith)), added_part (added s (drop 36 table) d0) (drop 40 table) 8 d1 (simp length-drop (omega arith)))
      (added_part (added (added s (drop 36 table) d0) (drop 40 table) d1) (drop 44 table) 4 d2 (simp length-drop (omega arith))))

  module _ (run : List Float) (at : ℕ) (p : at < length run) where
    pub across : (store s s1 s2 s3 : List Float) → length store ≡ remembered → at ≤ 8 → s1 ≡ sums_on table s (take (at + 1) (up_to run at))
        → s2 ≡ sums_on (drop (factor * (at + 1)) table) s1 (take (9 - (at + 1)) store) → s3 ≡ sums_on (drop (factor * 9) table) s2 (get_or store (8 - at) nan ∷ get_or store (9 - at) nan ∷ get_or store (10 - at) nan ∷ [])
        → s3 ≡ sums_on table s (samples_at store run at)
    across store s s1 s2 s3 n q e1 e2 e3 =
        let u = up_to run at in
        let k = up_to_length run at p in
        let a = take (9 - (at + 1)) store in
        let b = get_or store (8 - at) nan ∷ get_or store (9 - at) nan ∷ get_or store (10 - at) nan ∷ [] in
        let m : length a ≡ 9 - (at + 1) = length-take-le (9 - (at + 1)) store (omega arith) in
        let i1 : 9 - (at + 1) ≡ 8 - at = omega arith in
        let i2 : remembered - (at + 1) ≡ 8 - at + 3 = omega arith in
        let i3 : 9 - at ≡ 8 - at + 1 = omega arith in
        let i4 : 10 - at ≡ 8 - at + 2 = omega arith in
        let rest : take (remembered - (at + 1)) store ≡ a ++ b = rw (i2, i1, i3, i4) (three store (8 - at) (omega arith)) in
        let twelve : samples_at store run at ≡ u ++ (a ++ b) = rw (reverse_aux-eq (take (at + 1) run) store, ← rest) (newest_twelve u store (at + 1) k (omega arith)) in
        let j : factor * (at + 1) + factor * (9 - (at + 1)) ≡ factor * 9 = omega arith in
        let f1 : s1 ≡ sums_on table s u = rw (take_all (at + 1) u (omega arith)) at e1 in
        let g = rw (m, drop-drop (factor * (9 - (at + 1))) (factor * (at + 1)) table, j, ← e2) at (sums_append a b (drop (factor * (at + 1)) table) s1) in
        let f3 : s3 ≡ sums_on (drop (factor * (at + 1)) table) s1 (a ++ b) = e3 ∙ g in
        rw (f3, f1, twelve) (rw k at (sums_append u (a ++ b) table s))

    pub within : (s s1 s2 behind : List Float) → remembered ≤ at + 1 → s1 ≡ sums_on table s (take 9 (up_to run at))
        → s2 ≡ sums_on (drop (factor * 9) table) s1 (get_or run (at - 9) nan ∷ get_or run (at - 10) nan ∷ get_or run (at - 11) nan ∷ []) → s2 ≡ sums_on table s (samples_at behind run at)
    within s s1 s2 behind q e1 e2 =
        let u = up_to run at in
        let k = up_to_length run at p in
        let b = get_or run (at - 9) nan ∷ get_or run (at - 10) nan ∷ get_or run (at - 11) nan ∷ [] in
        let m : length (take 9 u) ≡ 9 = length-take-le 9 u (omega arith) in
        let same : (j : ℕ) → j < remembered → get_or run (at - j) nan ≡ get_or u j nan = λ j h. sample_up_to run at p remembered j nan h q ∙ get_or-take remembered u j nan h in
        let three-same : get_or u 9 nan ∷ get_or u 10 nan ∷ get_or u 11 nan ∷ [] ≡ b = rw (same 9 (omega arith), same 10 (omega arith), same 11 (omega arith)) in
        let twelve : samples_at behind run at ≡ take 9 u ++ b = rw (reverse_aux-eq (take (at + 1) run) behind, take-append-le remembered u behind (omega arith), ← three-same) (three u 9 (omega arith)) in
        rw (e2, e1, twelve) (rw m at (sums_append (take 9 u) b table s))

-- ---- one answer: the run from place i back, and what the store holds behind it
module _ (table store run first : List Float) (i : ℕ) (h : i < length run) where
  abbrev zeros : List Float
  zeros = replicate factor Number.zero

  pub one_across : (last : List Float) → i < remembered → first ≡ sums_on table zeros (take (i + 1) (up_to run i)) → last ≡ sums_on (drop (factor * (i + 1)) table) first (take (remembered - (i + 1)) store)
      → last ≡ sums_by table (samples_at store run i)
  unfolding sums_by
  one_across last k e f =
      let xs = up_to run i in
      let ys = take (remembered - (i + 1)) store in
      let n = up_to_length run i h in
      let all : first ≡ sums_on table zeros xs = e ∙ ap (sums_on table zeros) (take_all (i + 1) xs (omega (arith, n))) in
      let joint : xs ++ ys ≡ samples_at store run i = sym (ap (take remembered) (reverse_aux-eq (take (i + 1) run) store) ∙ newest_twelve xs store (i + 1) n (omega arith)) in
      f ∙ ap (λ (l : List Float). sums_on (drop (factor * (i + 1)) table) l ys) all ∙ ap (λ (j : ℕ). sums_on (drop (factor * j) table) (sums_on table zeros xs) ys) (sym n) ∙ sums_append xs ys table zeros ∙ ap (sums_on table zeros) joint

  pub one_within : remembered ≤ i → first ≡ sums_on table zeros (take remembered (up_to run i)) → first ≡ sums_by table (samples_at store run i)
  unfolding sums_by
  one_within k e =
      let n = up_to_length run i h in
      e ∙ ap (sums_on table zeros) (sym (ap (take remembered) (reverse_aux-eq (take (i + 1) run) store) ∙ take-append-le remembered (up_to run i) store (omega (arith, n))))
