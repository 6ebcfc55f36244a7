-- A run and, behind it, what a store remembers, as one list with the newest sample first: its answers, and its newest twelve, are those of the single pushes. Then what the calls of a run add up to.
use mathlib.Core.Path.{◌≡◌, refl, sym, ap, ◌∙◌, subst}
use mathlib.Core.List.{List, [], ◌∷◌, ◌++◌, map, reverse, reverse_aux, reverse_aux-eq, append-nil}
use Prim.Native.Nat.{ℕ, zero, suc, ◌+◌, ◌-◌, ◌*◌, ◌<◌, ◌≤◌}
use native.Mathlib.Nat.{sub-zero}
use native.Mathlib.Numerals.{add-one}
use native.Mathlib.Omega.{arith}
use lib.ListN.{length, get_or, take, drop, set, length-map, length-reverse, drop_of_length-le, get_or-map}
use lib.Seq.{take-suc, take_all, take-append-le, take-append-add, drop_at, length-take-le, get_or-take}
use lib.Ieee.{Float, nan}
use borrow.Author.Tests.{eq-eqb, ne_eqb, le-leb, lt-leb}
use Rattle.arithmetic.specs.Sanitize.{finite_or_zero}
use Rattle.arithmetic.proofs.InTurn.{reversed_at}
use Rattle.detector.specs.Oversample.{remembered, shifted, sums_of, largest_of, Pushed, detected, peak_abs_of}
use Rattle.detector.specs.Run.{run_length, pushes_at, push_first, pushes_of, peaks_abs_of}
use Rattle.detector.specs.History.{latest}
use Rattle.detector.specs.Sums.{factor, added, sums_on, up_to, samples_at, answers_of}
use Rattle.detector.proofs.Store.{push_shifts, stores_length, latest_more}
use Rattle.arithmetic.proofs.Copy.{copied_more}
use Rattle.detector.proofs.Turns.{joined, front_more}
use Rattle.detector.proofs.Sums.{sums_more}

-- ---- a run laid down, the oldest first or the newest first
module _ (run l : List Float) (i : ℕ) (v : Float) (q : i < length run) where
  pub laid_more : i < length l → v ≡ finite_or_zero (get_or run i nan) → take i l ≡ take i (map finite_or_zero run) → take (i + 1) (set l i v) ≡ take (i + 1) (map finite_or_zero run)
  laid_more p e h =
      rw (e ∙ sym (get_or-map finite_or_zero run i nan)) (copied_more l (map finite_or_zero run) i (finite_or_zero nan) p (omega (arith, length-map run finite_or_zero)) h)

  pub newest_more : (to : List Float) → i < length to → v ≡ finite_or_zero (get_or run (length run - 1 - i) nan) → l ≡ joined (reverse (map finite_or_zero run)) to i
      → set l i v ≡ joined (reverse (map finite_or_zero run)) to (i + 1)
  newest_more to p e h =
      let m = map finite_or_zero run in
      let n = length-map run finite_or_zero in
      front_more (reverse m) to l i (finite_or_zero nan) p h v (omega (arith, n, length-reverse m))
      (e ∙ sym (get_or-map finite_or_zero run (length run - 1 - i) nan) ∙ sym (reversed_at m [] (length run - 1 - i) i (finite_or_zero nan) (omega arith)))

-- the newest twelve, where n samples stand before a store
pub newest_twelve : (r store : List Float) (n : ℕ) → length r ≡ n → n ≤ remembered → take remembered (r ++ store) ≡ r ++ take (remembered - n) store
newest_twelve r store n e h =
    let k : remembered ≡ length r + (remembered - n) = omega arith in
    subst (λ (j : ℕ). take j (r ++ store) ≡ r ++ take (remembered - n) store) (sym k) (take-append-add r store (remembered - n))

-- ---- samples of a run and of a store
module _ (run : List Float) (i : ℕ) (p : i < length run) where
  pub up_to_length : length (up_to run i) ≡ i + 1
  up_to_length = length-reverse (take (i + 1) run) ∙ length-take-le (i + 1) run (omega arith)

  pub part_up_to : (m : ℕ) → m ≤ i + 1 → length (take m (up_to run i)) ≡ m
  part_up_to m h = length-take-le m (up_to run i) (omega (arith, up_to_length))

  pub sample_up_to : (m k : ℕ) (d : Float) → k < m → m ≤ i + 1 → get_or run (i - k) d ≡ get_or (take m (up_to run i)) k d
  sample_up_to m k d h q =
      let n = length-take-le (i + 1) run (omega arith) in
      sym (get_or-take m (up_to run i) k d h ∙ reversed_at (take (i + 1) run) [] (i - k) k d (omega arith) ∙ get_or-take (i + 1) run (i - k) d (omega arith))

-- the store's samples, where m newer ones came before them
module _ (store : List Float) (m end : ℕ) (n : end - m ≤ length store) where
  pub part_length : length (take (end - m) store) ≡ end - m
  part_length = length-take-le (end - m) store n

  pub store_more : (table sums next : List Float) (w k : ℕ) (d : Float) → length sums ≤ w → m ≤ k → k < end → next ≡ added sums (take w (drop (factor * k) table)) (get_or store (k - m) d)
      → sums_on (drop (factor * (k + 1)) table) next (drop (k + 1 - m) (take (end - m) store)) ≡ sums_on (drop (factor * k) table) sums (drop (k - m) (take (end - m) store))
  store_more table sums next w k d q h p e =
      let j : k + 1 - m ≡ k - m + 1 = omega arith in
      rw j (sums_more table sums next (take (end - m) store) w k (k - m) (get_or store (k - m) d) d q (omega (arith, part_length)) (sym (get_or-take (end - m) store (k - m) d (omega arith))) e)

-- ---- the answers of a run
module _ (sums : List Float → List Float) where
  pub answers_length : (behind run : List Float) → length (answers_of sums behind run) ≡ length run
  unfolding answers_of
  answers_length behind [] = refl
  answers_length behind (x ∷ xs) = ap suc (answers_length (x ∷ behind) xs)

  answers_at : (behind run : List Float) (i : ℕ) (d : Float) → i < length run → largest_of (sums (take remembered (reverse_aux (take (suc i) run) behind))) ≡ get_or (answers_of sums behind run) i d
  unfolding answers_of
  answers_at behind [] i d h = absurd (omega arith)
  answers_at behind (x ∷ xs) zero d h = refl
  answers_at behind (x ∷ xs) (suc i) d h = answers_at (x ∷ behind) xs i d (omega arith)

  answers_first : (behind run : List Float) (m : ℕ) → answers_of sums behind (take m run) ≡ take m (answers_of sums behind run)
  unfolding answers_of
  answers_first behind run zero = refl
  answers_first behind [] (suc m) = refl
  answers_first behind (x ∷ xs) (suc m) = ap (λ (l : List Float). largest_of (sums (take remembered (x ∷ behind))) ∷ l) (answers_first (x ∷ behind) xs m)

  -- what `answer_fours` leaves of the part of a run that it is lent
  pub first_answers : (behind run l : List Float) (m : ℕ) → m ≤ length run → take (length (take (m - 0) run)) l ≡ answers_of sums behind (take (m - 0) run) → take m l ≡ take m (answers_of sums behind run)
  first_answers behind run l m h e = (rw (sub-zero m, length-take-le m run h) at e) ∙ answers_first behind run m

  -- an answer a turn
  pub answer_more : (behind run l : List Float) (i : ℕ) (v : Float) → i < length run → i < length l → take i l ≡ take i (answers_of sums behind run)
      → v ≡ largest_of (sums (take remembered (reverse_aux (take (i + 1) run) behind))) → take (i + 1) (set l i v) ≡ take (i + 1) (answers_of sums behind run)
  answer_more behind run l i v p q h e =
      let a = answers_of sums behind run in
      let w : v ≡ get_or a i nan = rw (e, add-one i) (answers_at behind run i nan p) in
      rw w (copied_more l a i nan q (omega (arith, answers_length behind run)) h)

-- two ways of summing that agree on twelve samples
pub answers_same : (f g : List Float → List Float) → ((l : List Float) → length l ≡ remembered → f l ≡ g l) → (behind run : List Float) → remembered ≤ length behind
    → answers_of f behind run ≡ answers_of g behind run
unfolding answers_of
answers_same f g e behind [] h = refl
answers_same f g e behind (x ∷ xs) h =
    rw (e (take remembered (x ∷ behind)) (length-take-le remembered (x ∷ behind) (omega arith)))
    (ap (λ (l : List Float). largest_of (g (take remembered (x ∷ behind))) ∷ l) (answers_same f g e (x ∷ behind) xs (omega arith)))

-- ---- the single pushes
module _ (phases : List (List Float)) where
  pushes_behind : (run behind : List Float) → remembered ≤ length behind
      → pushes_of phases (take remembered behind) run ≡ pushes_at (answers_of (sums_of phases) behind (map finite_or_zero run)) (take remembered (reverse_aux (map finite_or_zero run) behind))
  unfolding pushes_of answers_of detected latest
  pushes_behind [] behind h = refl
  pushes_behind (x ∷ xs) behind h =
      rw (push_shifts phases (take remembered behind) x (length-take-le remembered behind h), latest_more behind [] x, pushes_behind xs (finite_or_zero x ∷ behind) (omega arith))

  pushes_line : (run store : List Float) → length store ≡ remembered
      → pushes_of phases store run ≡ pushes_at (answers_of (sums_of phases) store (map finite_or_zero run)) (take remembered (reverse_aux (map finite_or_zero run) store))
  pushes_line run store n =
      ap (λ (s : List Float). pushes_of phases s run) (sym (take_all remembered store (omega arith))) ∙ pushes_behind run store (omega arith)

  -- what `lay_newest` leaves: of a run of twelve or more, or of a shorter one after `shift_by`
  module _ (store run : List Float) (n : length store ≡ remembered) where
    abbrev newest : List Float
    newest = reverse (map finite_or_zero run)

    newest_length : length newest ≡ length run
    newest_length = length-reverse (map finite_or_zero run) ∙ length-map run finite_or_zero

    pub remembers_run : (left : List Float) → remembered ≤ length run → left ≡ joined newest store remembered → left ≡ (pushes_of phases store run).store
    remembers_run left h e =
        rw (e, pushes_line run store n, reverse_aux-eq (map finite_or_zero run) store, take-append-le remembered newest store (omega (arith, newest_length)), drop_of_length-le store {i = remembered} (omega arith))
        (append-nil (take remembered newest))

    pub remembers_both : (moved left : List Float) → length run ≤ remembered → moved ≡ take (length run) store ++ take (remembered - length run) store → left ≡ joined newest moved (length run)
        → left ≡ (pushes_of phases store run).store
    remembers_both moved left h e f =
        let k = length run in
        rw (f, e, pushes_line run store n, reverse_aux-eq (map finite_or_zero run) store, newest_twelve newest store k newest_length h, take_all k newest (omega (arith, newest_length)), drop_at (take k store) (take (remembered - k) store) k (length-take-le k store (omega arith)))

  -- what the calls of a run add up to
  pub ran : (store run answers left : List Float) → answers ≡ (pushes_of phases store run).peaks → left ≡ (pushes_of phases store run).store → pushes_at answers left ≡ pushes_of phases store run
  ran store run answers left f g = rw (f, g)

  -- the answers, from the line of sanitized samples
  pub answers_are : (store run line answers : List Float) → length store ≡ remembered → line ≡ map finite_or_zero run → answers ≡ answers_of (sums_of phases) store line → answers ≡ (pushes_of phases store run).peaks
  answers_are store run line answers n e f = f ∙ rw (e, pushes_line run store n)

  -- one push after others
  push_last : (xs store : List Float) (x : Float)
      → pushes_of phases store (xs ++ (x ∷ []))
      ≡ pushes_at ((pushes_of phases store xs).peaks ++ ((peak_abs_of phases (pushes_of phases store xs).store x).peak ∷ [])) (peak_abs_of phases (pushes_of phases store xs).store x).store
  unfolding pushes_of
  push_last [] store x = refl
  push_last (y ∷ ys) store x = ap (push_first (peak_abs_of phases store y)) (push_last ys (peak_abs_of phases store y).store x)

  pub store_after : (store run : List Float) (i : ℕ) (d : Float) → i < length run → (pushes_of phases store (take (i + 1) run)).store ≡ (peak_abs_of phases (pushes_of phases store (take i run)).store (get_or run i d)).store
  store_after store run i d h = rw (add-one i, take-suc run i d h, push_last (take i run) store (get_or run i d))

  first_mapped_lem : (n : ℕ) (l : List Float) → map finite_or_zero (take n l) ≡ take n (map finite_or_zero l)
  first_mapped_lem zero l = refl
  first_mapped_lem (suc n) [] = refl
  first_mapped_lem (suc n) (x ∷ xs) = ap (λ (l : List Float). finite_or_zero x ∷ l) (first_mapped_lem n xs)

  -- the answer at place i of the line is that of a push onto what the samples before it left
  pub answer_there : (store run line : List Float) (i : ℕ) → length store ≡ remembered → i < length run → line ≡ map finite_or_zero run
      → peak_abs_of phases (pushes_of phases store (take i run)).store (get_or run i nan) ≡ detected phases (samples_at store line i)
  unfolding detected
  answer_there store run line i n h e =
      let s = (pushes_of phases store (take i run)).store in
      let x = get_or run i nan in
      let p = push_shifts phases s x (stores_length phases store (take i run) ∙ n) in
      let left : shifted s x ≡ samples_at store line i =
      ap (λ (o : Pushed). o.store) (sym p) ∙ sym (store_after store run i nan h) ∙ rw (pushes_line (take (i + 1) run) store n, e) (ap (λ (l : List Float). take remembered (reverse_aux l store)) (first_mapped_lem (i + 1) run)) in
      p ∙ ap (detected phases) left

  module _ (store run old : List Float) where
    -- where a test fails, answers and store stay
    pub run_alone : run_length < length run → pushes_at old store ≡ peaks_abs_of phases store run old
    unfolding peaks_abs_of
    run_alone p = rw (lt-leb (length run) run_length p)

    pub store_alone : length run ≤ run_length → (length store ≡ remembered → ⊥) → pushes_at old store ≡ peaks_abs_of phases store run old
    unfolding peaks_abs_of
    store_alone p n = rw (le-leb (length run) run_length p, ne_eqb (length store) remembered n)

    pub answers_alone : length run ≤ run_length → length store ≡ remembered → (length old ≡ length run → ⊥) → pushes_at old store ≡ peaks_abs_of phases store run old
    unfolding peaks_abs_of
    answers_alone p n m = rw (le-leb (length run) run_length p, eq-eqb (length store) remembered n, ne_eqb (length old) (length run) m)
