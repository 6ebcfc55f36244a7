-- The tally of a row whose floor at one place is replaced, and of a row read in another order.
use mathlib.Core.Path.{◌≡◌, refl, sym, ap, ◌∙◌}
use mathlib.Core.Bool.{Bool, true, false, cond, not, ◌&&◌}
use mathlib.Core.List.{List, [], ◌∷◌, ◌++◌}
use Prim.Native.Nat.{ℕ, zero, suc, ◌+◌, ◌-◌, ◌≤◌, ◌<◌}
use native.Mathlib.Nat.{zero-add}
use native.Mathlib.Omega.{arith}
use lib.ListN.{length, get_or, set, take, drop, take-append-drop, length-drop, length-set}
use lib.Seq.{take-suc, take_all, get_or-drop}
use lib.Dec.{eqb, ltb}
use lib.Ieee.{Float, nan, eq, ne}
use borrow.Author.Tests.{eqb-true, ltb-true, ne_eqb}
use Rattle.arithmetic.specs.Number.{one}
use Rattle.arithmetic.proofs.Order.{and-true}
use Rattle.envelope.specs.declared.row.AttackRow.{AttackRow}
use Rattle.envelope.specs.Row.{other_than_one, tally_of, down, newest_first, all_unit, row_in_order, next_pos, rowed_at, pushed}
use Rattle.envelope.specs.Mean.{is_all_one}

pub replaced : (row : List Float) (i : ℕ) (f : Float) → i < length row → tally_of (set row i f) + other_than_one (get_or row i nan) ≡ tally_of row + other_than_one f
replaced [] i f h = absurd (omega arith)
replaced (x ∷ xs) zero f h = omega arith
replaced (x ∷ xs) (suc i) f h = let k = replaced xs i f (omega arith) in omega arith

pub tally_append : (xs ys : List Float) → tally_of (xs ++ ys) ≡ tally_of xs + tally_of ys
tally_append [] ys = omega arith
tally_append (x ∷ xs) ys = let k = tally_append xs ys in omega arith

-- n places read downward, and upward
tally_down : (row : List Float) (from n : ℕ) → from + n ≤ length row → tally_of (down row from n) ≡ tally_of (take n (drop from row))
tally_down row from zero h = refl
tally_down row from (suc n) h =
    let k = tally_down row from n (omega arith) in
    let l : n < length (drop from row) = simp length-drop (omega arith) in
    let a = tally_append (take n (drop from row)) (get_or row (from + n) nan ∷ []) in
    rw (take-suc (drop from row) n nan l, get_or-drop from row n nan) (omega arith)

pub tally_newest : (row : List Float) (pos : ℕ) → pos ≤ length row → tally_of (newest_first pos row) ≡ tally_of row
tally_newest row pos h =
    tally_append (down row 0 pos) (down row pos (length row - pos))
    ∙ rw (tally_down row 0 pos (omega arith), tally_down row pos (length row - pos) (omega arith), take_all (length row - pos) (drop pos row) (simp length-drop (omega arith)))
    (sym (tally_append (take pos row) (drop pos row)) ∙ ap tally_of (take-append-drop pos row))

-- all are 1.0 exactly where the tally is 0
none_counted : (b : Bool) (fs : List Float) → is_all_one fs ≡ eqb (tally_of fs) 0 → (b && is_all_one fs) ≡ eqb (cond (not b) 1 0 + tally_of fs) 0
none_counted true fs e = e ∙ ap (λ (n : ℕ). eqb n 0) (sym (zero-add (tally_of fs)))
none_counted false fs e = sym (ne_eqb (1 + tally_of fs) 0 (λ z. absurd (omega arith)))

pub all_one : (floors : List Float) → is_all_one floors ≡ eqb (tally_of floors) 0
unfolding ne
all_one [] = refl
all_one (f ∷ fs) = none_counted (eq f one) fs (all_one fs)

-- what "in order" says of a row
pub record Ordered (s : AttackRow) (row : List Float) : Type 0 where
  pub unit : all_unit row ≡ true
  pub true_tally : s.tally ≡ tally_of row
  pub place : s.pos < length row

pub ordered : (s : AttackRow) (row : List Float) → row_in_order s row ≡ true → Ordered s row
unfolding row_in_order
ordered s row h =
    let a = and-true (all_unit row) (eqb s.tally (tally_of row) && ltb s.pos (length row)) h in
    let b = and-true (eqb s.tally (tally_of row)) (ltb s.pos (length row)) a.1 in
    record { unit = a.0; true_tally = eqb-true s.tally (tally_of row) b.0; place = ltb-true s.pos (length row) b.1 }

pub placed : (s : AttackRow) (row : List Float) → row_in_order s row ≡ true → s.pos < length row
placed s row h = (ordered s row h).place

-- a row's own floor is counted in its tally, which its length bounds
pub counted : (row : List Float) (i : ℕ) → i < length row → other_than_one (get_or row i nan) ≤ tally_of row
counted [] i h = absurd (omega arith)
counted (x ∷ xs) zero h = omega arith
counted (x ∷ xs) (suc i) h = let k = counted xs i (omega arith) in omega arith

pub one_more : (f : Float) → other_than_one f ≤ 1
one_more f = go (ne f one)
  where
    go : (b : Bool) → cond b 1 0 ≤ 1
    go true = omega arith
    go false = omega arith

pub bounded : (row : List Float) → tally_of row ≤ length row
bounded [] = omega arith
bounded (x ∷ xs) = let k = bounded xs in omega (arith, one_more x)

-- the row after a floor, from what the code finds
pub pushed_is : (s : AttackRow) (row : List Float) (floor : Float) (old new next : ℕ) → Ordered s row → old ≡ other_than_one (get_or row s.pos nan) → new ≡ other_than_one floor
    → next ≡ next_pos (length (set row s.pos floor)) s.pos
    → rowed_at (record { pos = next; tally = s.tally - old + new }) (set row s.pos floor) ≡ pushed s row floor
unfolding pushed
pushed_is s row floor old new next o p q r =
    let t : s.tally - old + new ≡ tally_of (set row s.pos floor) =
    let k = replaced row s.pos floor o.place in
    let l = counted row s.pos o.place in
    omega (arith, o.true_tally)
    in
    rw (t, r, length-set row s.pos floor) refl
