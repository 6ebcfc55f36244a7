-- A gain step keeps the envelope in order, and its gain lies within 0 and 1.
use mathlib.Core.Path.{◌≡◌, refl}
use mathlib.Core.Bool.{Bool, true, false, cond}
use mathlib.Core.List.{List, [], ◌∷◌}
use Prim.Native.Nat.{ℕ, zero, suc, ◌+◌, ◌≤◌, ◌<◌}
use native.Mathlib.Omega.{arith}
use lib.Arith.{lt_of_le-ne}
use lib.Dec.{eqb}
use lib.ListN.{length, set, length-set}
use lib.Ieee.{Float}
use borrow.Author.Tests.{eq-eqb, eqb-true, eqb-false, lt-ltb}
use Rattle.arithmetic.specs.Number
use Rattle.arithmetic.specs.Number.{one, within}
use Rattle.arithmetic.specs.Sanitize.{unit_gain}
use Rattle.arithmetic.proofs.Order.{and-true}
use Rattle.arithmetic.proofs.Within.{gain_within}
use Rattle.keeper.specs.Ring.{Entry, front_of, ring_step, drop_back, drop_front}
use Rattle.keeper.specs.InOrder.{unit_minima}
use Rattle.keeper.specs.Keeper.{Keeping, stepped_of, Ready, entries_of}
use Rattle.keeper.proofs.Step.{ring_after_lem, order_after, order-of}
use Rattle.envelope.specs.Row.{all_unit, tally_of, next_pos, pushed, row_in_order}
use Rattle.envelope.specs.Follow.{followed, moved}
use Rattle.envelope.specs.declared.row.AttackRow.{AttackRow}
use Rattle.envelope.proofs.Tally.{ordered as row-ordered}

-- ---- the floor of a step lies within 0 and 1
front_unit : (e : Entry) (es : List Entry) → unit_minima (e ∷ es) ≡ true → within Number.zero one (front_of e es).minimum ≡ true
front_unit e [] h = (and-true (within Number.zero one e.minimum) true h).0
front_unit e (f ∷ fs) h = front_unit f fs (and-true (within Number.zero one e.minimum) (unit_minima (f ∷ fs)) h).1

units_after : (k : Keeping) (x : Float) → Ready k → unit_minima (ring_step k.keeper.look k.keeper.frame (unit_gain x) (entries_of k)) ≡ true
units_after k x r =
    let a = (stepped_of k x).keeping in
    let o = order-of a.keeper.look a.keeper.head a.keeper.len a.keeper.frame a.marks a.minima (order_after k x r) in
    rw (ring_after_lem k x r) at o.units

pub step_floor_unit : (k : Keeping) (x : Float) → Ready k → within Number.zero one (stepped_of k x).floor ≡ true
unfolding stepped_of
step_floor_unit k x r =
    front_unit (record { mark = k.keeper.frame; minimum = unit_gain x }) (drop_front k.keeper.look k.keeper.frame (drop_back (unit_gain x) (entries_of k))) (units_after k x r)

-- ---- the row after a floor is in order
unit_set : (row : List Float) (i : ℕ) (f : Float) → all_unit row ≡ true → within Number.zero one f ≡ true → all_unit (set row i f) ≡ true
unit_set [] i f h u = refl
unit_set (x ∷ xs) zero f h u = rw (u, (and-true (within Number.zero one x) (all_unit xs) h).1) refl
unit_set (x ∷ xs) (suc i) f h u =
    let k = and-true (within Number.zero one x) (all_unit xs) h in
    rw (k.0, unit_set xs i f k.1 u) refl

apart : (a b : ℕ) → a ≤ b → (a ≡ b → ⊥) → a < b
apart a b h n = lt_of_le-ne h n

pub next_inside : (l pos : ℕ) → pos < l → next_pos l pos < l
next_inside l pos h = go (eqb (pos + 1) l) refl
  where
    go : (b : Bool) → eqb (pos + 1) l ≡ b → cond b 0 (pos + 1) < l
    go true e = omega (arith, eqb-true (pos + 1) l e)
    go false e = apart (pos + 1) l (omega arith) (eqb-false (pos + 1) l e)

pub pushed_in_order : (s : AttackRow) (row : List Float) (f : Float) → row_in_order s row ≡ true → within Number.zero one f ≡ true → row_in_order (pushed s row f).state (pushed s row f).row ≡ true
unfolding pushed row_in_order
pushed_in_order s row f h u =
    let o = row-ordered s row h in
    let next = set row s.pos f in
    rw (unit_set row s.pos f o.unit u, eq-eqb (tally_of next) (tally_of next) refl, length-set row s.pos f) (lt-ltb (next_pos (length row) s.pos) (length row) (next_inside (length row) s.pos o.place))

-- ---- the gain that is applied lies within 0 and 1
pub gain_unit : (gain mean coeff : Float) → within Number.zero one (followed gain mean coeff) ≡ true
unfolding followed
gain_unit gain mean coeff = gain_within (moved (unit_gain gain) mean coeff)
