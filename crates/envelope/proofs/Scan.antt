-- Scans of a list of floors.
use mathlib.Core.Path.{◌≡◌, refl, sym, ap, ◌∙◌}
use mathlib.Core.Bool.{Bool, true, false, ◌&&◌}
use mathlib.Core.List.{List, [], ◌∷◌}
use Prim.Native.Nat.{ℕ}
use native.Mathlib.Omega.{arith}
use lib.Dec.{eqb, ltb}
use lib.ListN.{length}
use lib.Ieee.{Float, nan, inf, fin, eq, le}
use borrow.Author.Tests.{eqb-true, eq-eqb, le-leb}
use Rattle.arithmetic.specs.Number
use Rattle.arithmetic.specs.Number.{one, within}
use Rattle.arithmetic.proofs.Order.{left, right, and-true, clash, eq_is, le_is, eq→le, le_then_le}
use Rattle.arithmetic.proofs.Within.{unit_ends}
use Rattle.std.specs.List.{list_all}
use Rattle.envelope.specs.Row.{all_unit, tally_of, row_in_order}
use Rattle.envelope.specs.Mean.{is_all_one}
use Rattle.envelope.specs.declared.row.AttackRow.{AttackRow}
use Rattle.envelope.proofs.Tally.{all_one}

-- ---- the test of every floor is std's
pub all_one_is : (row : List Float) → list_all (λ (f : Float). eq f one) row ≡ is_all_one row
all_one_is [] = refl
all_one_is (x ∷ xs) = ap (λ (b : Bool). eq x one && b) (all_one_is xs)

-- ---- a row with no floor to count: all are 1.0, and so within 0 and 1
one_unit : (x : Float) → eq x one ≡ true → within Number.zero one x ≡ true
unfolding eq
one_unit nan h = clash false h refl
one_unit (inf s) h = clash false h refl
one_unit (fin s m e) h =
    let x = fin s m e in
    let same = eqb-true (left x one) (right x one) (sym (eq_is x one tt tt) ∙ h) in
    let above : le one x ≡ true = le_is one x tt tt ∙ le-leb (left one x) (right one x) (omega (arith, same)) in
    rw (le_then_le Number.zero one x tt tt tt unit_ends above, eq→le x one h) refl

ones_unit : (row : List Float) → is_all_one row ≡ true → all_unit row ≡ true
ones_unit [] h = refl
ones_unit (x ∷ xs) h =
    let k = and-true (eq x one) (is_all_one xs) h in
    rw (one_unit x k.0, ones_unit xs k.1) refl

none_counted : (row : List Float) → tally_of row ≡ 0 → all_unit row ≡ true
none_counted row h = ones_unit row (all_one row ∙ eq-eqb (tally_of row) 0 h)

pub in_order_uncounted : (s : AttackRow) (row : List Float) (n : ℕ) → n ≡ tally_of row → n ≡ 0 → (eqb s.tally n && ltb s.pos (length row)) ≡ row_in_order s row
unfolding row_in_order
in_order_uncounted s row n e z = rw (none_counted row (sym e ∙ z), e) refl
