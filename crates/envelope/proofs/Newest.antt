-- A floor that is pushed comes first, and the row newest first goes on as it was, without its oldest: whatever the ring's position.
use mathlib.Core.Path.{◌≡◌, refl, sym, ap, ◌∙◌}
use mathlib.Core.Bool.{Bool, true, false, cond}
use mathlib.Core.List.{List, ◌∷◌, ◌++◌}
use Prim.Native.Nat.{ℕ, zero, suc, ◌+◌, ◌-◌, ◌<◌}
use native.Mathlib.Omega.{arith}
use lib.Dec.{eqb}
use lib.ListN.{length, set, take, length-set}
use lib.Seq.{take-append-le, take-append-add, take_all, get_or-set_same, get_or-set_other}
use lib.Ieee.{Float, nan}
use borrow.Author.Tests.{eqb-true}
use Rattle.envelope.specs.Row.{down, newest_first, pushed}
use Rattle.envelope.specs.declared.row.AttackRow.{AttackRow}
use Rattle.envelope.proofs.Weighted.{length_down}

-- places that the store does not touch
down_set : (row : List Float) (i : ℕ) (f : Float) (from n : ℕ) → ((k : ℕ) → k < n → from + k ≡ i → ⊥) → down (set row i f) from n ≡ down row from n
down_set row i f from zero h = refl
down_set row i f from (suc n) h =
    rw (get_or-set_other row i (from + n) f nan (h n (omega arith)), down_set row i f from n (λ k l e. h k (omega arith) e)) refl

-- without the lowest place
pub down_take : (row : List Float) (from n : ℕ) → take n (down row from (suc n)) ≡ down row (suc from) n
down_take row from zero = refl
down_take row from (suc n) =
    let e : from + suc n ≡ suc from + n = omega arith in
    rw (down_take row from n, e) refl

module _ (row : List Float) (pos : ℕ) (f : Float) (h : pos < length row) where
  -- what lies before the position, with the floor in front of it
  front : down (set row pos f) 0 (suc pos) ≡ f ∷ down row 0 pos
  front =
      let e : 0 + pos ≡ pos = omega arith in
      rw (e, get_or-set_same row pos f nan h, down_set row pos f 0 pos (λ k l q. omega arith)) refl

  before : (n : ℕ) → pos ≡ n → take n (newest_first pos row) ≡ down row 0 pos
  before n e =
      let d = length_down row 0 pos in
      take-append-le n (down row 0 pos) (down row pos (length row - pos)) (omega arith) ∙ take_all n (down row 0 pos) (omega arith)

  behind : (n : ℕ) → pos + suc n ≡ length row → take (length row - 1) (newest_first pos row) ≡ down row 0 pos ++ down row (suc pos) n
  behind n e =
      let d = length_down row 0 pos in
      let k : length row - 1 ≡ length (down row 0 pos) + n = omega arith in
      let m : length row - pos ≡ suc n = omega arith in
      rw (k, m) (take-append-add (down row 0 pos) (down row pos (suc n)) n) ∙ ap (λ (r : List Float). down row 0 pos ++ r) (down_take row pos n)

  around : suc pos ≡ length row → newest_first 0 (set row pos f) ≡ f ∷ take (length row - 1) (newest_first pos row)
  around e =
      let l = length-set row pos f in
      let k : length (set row pos f) - 0 ≡ suc pos = omega arith in
      rw (k, front, before (length row - 1) (omega arith)) refl

  onward : (n : ℕ) → pos + suc n ≡ length row → newest_first (suc pos) (set row pos f) ≡ f ∷ take (length row - 1) (newest_first pos row)
  onward n e =
      let l = length-set row pos f in
      let k : length (set row pos f) - suc pos ≡ n = omega arith in
      let rest = down (set row pos f) (suc pos) in
      ap (λ (r : List Float). r ++ rest (length (set row pos f) - suc pos)) front
      ∙ ap (λ (m : ℕ). (f ∷ down row 0 pos) ++ rest m) k
      ∙ ap (λ (r : List Float). f ∷ (down row 0 pos ++ r)) (down_set row pos f (suc pos) n (λ i q r. omega arith))
      ∙ ap (λ (r : List Float). f ∷ r) (sym (behind n e))

pub newest_pushed : (s : AttackRow) (row : List Float) (f : Float) → s.pos < length row
    → newest_first (pushed s row f).state.pos (pushed s row f).row ≡ f ∷ take (length row - 1) (newest_first s.pos row)
unfolding pushed
newest_pushed s row f h = go (eqb (s.pos + 1) (length row)) refl
  where
    go : (b : Bool) → eqb (s.pos + 1) (length row) ≡ b → newest_first (cond b 0 (s.pos + 1)) (set row s.pos f) ≡ f ∷ take (length row - 1) (newest_first s.pos row)
    go true e = around row s.pos f h (omega (arith, eqb-true (s.pos + 1) (length row) e))
    go false e =
        let n : s.pos + suc (length row - s.pos - 1) ≡ length row = omega arith in
        let k : s.pos + 1 ≡ suc s.pos = omega arith in
        rw k (onward row s.pos f h (length row - s.pos - 1) n)
