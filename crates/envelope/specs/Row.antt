-- The attack row: the latest L floors in a ring of L places, with 1 standing for any before the start.
use Rattle.std.specs.Prelude.{ℕ, zero, suc, ◌+◌, ◌-◌, Bool, true, cond, ◌&&◌, List, [], ◌∷◌, ◌++◌, eqb, ltb, length, get_or, set, Float}
use Rattle.std.specs.Float.{nan}
use Rattle.std.specs.Float.Ieee.{ne}
use Rattle.arithmetic.specs.Number
use Rattle.arithmetic.specs.Number.{one, within}
use Rattle.envelope.specs.declared.row.AttackRow.{AttackRow}

-- n places of the row from `from` on, read downward
abbrev pub down : List Float → ℕ → ℕ → List Float
down row from zero = []
down row from (suc n) = get_or row (from + n) nan ∷ down row from n

-- the floors newest first: those before the position downward, then those from it on, whose lowest is the oldest
abbrev pub newest_first : ℕ → List Float → List Float
newest_first pos row = down row 0 pos ++ down row pos (length row - pos)

-- 1 for a floor other than 1
abbrev pub other_than_one : Float → ℕ
other_than_one f = cond (ne f one) 1 0

-- the tally: the number of floors in the row other than 1
abbrev pub tally_of : List Float → ℕ
tally_of [] = 0
tally_of (f ∷ fs) = other_than_one f + tally_of fs

-- the next position, round at the row's end
abbrev pub next_pos : ℕ → ℕ → ℕ
next_pos l pos = cond (eqb (pos + 1) l) 0 (pos + 1)

-- the position n places on
unfoldable pub pos_after : ℕ → ℕ → ℕ → ℕ
pos_after l pos zero = pos
pos_after l pos (suc n) = pos_after l (next_pos l pos) n

-- the floor replaces the oldest in the row
pub record Rowed : Type 0 where
  pub state : AttackRow
  pub row : List Float

abbrev pub rowed_at : AttackRow → List Float → Rowed
rowed_at s row = record { state = s; row = row }

unfoldable pub pushed : AttackRow → List Float → Float → Rowed
pushed s row floor =
    let next = set row s.pos floor in
    rowed_at (record { pos = next_pos (length row) s.pos; tally = tally_of next }) next

-- each floor within 0 and 1
abbrev pub all_unit : List Float → Bool
all_unit [] = true
all_unit (f ∷ fs) = within Number.zero one f && all_unit fs

-- in order: row within 0 and 1 with a true tally, row position below L
unfoldable pub row_in_order : AttackRow → List Float → Bool
row_in_order s row = all_unit row && (eqb s.tally (tally_of row) && ltb s.pos (length row))
