-- The floor keeper's state as words, and what its calls leave.
use Rattle.std.specs.Prelude.{ℕ, List, [], ◌∷◌, map, get_or, Float}
use Rattle.arithmetic.specs.Reply.{Value, count, float}
use Rattle.keeper.specs.Keeper.{KeeperLeft}
use Rattle.keeper.specs.declared.FloorKeeper.{FloorKeeper}
use Rattle.probe.specs.Out.{value_or}

-- look, head, len and frame
abbrev pub words_of : FloorKeeper → List ℕ
words_of k = k.look ∷ k.head ∷ k.len ∷ k.frame ∷ []

abbrev pub keeper_of : List ℕ → FloorKeeper
keeper_of ws = record { look = get_or ws 0 0; head = get_or ws 1 0; len = get_or ws 2 0; frame = get_or ws 3 0 }

-- what a call leaves: its number, the state's words and both stores
pub record Left : Type 0 where
  pub number : ℕ
  pub state : List ℕ
  pub marks : List ℕ
  pub minima : List Float

abbrev pub left_at : ℕ → List ℕ → List ℕ → List Float → Left
left_at number state marks minima = record { number = number; state = state; marks = marks; minima = minima }

abbrev pub left_by : KeeperLeft → Left
left_by o = left_at o.reply.number (words_of o.keeping.keeper) o.keeping.marks o.keeping.minima

-- the place of the counts afterwards: those of the reply's values, behind the floor, or what it held
abbrev pub count_of : Value → ℕ
count_of (count n) = n
count_of (float v) = 0

abbrev pub counts_or : List ℕ → List Value → List ℕ
counts_or old [] = old
counts_or old (v ∷ vs) = map count_of vs

-- what a step leaves: that, and the places of the floor and the counts
pub record Told : Type 0 where
  pub left : Left
  pub floor : Float
  pub counts : List ℕ

abbrev pub told_at : Left → Float → List ℕ → Told
told_at left floor counts = record { left = left; floor = floor; counts = counts }

abbrev pub told_by : Float → List ℕ → KeeperLeft → Told
told_by floor counts o = told_at (left_by o) (value_or floor o.reply.values) (counts_or counts o.reply.values)
