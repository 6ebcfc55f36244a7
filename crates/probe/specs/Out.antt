-- The place of an answer afterwards: the first float of the reply's values, or what it held. And a phase as a number.
use Rattle.std.specs.Prelude.{ℕ, List, [], ◌∷◌, Option, Some, None, Float}
use Rattle.arithmetic.specs.Reply.{Value, count, float}

abbrev pub value_or : Float → List Value → Float
value_or old [] = old
value_or old (count n ∷ vs) = old
value_or old (float v ∷ vs) = v

-- a phase as a number: 0 to 3, and 4 where there is none
abbrev pub phase_word : Option ℕ → ℕ
phase_word None = 4
phase_word (Some p) = p
