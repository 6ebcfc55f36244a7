-- The whole text of `floors`, from the bytes of its input.
use Rattle.std.specs.Prelude.{ℕ, Option, Some, None, ◌+◌, cond, List, [], ◌∷◌, ◌++◌, leb, length, replicate, Float}
use Rattle.arithmetic.specs.Number
use Rattle.arithmetic.specs.Number.{bits}
use Rattle.keeper.specs.Keeper.{Keeping, keeping_at, fresh_keeper, stepped_of}
use Rattle.floors_text.specs.Print.{frame_line, refusal_line}
use Rattle.floors_text.specs.Lines.{lines_of, look_of, gain_of}

-- the floor keeper as a setup at a look leaves it
abbrev pub opened : ℕ → Keeping
opened look = keeping_at (fresh_keeper look) (replicate (look + 1) 0) (replicate (look + 1) Number.zero)

-- the line that a gain step writes
abbrev pub frame_text : Keeping → Float → List ℕ
frame_text k gain = let s = stepped_of k gain in frame_line k.keeper.frame s.floor s.dropped s.keeping.keeper.len

-- what the number of a line gives; a malformed line stops there (the text with its refusal)
abbrev pub or_else : {A : Type 0} → Option ℕ → A → (ℕ → A) → A
or_else None stop more = stop
or_else (Some n) stop more = more n

-- the lines from a number on: each a gain, which the keeper takes
unfoldable pub gain_text : Keeping → ℕ → List (List ℕ) → List ℕ
gain_text k number [] = []
gain_text k number (line ∷ lines) =
    or_else (gain_of line) (refusal_line number) (λ b. frame_text k (bits b) ++ gain_text (stepped_of k (bits b)).keeping (number + 1) lines)

-- the gains of the lines before the first malformed one, in the order of the lines
abbrev pub gains_in : List (List ℕ) → List Float
gains_in [] = []
gains_in (line ∷ lines) = or_else (gain_of line) [] (λ b. bits b ∷ gains_in lines)

-- keeper and stores after steps with gains, the first gain first
abbrev pub kept_after : Keeping → List Float → Keeping
kept_after k [] = k
kept_after k (x ∷ xs) = kept_after (stepped_of k x).keeping xs

-- keeper and stores after the lines up to the first malformed one
unfoldable pub gains_left : Keeping → List (List ℕ) → Keeping
gains_left k lines = kept_after k (gains_in lines)

-- the first line, a look, and those after it
abbrev pub lines_text : List (List ℕ) → List ℕ
lines_text [] = refusal_line 1
lines_text (line ∷ lines) = or_else (look_of line) (refusal_line 1) (λ look. gain_text (opened look) 2 lines)

-- more than 60,000 bytes of input are refused as a whole
unfoldable pub text_of : List ℕ → List ℕ
text_of input = cond (leb (length input) 60000) (lines_text (lines_of input)) (refusal_line 0)

-- a text over the output's bytes: what has no room is left out, and what stands behind the text stays
abbrev pub over : List ℕ → List ℕ → List ℕ
over [] output = output
over (b ∷ text) [] = []
over (b ∷ text) (o ∷ output) = b ∷ over text output

-- what `floors` answers, and its output: the text's length, also where there is no room for all of it, and the text
pub record Written : Type 0 where
  pub count : ℕ
  pub output : List ℕ

abbrev pub written_at : ℕ → List ℕ → Written
written_at r output = record { count = r; output = output }

unfoldable pub floors_of : List ℕ → List ℕ → Written
floors_of input output = record { count = length (text_of input); output = over (text_of input) output }
