-- What `floors` has to tell, with no ring in it: the floor as a plain scan of the gains so far, and drops and entries kept as the public step replies them.
-- `TrueText` says that the text of every input is that (proved: `true_text`, proofs/TrueText.antt).
use Rattle.std.specs.Prelude.{◌≡◌, ℕ, Some, ◌+◌, ◌≤◌, ◌<◌, List, [], ◌∷◌, ◌++◌, map, reverse, length, get_or, Float}
use Rattle.arithmetic.specs.Sanitize.{unit_gain}
use Rattle.arithmetic.specs.Reply.{Reply, Value, finished, count, float}
use Rattle.keeper.specs.InOrder.{most_frames}
use Rattle.keeper.specs.Keeper.{setup_of, step_of}
use Rattle.keeper.specs.Floor.{floor_of}
use Rattle.keeper.specs.History.{keeping_after, drops_in, drops_since}
use Rattle.floors_text.specs.Print.{frame_line, refusal_line}
use Rattle.floors_text.specs.Lines.{lines_of, look_of, gain_of}
use Rattle.floors_text.specs.Text.{opened, or_else, gains_in, gains_left, text_of}

-- Of a frame: `before` are the gains before it, NEWEST FIRST, and x is its own.
-- the floor: the least of the latest look + 1 gains, each brought within 0 and 1 as a step does
abbrev pub floor_at : ℕ → List Float → Float → Float
floor_at look before x = floor_of look (unit_gain x) (map unit_gain before)

-- what the public step replies to x, after the public steps before it, from a setup at the look on
abbrev pub reply_at : ℕ → List Float → Float → Reply
reply_at look before x = (step_of (keeping_after (opened look) before) x).reply

-- the entries kept, the third value of a step's reply
abbrev pub count_in : Value → ℕ
count_in (count n) = n
count_in (float f) = 0

abbrev pub kept_told : List Value → ℕ
kept_told values = count_in (get_or values 2 (count 0))

-- its line: the frame's number from 0; the floor; the drops by this step; the entries kept
abbrev pub true_line : ℕ → List Float → Float → List ℕ
true_line look before x = let values = (reply_at look before x).values in frame_line (length before) (floor_at look before x) (drops_in values) (kept_told values)

-- a line for each gain, in their order
abbrev pub true_lines : ℕ → List Float → List Float → List ℕ
true_lines look before [] = []
true_lines look before (x ∷ xs) = true_line look before x ++ true_lines look (x ∷ before) xs

-- the refusal of the first malformed line, where there is one; the lines count from a number on
abbrev pub refusal_in : ℕ → List (List ℕ) → List ℕ
refusal_in number [] = []
refusal_in number (line ∷ lines) = or_else (gain_of line) (refusal_line number) (λ b. refusal_in (number + 1) lines)

pub record TrueText : Type 0 where
  -- a first line with a look, and any lines after it: a true line for each gain before the first malformed one, and then its refusal
  pub text : (input line : List ℕ) (lines : List (List ℕ)) (look : ℕ) → length input ≤ 60000 → lines_of input ≡ line ∷ lines → look_of line ≡ Some look
      → text_of input ≡ true_lines look [] (gains_in lines) ++ refusal_in 2 lines
  -- at every look, and after any gains: the step is finished, and replies the three numbers of the line
  pub replied : (look : ℕ) → 11 ≤ look → look ≤ 4096 → (before : List Float) (x : Float) → length before < most_frames
      → reply_at look before x ≡ finished (float (floor_at look before x) ∷ count (drops_in (reply_at look before x).values) ∷ count (kept_told (reply_at look before x).values) ∷ [])
  -- the drops that the lines tell so far, this one's too, and the entries kept are the frames so far
  pub balanced : (look : ℕ) → 11 ≤ look → look ≤ 4096 → (before : List Float) (x : Float) → length before < most_frames
      → drops_since (opened look) (x ∷ before) + kept_told (reply_at look before x).values ≡ length before + 1
  -- the keeper that the text starts with is what a setup leaves of any stores of the right length
  pub start : (look : ℕ) → 11 ≤ look → look ≤ 4096 → (marks : List ℕ) (minima : List Float) → length marks ≡ look + 1 → length minima ≡ look + 1
      → setup_of look marks minima ≡ record { reply = finished []; keeping = opened look }
  -- and keeper and stores after the lines are those that the public steps leave
  pub left : (look : ℕ) → 11 ≤ look → look ≤ 4096 → (lines : List (List ℕ)) → length lines ≤ most_frames → gains_left (opened look) lines ≡ keeping_after (opened look) (reverse (gains_in lines))
