-- The text, line by line: what a turn of the loop adds to it, and the keeper with its stores.
use mathlib.Core.Path.{◌≡◌, refl, sym, ap, ◌∙◌}
use mathlib.Core.List.{List, [], ◌∷◌, ◌++◌}
use mathlib.Core.Bool.{true, false}
use lib.Dec.{eqb}
use borrow.Author.Tests.{eqb-true}
use Prim.Native.Nat.{ℕ, zero, suc, ◌+◌, ◌≤◌, ◌<◌}
use native.Mathlib.Omega.{arith}
use lib.ListN.{length, take, drop}
use lib.Seq.{length-take-le}
use Rattle.arithmetic.specs.Number.{bits}
use Rattle.keeper.specs.Keeper.{Keeping, stepped_of}
use Rattle.floors_text.specs.Print.{refusal_line}
use Rattle.floors_text.specs.Lines.{lines_of, first_of, gain_of}
use Rattle.floors_text.specs.Text.{frame_text, gain_text, gains_left}
use Rattle.std.specs.Prelude.{Some, None}
use Rattle.floors_text.proofs.Cuts.{first_length, first_take, first_within, first_some, lines_cut}

-- ---- whether a text is empty, as the code asks
pub text_some : (n : ℕ) → false ≡ eqb n 0 → 0 < n
text_some zero h = absurd (cc)
text_some (suc n) h = omega arith

pub text_none : (n : ℕ) → true ≡ eqb n 0 → n ≡ 0
text_none n h = eqb-true n 0 (sym h)

-- ---- the lines of a text
-- none is left
pub text_done : (text : List ℕ) (k : Keeping) (number : ℕ) → length text ≡ 0 → gain_text k number (lines_of text) ≡ []
unfolding gain_text
text_done [] k number h = refl
text_done (b ∷ bs) k number h = absurd (omega arith)

pub left_done : (text : List ℕ) (k : Keeping) → length text ≡ 0 → gains_left k (lines_of text) ≡ k
unfolding gains_left
left_done [] k h = refl
left_done (b ∷ bs) k h = absurd (omega arith)

-- the first one, and the text behind it, as the code cuts it off
module _ (text : List ℕ) (n : ℕ) (line later : List ℕ) (cut : n ≡ first_length text) (front : line ≡ take n text) (back : later ≡ drop n text) where
  pub first_is : line ≡ first_of (lines_of text)
  first_is = front ∙ ap (λ (m : ℕ). take m text) cut ∙ sym (first_take text)

  pub line_within : n ≤ length text
  line_within = omega (arith, first_within text)

  pub line_sized : length line ≡ n
  line_sized = ap length front ∙ length-take-le n text line_within

  module _ (some : 0 < length text) where
    pub line_some : 0 < n
    line_some = omega (arith, first_some text some)

    lines_on : lines_of text ≡ line ∷ lines_of later
    lines_on = lines_cut text some ∙ rw (first_is, back, cut) refl

    module _ (k : Keeping) (number : ℕ) where
      -- a malformed line
      pub text_stops : gain_of line ≡ None → gain_text k number (lines_of text) ≡ refusal_line number
      unfolding gain_text
      text_stops e = rw (lines_on, e) refl

      pub left_stops : gain_of line ≡ None → gains_left k (lines_of text) ≡ k
      unfolding gains_left
      left_stops e = rw (lines_on, e) refl

      -- a gain
      pub left_more : (b : ℕ) → gain_of line ≡ Some b → gains_left k (lines_of text) ≡ gains_left (stepped_of k (bits b)).keeping (lines_of later)
      unfolding gains_left
      left_more b e = rw (lines_on, e) refl

      pub text-more : (b : ℕ) → gain_of line ≡ Some b → gain_text k number (lines_of text) ≡ frame_text k (bits b) ++ gain_text (stepped_of k (bits b)).keeping (number + 1) (lines_of later)
      unfolding gain_text
      text-more b e = rw (lines_on, e) refl
