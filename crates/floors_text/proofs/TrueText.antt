-- The text tells true floors: the keeper that the text goes on with is the one that public steps leave, and their replies are the floor theorem's (keeper/proofs/Floor.antt).
use mathlib.Core.Path.{◌≡◌, refl, sym, ap, ◌∙◌, subst}
use mathlib.Core.Bool.{Bool, true, false, cond}
use mathlib.Core.List.{List, [], ◌∷◌, ◌++◌, append_assoc, reverse, reverse_aux}
use Prim.Native.Nat.{ℕ, ◌+◌, ◌≤◌, ◌<◌}
use native.Mathlib.Omega.{arith}
use lib.Dec.{eqb}
use lib.ListN.{length, length-replicate}
use lib.Ieee.{Float}
use borrow.Author.Tests.{le-leb, eq-eqb}
use Rattle.arithmetic.specs.Number
use Rattle.arithmetic.specs.Number.{bits}
use Rattle.arithmetic.specs.Reply.{Reply, finished, count, float}
use Rattle.keeper.specs.InOrder.{most_frames}
use Rattle.keeper.specs.Keeper.{Keeping, KeeperLeft, stepped_of, finished_step, step_of}
use Rattle.keeper.specs.History.{keeping_after, drops_in, drops_since, Start}
use Rattle.keeper.proofs.Calls.{step_0}
use Rattle.keeper.proofs.Floor.{floor_true, never_refused, frames_taken, drops_kept}
use Rattle.floors_text.specs.Print.{refusal_line}
use Rattle.floors_text.specs.Lines.{in_front, lines_of, look_of, gain_of}
use Rattle.floors_text.specs.Text.{opened, frame_text, or_else, gain_text, gains_in, kept_after, gains_left, text_of}
use Rattle.floors_text.specs.TrueText.{floor_at, reply_at, kept_told, true_line, true_lines, refusal_in, TrueText}
use Rattle.std.specs.Prelude.{Option, Some, None}
use Rattle.floors_text.proofs.Length.{look_range}
use Rattle.floors_text.proofs.Going.{setup_opened}

module _ (look : ℕ) (least : 11 ≤ look) (most : look ≤ 4096) where
  started : Start (opened look)
  started = record {
    taken = rw (le-leb 11 look least, le-leb look 4096 most) refl;
    fit = rw (length-replicate {A = ℕ} (look + 1) 0, length-replicate (look + 1) Number.zero, eq-eqb (look + 1) (look + 1) refl) refl;
    inside = omega arith;
    no_entry = refl;
    no_frame = refl;
  }

  abbrev kept : List Float → Keeping
  kept before = keeping_after (opened look) before

  module _ (before : List Float) (x : Float) (room : length before < most_frames) where
    frame_is : (kept before).keeper.frame ≡ length before
    frame_is = frames_taken (opened look) started before (omega arith)

    finishes : step_of (kept before) x ≡ finished_step (stepped_of (kept before) x)
    finishes =
        let n = never_refused (opened look) started before in
        sym (step_0 (kept before) x n.0 n.1 n.2 (omega (arith, frame_is)) (stepped_of (kept before) x) refl)

    -- what the step replies, by the floor theorem
    replied : reply_at look before x ≡ finished (float (floor_at look before x) ∷ count (stepped_of (kept before) x).dropped ∷ count (kept (x ∷ before)).keeper.len ∷ [])
    replied = floor_true (opened look) started x before room

    dropped_is : drops_in (reply_at look before x).values ≡ (stepped_of (kept before) x).dropped
    dropped_is = ap (λ (r : Reply). drops_in r.values) replied

    kept-is : kept_told (reply_at look before x).values ≡ (kept (x ∷ before)).keeper.len
    kept-is = ap (λ (r : Reply). kept_told r.values) replied

    goes_on : (stepped_of (kept before) x).keeping ≡ kept (x ∷ before)
    goes_on = sym (ap (λ (o : KeeperLeft). o.keeping) finishes)

    floor_is : (stepped_of (kept before) x).floor ≡ floor_at look before x
    floor_is =
        let e : finished (float (stepped_of (kept before) x).floor ∷ count (stepped_of (kept before) x).dropped ∷ count (stepped_of (kept before) x).keeping.keeper.len ∷ []) ≡ finished (float (floor_at look before x) ∷ count (stepped_of (kept before) x).dropped ∷ count (kept (x ∷ before)).keeper.len ∷ [])
        = sym (ap (λ (o : KeeperLeft). o.reply) finishes) ∙ replied
        in
        let v : float (stepped_of (kept before) x).floor ∷ count (stepped_of (kept before) x).dropped ∷ count (stepped_of (kept before) x).keeping.keeper.len ∷ [] ≡ float (floor_at look before x) ∷ count (stepped_of (kept before) x).dropped ∷ count (kept (x ∷ before)).keeper.len ∷ [] = ap (λ (r : Reply). r.values) e in
        cc

    line-is : frame_text (kept before) x ≡ true_line look before x
    line-is = rw (frame_is, floor_is, dropped_is, kept-is, goes_on) refl

  lines_are : (lines : List (List ℕ)) (before : List Float) (number : ℕ) → length before + length lines ≤ most_frames
      → gain_text (kept before) number lines ≡ true_lines look before (gains_in lines) ++ refusal_in number lines
  unfolding gain_text
  lines_are [] before number h = refl
  lines_are (line ∷ lines) before number h = go (gain_of line) (λ b. lines_are lines (bits b ∷ before) (number + 1) (omega arith))
    where
      go : (f : Option ℕ) → ((b : ℕ) → gain_text (kept (bits b ∷ before)) (number + 1) lines ≡ true_lines look (bits b ∷ before) (gains_in lines) ++ refusal_in (number + 1) lines)
          → or_else f (refusal_line number) (λ b. frame_text (kept before) (bits b) ++ gain_text (stepped_of (kept before) (bits b)).keeping (number + 1) lines)
          ≡ true_lines look before (or_else f [] (λ b. bits b ∷ gains_in lines)) ++ or_else f (refusal_line number) (λ b. refusal_in (number + 1) lines)
      go None rest = refl
      go (Some b) rest =
          let x = bits b in
          ap (λ (t : List ℕ). t ++ gain_text (stepped_of (kept before) x).keeping (number + 1) lines) (line-is before x (omega arith))
          ∙ ap (λ (k : Keeping). true_line look before x ++ gain_text k (number + 1) lines) (goes_on before x (omega arith))
          ∙ ap (λ (t : List ℕ). true_line look before x ++ t) (rest b)
          ∙ sym (append_assoc (true_line look before x) (true_lines look (x ∷ before) (gains_in lines)) (refusal_in (number + 1) lines))

  kept_public : (xs before : List Float) → length before + length xs ≤ most_frames → kept_after (kept before) xs ≡ kept (reverse_aux xs before)
  kept_public [] before h = refl
  kept_public (x ∷ xs) before h = ap (λ (k : Keeping). kept_after k xs) (goes_on before x (omega arith)) ∙ kept_public xs (x ∷ before) (omega arith)

-- each gain has a line
gains_few : (lines : List (List ℕ)) → length (gains_in lines) ≤ length lines
gains_few [] = omega arith
gains_few (line ∷ lines) = go (gain_of line) (gains_few lines)
  where
    go : (f : Option ℕ) → length (gains_in lines) ≤ length lines → length (or_else f [] (λ b. bits b ∷ gains_in lines)) ≤ length (line ∷ lines)
    go None h = omega arith
    go (Some b) h = omega arith

left_is : (look : ℕ) → 11 ≤ look → look ≤ 4096 → (lines : List (List ℕ)) → length lines ≤ most_frames → gains_left (opened look) lines ≡ keeping_after (opened look) (reverse (gains_in lines))
unfolding gains_left
left_is look a b lines h = kept_public look a b (gains_in lines) [] (omega (arith, gains_few lines))

-- each line has a byte at least
front_few : (b : ℕ) (ls : List (List ℕ)) (n : ℕ) → length ls ≤ n → length (in_front b ls) ≤ n + 1
front_few b [] n h = omega arith
front_few b (l ∷ ls) n h = omega arith

lines_few : (s : List ℕ) → length (lines_of s) ≤ length s
lines_few [] = omega arith
lines_few (b ∷ bs) = go (eqb b 10) (lines_few bs)
  where
    go : (t : Bool) → length (lines_of bs) ≤ length bs → length (cond t ((b ∷ []) ∷ lines_of bs) (in_front b (lines_of bs))) ≤ length (b ∷ bs)
    go true h = omega arith
    go false h = omega (arith, front_few b (lines_of bs) (length bs) h)

text_is : (input line : List ℕ) (lines : List (List ℕ)) (look : ℕ) → length input ≤ 60000 → lines_of input ≡ line ∷ lines → look_of line ≡ Some look → text_of input ≡ true_lines look [] (gains_in lines) ++ refusal_in 2 lines
unfolding text_of
text_is input line lines look few e l =
    let r = look_range line look l in
    let n : length (line ∷ lines) ≤ length input = subst (λ (ls : List (List ℕ)). length ls ≤ length input) e (lines_few input) in
    rw (le-leb (length input) 60000 few, e, l) (lines_are look r.0 r.1 lines [] 2 (omega arith))

pub true_text : TrueText
true_text = record {
  text = text_is;
  replied = λ look a b before x h. replied look a b before x h ∙ rw (dropped_is look a b before x h, kept-is look a b before x h) refl;
  balanced = λ look a b before x h.
      ap (λ (n : ℕ). drops_since (opened look) (x ∷ before) + n) (kept-is look a b before x h) ∙ drops_kept (opened look) (started look a b) (x ∷ before) ∙ frames_taken (opened look) (started look a b) (x ∷ before) (omega arith) ∙ omega arith;
  start = λ look a b marks minima. setup_opened look marks minima a b;
  left = left_is;
}
