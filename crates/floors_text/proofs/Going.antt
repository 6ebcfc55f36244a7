-- The loop over the gain lines: what is done and what is left add up to the whole text, and to the keeper with its stores after all of them.
use mathlib.Core.Path.{◌≡◌, refl, sym, ap, ◌∙◌, subst}
use mathlib.Core.List.{List, [], ◌++◌}
use Prim.Native.Nat.{ℕ, ◌+◌, ◌*◌, ◌≤◌, ◌<◌}
use native.Mathlib.Omega.{arith}
use lib.ListN.{length, take, drop, length-append, length-drop}
use lib.Seq.{sets, length-sets}
use Rattle.std.specs.Prelude.{Result, Ok, Err, IsOk}
use lib.Ieee.{Float}
use borrow.Author.Tests.{le-leb, eq-eqb}
use Rattle.arithmetic.specs.Number.{bits}
use Rattle.arithmetic.specs.Reply.{finished}
use Rattle.keeper.specs.Keeper.{Keeping, keeping_at, KeeperLeft, setup_reply, setup_at, setup_of, stepped_of, Ready}
use Rattle.keeper.specs.declared.FloorKeeper.{FloorKeeper}
use Rattle.keeper.specs.declared.KeeperRefusal.{KeeperRefusal}
use Rattle.floors_text.specs.Print.{refusal_line, Put}
use Rattle.floors_text.specs.Lines.{lines_of, gain_of}
use Rattle.floors_text.specs.Text.{opened, frame_text, gain_text, gains_left}
use Rattle.std.specs.Prelude.{Some, None}
use Rattle.floors_text.proofs.Puts.{put_none, put_then, put_length}
use Rattle.floors_text.proofs.Cuts.{first_length}
use Rattle.floors_text.proofs.Turns.{line_within, line_sized, text_done, text_stops, text-more, left_done, left_stops, left_more}
use Rattle.floors_text.proofs.Length.{Steady, opened_steady, steady_ready, steady_step, stepped_look, stepped_frame, gain_sized, gains_fit}

-- a setup at a look in range, on stores of the right length
pub setup_opened : (look : ℕ) (marks : List ℕ) (minima : List Float) → 11 ≤ look → look ≤ 4096 → length marks ≡ look + 1 → length minima ≡ look + 1 → setup_of look marks minima ≡ record { reply = finished []; keeping = opened look }
unfolding setup_of
setup_opened look marks minima a b c d = rw (le-leb 11 look a, le-leb look 4096 b, eq-eqb (length marks) (look + 1) c, eq-eqb (length minima) (look + 1) d) refl

-- what the code finds of it: a keeper, which with the stores is that of the text
module _ (look : ℕ) (r : Result FloorKeeper KeeperRefusal) (marks : List ℕ) (minima : List Float) (done : setup_at r marks minima ≡ record { reply = finished []; keeping = opened look }) where
  setup_number : (setup_reply r).number ≡ 0
  setup_number = ap (λ (o : KeeperLeft). o.reply.number) done

  pub setup_ok : IsOk r
  setup_ok = go r setup_number
    where
      go : (r : Result FloorKeeper KeeperRefusal) → (setup_reply r).number ≡ 0 → IsOk r
      go (Ok k) h = refl
      go (Err KeeperRefusal.LookOutOfRange) h = absurd (omega arith)
      go (Err KeeperRefusal.StoreLength) h = absurd (omega arith)
      go (Err KeeperRefusal.OutOfOrder) h = absurd (omega arith)
      go (Err KeeperRefusal.FramesSpent) h = absurd (omega arith)

  pub setup_keeper : (k : FloorKeeper) → r ≡ Ok k → keeping_at k marks minima ≡ opened look
  setup_keeper k e = ap (λ (o : KeeperLeft). o.keeping) (ap (λ (q : Result FloorKeeper KeeperRefusal). setup_at q marks minima) (sym e) ∙ done)

-- what holds whenever the loop's test is reached: who puts what is left of the lines behind what is put has put the whole
pub record Going (whole : List ℕ) (look : ℕ) (before : List ℕ) (k : Keeping) (lines : List ℕ) (number : ℕ) (output : List ℕ) (next : ℕ) : Type 0 where
  pub small : length whole ≤ 60000
  pub most : look ≤ 4096
  pub steady : Steady k
  pub same_look : k.keeper.look ≡ look
  pub numbered : number ≡ k.keeper.frame + 2
  pub few : 22 * k.keeper.frame + length lines ≤ length whole
  pub rest : (m : List ℕ) (end : ℕ) → Put output next (gain_text k number (lines_of lines)) m end → Put before 0 (gain_text (opened look) 2 (lines_of whole)) m end
  pub left : gains_left k (lines_of lines) ≡ gains_left (opened look) (lines_of whole)

pub going_start : (whole : List ℕ) (look : ℕ) (before : List ℕ) → length whole ≤ 60000 → look ≤ 4096 → (k : Keeping) → k ≡ opened look → Going whole look before k whole 2 before 0
going_start whole look before small most k e =
    let frame = ap (λ (j : Keeping). j.keeper.frame) e in
    record {
      small = small;
      most = most;
      steady = subst Steady (sym e) (opened_steady look most);
      same_look = ap (λ (j : Keeping). j.keeper.look) e;
      numbered = omega arith;
      few = omega arith;
      rest = λ m end p. subst (λ (j : Keeping). Put before 0 (gain_text j 2 (lines_of whole)) m end) e p;
      left = ap (λ (j : Keeping). gains_left j (lines_of whole)) e;
    }

module _ {whole : List ℕ} {look : ℕ} {before : List ℕ} {k : Keeping} {lines : List ℕ} {number : ℕ} {output : List ℕ} {next : ℕ} (g : Going whole look before k lines number output next) where
  -- the text of what is left
  abbrev left_text : List ℕ
  left_text = gain_text k number (lines_of lines)

  whole_put : Put before 0 (gain_text (opened look) 2 (lines_of whole)) (sets output next left_text) (next + length left_text)
  whole_put = g.rest (sets output next left_text) (next + length left_text) (record { bytes = refl; place = refl })

  -- what has been put keeps the length of what it was put into
  pub same_length : length output ≡ length before
  same_length = sym (length-sets output next left_text) ∙ put_length whole_put

  -- there is room for what is left
  going_room : next + length (gain_text k number (lines_of lines)) ≤ 160000
  going_room = omega (arith, whole_put.place, gains_fit look whole g.most g.small)

  pub going_few : k.keeper.frame < 10000
  going_few = let f = g.few in let s = g.small in omega arith

  pub going_ready : Ready k
  going_ready = steady_ready k g.steady going_few

  pub left_whole : length lines ≡ 0 → k ≡ gains_left (opened look) (lines_of whole)
  left_whole h = sym (left_done lines k h) ∙ g.left

  pub going_done : length lines ≡ 0 → Put before 0 (gain_text (opened look) 2 (lines_of whole)) output next
  going_done h = g.rest output next (rw (text_done lines k number h) (put_none output next))

  module _ (some : 0 < length lines) (n : ℕ) (line later : List ℕ) (cut : n ≡ first_length lines) (front : line ≡ take n lines) (back : later ≡ drop n lines) where
    -- a malformed line
    pub left_stopped : gain_of line ≡ None → k ≡ gains_left (opened look) (lines_of whole)
    left_stopped e = sym (left_stops lines n line later cut front back some k number e) ∙ g.left

    pub going_stops : gain_of line ≡ None → (m : List ℕ) (end : ℕ) → Put output next (refusal_line number) m end → Put before 0 (gain_text (opened look) 2 (lines_of whole)) m end
    going_stops e m end p = g.rest m end (rw (text_stops lines n line later cut front back some k number e) p)

    pub refusal_room : gain_of line ≡ None → next + length (refusal_line number) ≤ 160000
    refusal_room e = rw (← text_stops lines n line later cut front back some k number e) going_room

    -- a gain
    module _ (b : ℕ) (gain : gain_of line ≡ Some b) where
      left_is : gain_text k number (lines_of lines) ≡ frame_text k (bits b) ++ gain_text (stepped_of k (bits b)).keeping (number + 1) (lines_of later)
      left_is = text-more lines n line later cut front back some k number b gain

      pub frame_room : next + length (frame_text k (bits b)) ≤ 160000
      frame_room =
          let l = ap length left_is in
          omega (arith, going_room, l, length-append (frame_text k (bits b)) (gain_text (stepped_of k (bits b)).keeping (number + 1) (lines_of later)))

      going_on : (after : List ℕ) (end : ℕ) → Put output next (frame_text k (bits b)) after end → Going whole look before (stepped_of k (bits b)).keeping later (number + 1) after end
      going_on after end p =
          let f = stepped_frame k g.steady going_few (bits b) in
          let s = line_sized lines n line later cut front back in
          record {
            small = g.small;
            most = g.most;
            steady = steady_step k g.steady going_few (bits b);
            same_look = stepped_look k g.steady going_few (bits b) ∙ g.same_look;
            numbered = let n = g.numbered in omega arith;
            few = let w = g.few in omega (arith, gain_sized line b gain, ap length back, length-drop n lines, line_within lines n line later cut front back);
            rest = λ m last q. g.rest m last (rw left_is (put_then p q));
            left = sym (left_more lines n line later cut front back some k number b gain) ∙ g.left;
          }

      -- the same for the keeper that the code has
      pub going_turn : (after : List ℕ) (end : ℕ) → Put output next (frame_text k (bits b)) after end
          → (j : Keeping) → j ≡ (stepped_of k (bits b)).keeping → Going whole look before j later (number + 1) after end
      going_turn after end p j e = subst (λ (i : Keeping). Going whole look before i later (number + 1) after end) (sym e) (going_on after end p)
