-- How long the text can become: every line of input has 22 bytes, and every line that it writes at most 57.
use mathlib.Core.Path.{◌≡◌, refl, ap}
use mathlib.Core.Bool.{Bool, true, false, cond, not, ◌&&◌}
use mathlib.Core.List.{List, [], ◌∷◌, ◌++◌}
use Prim.Native.Nat.{ℕ, suc, ◌+◌, ◌*◌, ◌≤◌, ◌<◌}
use native.Mathlib.Omega.{arith}
use lib.Dec.{leb, eqb}
use lib.ListN.{length, get_or, replicate, length-append, length-replicate}
use lib.Ieee.{Float}
use borrow.Author.Tests.{leb-true}
use Rattle.arithmetic.specs.Number
use Rattle.arithmetic.specs.Number.{bits}
use Rattle.keeper.specs.Keeper.{Keeping, ordered, stepped_of, Ready}
use Rattle.keeper.proofs.Step.{order-of, marks_after, minima_after, order_after, drops_after_lem}
use Rattle.keeper.proofs.Floor.{empty_order}
use Rattle.floors_text.specs.Print.{ascii, refusal_line}
use Rattle.floors_text.specs.Lines.{in_front, lines_of, shaped, number_from, field_of, look_within, look_of, gain_of}
use Rattle.floors_text.specs.Text.{opened, frame_text, or_else, gain_text, lines_text, text_of}
use Rattle.std.specs.Prelude.{Option, Some, None}
use Rattle.floors_text.proofs.Puts.{refusal_length, frame_length}
use Rattle.floors_text.proofs.Numbers.{four_digits}
use Rattle.floors_text.proofs.Forms.{shape_length, gain_none}

-- ---- a keeper that goes on from a setup
pub record Steady (k : Keeping) : Type 0 where
  pub look_most : k.keeper.look ≤ 4096
  pub marks_fit : length k.marks ≡ k.keeper.look + 1
  pub minima_fit : length k.minima ≡ k.keeper.look + 1
  pub in_order : ordered k ≡ true

pub opened_steady : (look : ℕ) → look ≤ 4096 → Steady (opened look)
opened_steady look h = record {
  look_most = h;
  marks_fit = length-replicate (look + 1) 0;
  minima_fit = length-replicate (look + 1) Number.zero;
  in_order = empty_order look 0 (replicate (look + 1) 0) (replicate (look + 1) Number.zero) (omega arith);
}

-- at most look + 1 entries are kept
steady_few : (k : Keeping) → Steady k → k.keeper.len ≤ 4097
steady_few k s =
    let o = order-of k.keeper.look k.keeper.head k.keeper.len k.keeper.frame k.marks k.minima s.in_order in
    omega (arith, o.few, s.look_most)

module _ (k : Keeping) (s : Steady k) (few : k.keeper.frame < 10000) where
  pub steady_ready : Ready k
  steady_ready = record { marks_fit = s.marks_fit; minima_fit = s.minima_fit; in_order = s.in_order; room = omega arith }

  module _ (x : Float) where
    pub stepped_look : (stepped_of k x).keeping.keeper.look ≡ k.keeper.look
    unfolding stepped_of
    stepped_look = refl

    pub stepped_frame : (stepped_of k x).keeping.keeper.frame ≡ k.keeper.frame + 1
    unfolding stepped_of
    stepped_frame = refl

    pub steady_step : Steady (stepped_of k x).keeping
    steady_step = record {
      look_most = rw stepped_look s.look_most;
      marks_fit = rw stepped_look (marks_after k x steady_ready);
      minima_fit = rw stepped_look (minima_after k x steady_ready);
      in_order = order_after k x steady_ready;
    }

    frame_most : length (frame_text k x) ≤ 57
    frame_most =
        let d = drops_after_lem k x steady_ready in
        let a = steady_few k s in
        let b = steady_few (stepped_of k x).keeping steady_step in
        omega (
          arith,
          frame_length k.keeper.frame (stepped_of k x).floor (stepped_of k x).dropped (stepped_of k x).keeping.keeper.len,
          four_digits k.keeper.frame few,
          four_digits (stepped_of k x).dropped (omega arith),
          four_digits (stepped_of k x).keeping.keeper.len (omega arith),
        )

-- ---- the bytes of lines
abbrev bytes_of : List (List ℕ) → ℕ
bytes_of [] = 0
bytes_of (l ∷ ls) = length l + bytes_of ls

front_bytes : (b : ℕ) (ls : List (List ℕ)) → bytes_of (in_front b ls) ≡ suc (bytes_of ls)
front_bytes b [] = refl
front_bytes b (l ∷ ls) = omega arith

lines_bytes : (s : List ℕ) → bytes_of (lines_of s) ≡ length s
lines_bytes [] = refl
lines_bytes (b ∷ bs) = go (eqb b 10) refl (lines_bytes bs)
  where
    go : (t : Bool) → eqb b 10 ≡ t → bytes_of (lines_of bs) ≡ length bs → bytes_of (lines_of (b ∷ bs)) ≡ length (b ∷ bs)
    go true e h = rw e (omega arith)
    go false e h = rw (e, front_bytes b (lines_of bs)) (ap suc h)

pub refusal_most : (n : ℕ) → n < 10000 → length (refusal_line n) ≤ 21
refusal_most n h = omega (arith, refusal_length n, four_digits n h)

-- a gain line has 22 bytes
pub gain_sized : (line : List ℕ) (b : ℕ) → gain_of line ≡ Some b → length line ≡ 22
gain_sized line b e = go (shaped (ascii "gain=") 16 16 line) refl
  where
    go : (t : Bool) → shaped (ascii "gain=") 16 16 line ≡ t → length line ≡ 22
    go true h = let l = shape_length (ascii "gain=") 16 16 line h in omega arith
    go false h = absurd (let z : ◌≡◌ {A = ℕ} 0 1 = cc (gain_none line h) in omega arith)

-- for every line that is left 57 bytes, and a refusal
gain_most : (lines : List (List ℕ)) (k : Keeping) (number : ℕ) → Steady k → number ≡ k.keeper.frame + 2 → 22 * k.keeper.frame + bytes_of lines ≤ 60000
    → 22 * length (gain_text k number lines) ≤ 57 * bytes_of lines + 462
unfolding gain_text
gain_most [] k number s n h = omega arith
gain_most (line ∷ lines) k number s n h = go (gain_of line) refl (gain_most lines)
  where
    few : k.keeper.frame < 10000
    few = omega arith

    go : (f : Option ℕ) → gain_of line ≡ f
        → ((k : Keeping) (number : ℕ) → Steady k → number ≡ k.keeper.frame + 2 → 22 * k.keeper.frame + bytes_of lines ≤ 60000 → 22 * length (gain_text k number lines) ≤ 57 * bytes_of lines + 462)
        → 22 * length (or_else (gain_of line) (refusal_line number) (λ b. frame_text k (bits b) ++ gain_text (stepped_of k (bits b)).keeping (number + 1) lines)) ≤ 57 * (length line + bytes_of lines) + 462
    go None e rest = rw e (omega (arith, refusal_most number (omega arith)))
    go (Some b) e rest =
        let f = stepped_frame k s few (bits b) in
        let l = gain_sized line b e in
        let r = rest (stepped_of k (bits b)).keeping (number + 1) (steady_step k s few (bits b)) (omega arith) (omega arith) in
        rw (e, length-append (frame_text k (bits b)) (gain_text (stepped_of k (bits b)).keeping (number + 1) lines)) (omega (arith, frame_most k s few (bits b)))

-- what the lines after the first can give
pub gains_fit : (look : ℕ) (text : List ℕ) → look ≤ 4096 → length text ≤ 60000 → length (gain_text (opened look) 2 (lines_of text)) ≤ 160000
gains_fit look text h few =
    let b = lines_bytes text in
    omega (arith, gain_most (lines_of text) (opened look) 2 (opened_steady look h) refl (omega arith))

-- a look is within its range
pub look_range : (line : List ℕ) (look : ℕ) → look_of line ≡ Some look → (11 ≤ look) × (look ≤ 4096)
unfolding look_of
look_range line look e = go (shaped (ascii "look=") 2 4 line && not (eqb (get_or line 5 0) 48)) e
  where
    within : (n : ℕ) (f g : Bool) → leb 11 n ≡ f → leb n 4096 ≡ g → cond (f && g) (Some n) None ≡ Some look → (11 ≤ look) × (look ≤ 4096)
    within n true true p q h = let s : n ≡ look = cc in (omega (arith, leb-true 11 n p), omega (arith, leb-true n 4096 q))
    within n true false p q h = absurd (let z : ◌≡◌ {A = ℕ} 0 1 = cc in omega arith)
    within n false true p q h = absurd (let z : ◌≡◌ {A = ℕ} 0 1 = cc in omega arith)
    within n false false p q h = absurd (let z : ◌≡◌ {A = ℕ} 0 1 = cc in omega arith)

    field : (f : Option ℕ) → look_within f ≡ Some look → (11 ≤ look) × (look ≤ 4096)
    field None h = absurd (let z : ◌≡◌ {A = ℕ} 0 1 = cc in omega arith)
    field (Some n) h = within n (leb 11 n) (leb n 4096) refl refl h

    go : (t : Bool) → cond t (look_within (number_from 10 0 (field_of line))) None ≡ Some look → (11 ≤ look) × (look ≤ 4096)
    go true h = field (number_from 10 0 (field_of line)) h
    go false h = absurd (let z : ◌≡◌ {A = ℕ} 0 1 = cc in omega arith)

-- 160,000 bytes hold the text of every input
pub text_fits : (input : List ℕ) → length (text_of input) ≤ 160000
unfolding text_of
text_fits input = go (leb (length input) 60000) refl
  where
    first : (lines : List (List ℕ)) → bytes_of lines ≤ 60000 → length (lines_text lines) ≤ 160000
    first [] h = omega (arith, refusal_most 1 (omega arith))
    first (line ∷ lines) h = look (look_of line) refl
      where
        look : (f : Option ℕ) → look_of line ≡ f → length (or_else (look_of line) (refusal_line 1) (λ l. gain_text (opened l) 2 lines)) ≤ 160000
        look None e = rw e (omega (arith, refusal_most 1 (omega arith)))
        look (Some l) e = rw e (omega (arith, gain_most lines (opened l) 2 (opened_steady l (look_range line l e).1) refl (omega arith)))

    go : (t : Bool) → leb (length input) 60000 ≡ t → length (cond t (lines_text (lines_of input)) (refusal_line 0)) ≤ 160000
    go true e = first (lines_of input) (omega (arith, lines_bytes input, leb-true (length input) 60000 e))
    go false e = omega (arith, refusal_most 0 (omega arith))
