-- The whole text, and the output with the text over it.
use mathlib.Core.Path.{◌≡◌, refl, sym, ap, ◌∙◌}
use mathlib.Core.List.{List, [], ◌∷◌, ◌++◌, append-nil}
use Prim.Native.Nat.{ℕ, suc, ◌≤◌, ◌<◌}
use native.Mathlib.Nat.{zero-add}
use native.Mathlib.Omega.{arith}
use lib.ListN.{length, take, drop, length-append}
use lib.Seq.{sets, set_out, set-append_seam, append_snoc}
use borrow.Author.Tests.{le-leb, lt-leb}
use Rattle.floors_text.specs.Print.{refusal_line, Put}
use Rattle.floors_text.specs.Lines.{lines_of, first_of, look_of}
use Rattle.floors_text.specs.Text.{opened, or_else, gain_text, lines_text, text_of, over, Written, written_at, floors_of}
use Rattle.std.specs.Prelude.{Some, None}
use Rattle.floors_text.proofs.Cuts.{first_length, lines_cut}
use Rattle.floors_text.proofs.Turns.{first_is}
use Rattle.floors_text.proofs.Length.{text_fits}

-- ---- stores one after the other lay the text over the output
sets_out : (l : List ℕ) (i : ℕ) (vs : List ℕ) → length l ≤ i → sets l i vs ≡ l
sets_out l i [] h = refl
sets_out l i (v ∷ vs) h = ap (λ (m : List ℕ). sets m (suc i) vs) (set_out l i v h) ∙ sets_out l (suc i) vs (omega arith)

sets_over : (text p output : List ℕ) → sets (p ++ output) (length p) text ≡ p ++ over text output
sets_over [] p output = refl
sets_over (b ∷ text) p [] = sets_out (p ++ []) (length p) (b ∷ text) (omega (arith, ap length (append-nil p)))
sets_over (b ∷ text) p (o ∷ output) =
    let n : length (p ++ (b ∷ [])) ≡ suc (length p) = length-append p (b ∷ []) ∙ omega arith in
    ap (λ (m : List ℕ). sets m (suc (length p)) text) (set-append_seam p o output b ∙ sym (append_snoc p b output))
    ∙ ap (λ (i : ℕ). sets (p ++ (b ∷ []) ++ output) i text) (sym n)
    ∙ sets_over text (p ++ (b ∷ [])) output
    ∙ append_snoc p b (over text output)

-- where there is room for the text, the output is the text and then its old bytes
pub over_fits : (text output : List ℕ) → length text ≤ length output → over text output ≡ text ++ drop (length text) output
over_fits [] output h = refl
over_fits (b ∷ text) [] h = absurd (omega arith)
over_fits (b ∷ text) (o ∷ output) h = ap {B = List ℕ} (λ l. b ∷ l) (over_fits text output (omega arith))

-- and 160,000 bytes are room for every text
pub floors_fit : (input output : List ℕ) → 160000 ≤ length output → over (text_of input) output ≡ text_of input ++ drop (length (text_of input)) output
floors_fit input output h = over_fits (text_of input) output (omega (arith, text_fits input))

-- so that no answer is above it
pub answer_fits : (input output after : List ℕ) (r : ℕ) → written_at r after ≡ floors_of input output → r ≤ 160000
unfolding floors_of
answer_fits input output after r e = let c : r ≡ length (text_of input) = ap (λ (w : Written). w.count) e in omega (arith, text_fits input)

pub put_whole : (input output text after : List ℕ) (r : ℕ) → text ≡ text_of input → Put output 0 text after r → written_at r after ≡ floors_of input output
unfolding floors_of
put_whole input output text after r e p = rw (← e, p.place, p.bytes, zero-add (length text), sets_over text [] output) refl

-- ---- the text of an input, by its first line
pub text_long : (input : List ℕ) → 60000 < length input → refusal_line 0 ≡ text_of input
unfolding text_of
text_long input h = rw (lt-leb (length input) 60000 h) refl

module _ (input : List ℕ) (few : length input ≤ 60000) (end : ℕ) (line rest : List ℕ) (e : end ≡ first_length input) (front : line ≡ take end input) (back : rest ≡ drop end input) where
  by_first : (s : List ℕ) → lines_text (lines_of s) ≡ or_else (look_of (first_of (lines_of s))) (refusal_line 1) (λ look. gain_text (opened look) 2 (lines_of (drop (first_length s) s)))
  unfolding look_of
  by_first [] = refl
  by_first (b ∷ bs) = ap lines_text (lines_cut (b ∷ bs) (omega arith))

  text_first : text_of input ≡ or_else (look_of line) (refusal_line 1) (λ look. gain_text (opened look) 2 (lines_of rest))
  unfolding text_of
  text_first = rw (le-leb (length input) 60000 few, first_is input end line rest e front back, back, e) (by_first input)

  pub text_none : look_of line ≡ None → refusal_line 1 ≡ text_of input
  text_none h = sym (text_first ∙ rw h refl)

  pub text_look : (look : ℕ) → look_of line ≡ Some look → gain_text (opened look) 2 (lines_of rest) ≡ text_of input
  text_look look h = sym (text_first ∙ rw h refl)
