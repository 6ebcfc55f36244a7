-- Texts put into the output one after the other.
use mathlib.Core.Path.{◌≡◌, refl, sym, ap, ◌∙◌}
use mathlib.Core.List.{List, [], ◌∷◌, ◌++◌}
use Prim.Native.Nat.{ℕ, suc, ◌+◌, ◌≤◌, ◌<◌}
use native.Mathlib.Nat.{add-zero}
use native.Mathlib.Omega.{arith}
use native.Mathlib.Numerals.{add-one}
use lib.ListN.{length, set, get_or, take, length-append}
use lib.Seq.{sets, length-sets, set_out, take-suc}
use lib.Ieee.{Float}
use Rattle.floors_text.specs.Print.{Put, decimal_of, frame_line, refusal_line}

sets_append : (l : List ℕ) (i : ℕ) (a b : List ℕ) → sets l i (a ++ b) ≡ sets (sets l i a) (i + length a) b
sets_append l i [] b = ap (λ (n : ℕ). sets l n b) (sym (add-zero i))
sets_append l i (x ∷ a) b =
    let e : suc i + length a ≡ i + suc (length a) = omega arith in
    sets_append (set l i x) (suc i) a b ∙ ap (λ (n : ℕ). sets (sets (set l i x) (suc i) a) n b) e

pub put_past : (l : List ℕ) (at b : ℕ) → length l ≤ at → Put l at (b ∷ []) l (at + 1)
put_past l at b h = record { bytes = sym (set_out l at b h); place = refl }

pub put_none : (l : List ℕ) (at : ℕ) → Put l at [] l at
put_none l at = record { bytes = refl; place = sym (add-zero at) }

pub put_then : {l m n a b : List ℕ} {at next end : ℕ} → Put l at a m next → Put m next b n end → Put l at (a ++ b) n end
put_then {l} {m} {n} {a} {b} {at} {next} {end} p q = record {
  bytes = rw (sets_append l at a b, ← p.place, ← p.bytes) q.bytes;
  place = rw (length-append a b) (let e = p.place in let f = q.place in omega arith);
}

-- a text that ends in a digit
pub put_last : {l m n front text : List ℕ} {at next end b d : ℕ} → text ≡ front ++ (d ∷ []) → b ≡ d → Put l at front m next → Put m next (b ∷ []) n end → Put l at text n end
put_last e f p q = rw (e, ← f) (put_then p q)

-- the output keeps its length
pub put_length : {l m a : List ℕ} {at next : ℕ} → Put l at a m next → length m ≡ length l
put_length {l} {m} {a} {at} p = ap length p.bytes ∙ length-sets l at a

-- a byte more of a word
module _ (word : List ℕ) (i : ℕ) where
  pub put_more : {l m n : List ℕ} {at next end : ℕ} → i < length word → Put l at (take i word) m next → Put m next (get_or word i 0 ∷ []) n end → Put l at (take (i + 1) word) n end
  put_more h p q = rw (add-one i, take-suc word i 0 h) (put_then p q)

-- ---- how long the two kinds of line are
pub refusal_length : (line : ℕ) → length (refusal_line line) ≡ 17 + length (decimal_of line)
unfolding refusal_line
refusal_length line = simp length-append (omega arith)

pub frame_length : (frame : ℕ) (floor : Float) (dropped kept : ℕ) → length (frame_line frame floor dropped kept) ≡ 45 + length (decimal_of frame) + length (decimal_of dropped) + length (decimal_of kept)
unfolding frame_line
frame_length frame floor dropped kept = simp length-append (omega arith)
