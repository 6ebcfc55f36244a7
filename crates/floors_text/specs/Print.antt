-- What `floors` writes: words, decimal numbers and patterns of bits, as bytes of ASCII.
use Rattle.std.specs.Prelude.{◌≡◌, ℕ, zero, suc, ◌+◌, ◌/◌, ◌%◌, cond, List, [], ◌∷◌, ◌++◌, ltb, length, Float}
use Prim.Native.Char.{code}
use Prim.Native.String.{String, [] as none, ◌∷◌ as letter}
use Rattle.std.proofs.lemmas.List.Edits.{sets}
use Rattle.std.specs.Float.{binary64}
use Rattle.std.specs.Float.Ieee.{to_bits}

-- the bytes of a word
abbrev pub ascii : String → List ℕ
ascii none = []
ascii (letter c cs) = code c ∷ ascii cs

-- the byte of a digit below 16: 0 to 9, then a to f
abbrev pub glyph_of : ℕ → ℕ
glyph_of d = cond (ltb d 10) (48 + d) (87 + d)

-- the last k digits of n in base 16
abbrev pub hex_of : ℕ → ℕ → List ℕ
hex_of zero n = []
hex_of (suc k) n = hex_of k (n / 16) ++ (glyph_of (n % 16) ∷ [])

-- The decimal digits of n, without leading zeros: those of n / 10, then the last one. The first argument bounds how often that is done; n times is enough.
abbrev pub decimal_from : ℕ → ℕ → List ℕ
decimal_from zero n = glyph_of n ∷ []
decimal_from (suc k) n = let front = decimal_from k (n / 10) in cond (ltb n 10) (glyph_of n ∷ []) (front ++ (glyph_of (n % 10) ∷ []))

unfoldable pub decimal_of : ℕ → List ℕ
decimal_of n = decimal_from n n

-- a word and the number that goes with it
abbrev pub counted : String → ℕ → List ℕ
counted word n = ascii word ++ decimal_of n

-- the line of a frame: its number from 0, the floor's bits, the drops by this step and the entries kept
unfoldable pub frame_line : ℕ → Float → ℕ → ℕ → List ℕ
frame_line frame floor dropped kept =
    counted "frame=" frame ++ ascii " floor=" ++ hex_of 16 (to_bits binary64 floor) ++ counted " dropped=" dropped ++ counted " kept=" kept ++ ascii "\n"

-- refusal 25, with the number of the malformed line
unfoldable pub refusal_line : ℕ → List ℕ
refusal_line line = counted "refused=25 line=" line ++ ascii "\n"

-- a text put into the output from a place on, and the place after it. What would stand past the output's end is left out.
pub record Put (before : List ℕ) (at : ℕ) (text : List ℕ) (after : List ℕ) (next : ℕ) : Type 0 where
  pub bytes : after ≡ sets before at text
  pub place : next ≡ at + length text
