-- What `floors` reads: the input cut into lines, and the two forms of a line.
use Rattle.std.specs.Prelude.{ℕ, Option, Some, None, ◌+◌, ◌-◌, ◌*◌, Bool, true, false, cond, not, ◌&&◌, List, [], ◌∷◌, leb, ltb, eqb, length, get_or, take, drop}
use Rattle.floors_text.specs.Print.{ascii}

-- a byte in front of the first line
abbrev pub in_front : ℕ → List (List ℕ) → List (List ℕ)
in_front b [] = (b ∷ []) ∷ []
in_front b (l ∷ ls) = (b ∷ l) ∷ ls

-- The lines of a text, each with the newline that ends it. What stands after the last newline is a line without one.
abbrev pub lines_of : List ℕ → List (List ℕ)
lines_of [] = []
lines_of (b ∷ bs) = cond (eqb b 10) ((b ∷ []) ∷ lines_of bs) (in_front b (lines_of bs))

-- the first of the lines, empty where there is none
abbrev pub first_of : List (List ℕ) → List ℕ
first_of [] = []
first_of (l ∷ ls) = l

abbrev pub starts_with : List ℕ → List ℕ → Bool
starts_with [] line = true
starts_with (w ∷ ws) [] = false
starts_with (w ∷ ws) (b ∷ bs) = eqb b w && starts_with ws bs

-- the digit that a byte stands for, 0 to 9 or lowercase a to f; 16 for every other byte
abbrev pub digit_of : ℕ → ℕ
digit_of b = cond (leb 48 b && leb b 57) (b - 48) (cond (leb 97 b && leb b 102) (b - 87) 16)

-- the digit of a base of at most 16 that it stands for
abbrev pub digit_in : ℕ → ℕ → Option ℕ
digit_in base b = cond (ltb (digit_of b) base) (Some (digit_of b)) None

-- the number that digits of a base spell, after a number v that is read already
abbrev pub number_from : ℕ → ℕ → List ℕ → Option ℕ
number_from base v [] = Some v
number_from base v (b ∷ bs) = cond (ltb (digit_of b) base) (number_from base (v * base + digit_of b) bs) None

-- a word of five letters, from low to high bytes more, and the one newline
abbrev pub shaped : List ℕ → ℕ → ℕ → List ℕ → Bool
shaped word low high line =
    starts_with word line && (leb (low + 6) (length line) && (leb (length line) (high + 6) && eqb (get_or line (length line - 1) 0) 10))

-- the bytes between word and newline
abbrev pub field_of : List ℕ → List ℕ
field_of line = take (length line - 6) (drop 5 line)

-- a look: 11 to 4096
abbrev pub look_within : Option ℕ → Option ℕ
look_within None = None
look_within (Some n) = cond (leb 11 n && leb n 4096) (Some n) None

-- the first line: `look=` and a decimal 11 to 4096, which has two to four digits, without leading zeros
unfoldable pub look_of : List ℕ → Option ℕ
look_of line = cond (shaped (ascii "look=") 2 4 line && not (eqb (get_or line 5 0) 48)) (look_within (number_from 10 0 (field_of line))) None

-- a later line: `gain=` and 16 lowercase hexadecimal digits of bits
unfoldable pub gain_of : List ℕ → Option ℕ
gain_of line = cond (shaped (ascii "gain=") 16 16 line) (number_from 16 0 (field_of line)) None
