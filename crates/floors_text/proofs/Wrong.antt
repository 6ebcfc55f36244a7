-- Inputs at which the wrong programs of ARCHITECTURE.md's table would answer otherwise: each row computes what the definition answers there, and its comment names the wrong program.
use mathlib.Core.Path.{◌≡◌, refl}
use mathlib.Core.List.{List}
use lib.ListN.{length}
use Prim.Native.Nat.{ℕ}
use Rattle.floors_text.specs.Print.{ascii, decimal_of, refusal_line}
use Rattle.floors_text.specs.Lines.{look_of, gain_of}
use Rattle.floors_text.specs.Text.{gain_text, text_of}

-- lines counted from 0, so that the one after the look is line 1
pub second_line : text_of (ascii "look=11\ngain=3ff\n") ≡ ascii "refused=25 line=2\n"
unfolding text_of look_of gain_of gain_text refusal_line decimal_of
second_line = refl

-- a last line without its newline taken: nothing would be written
pub newline_asked : text_of (ascii "look=11") ≡ ascii "refused=25 line=1\n"
unfolding text_of look_of gain_of gain_text refusal_line decimal_of
newline_asked = refl

-- leading zeros, capital digits, and a look of 4,097 taken
pub digits_judged :
    (text_of (ascii "look=0011\n") ≡ ascii "refused=25 line=1\n")
    × (text_of (ascii "look=4097\n") ≡ ascii "refused=25 line=1\n")
    × (text_of (ascii "look=11\ngain=3FF0000000000000\n") ≡ ascii "refused=25 line=2\n")
unfolding text_of look_of gain_of gain_text refusal_line decimal_of
digits_judged = (refl, refl, refl)

-- no line at all taken for an empty answer
pub no_line : text_of (ascii "") ≡ ascii "refused=25 line=1\n"
unfolding text_of refusal_line decimal_of
no_line = refl

-- 60,001 bytes read, whatever they are
pub too_long : (input : List ℕ) → length input ≡ 60001 → text_of input ≡ ascii "refused=25 line=0\n"
unfolding text_of refusal_line decimal_of
too_long input h = rw h refl
