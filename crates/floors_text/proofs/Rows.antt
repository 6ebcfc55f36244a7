-- The starred row of document 01's paragraph on `floors`, by computation.
use mathlib.Core.Path.{◌≡◌, refl}
use lib.Ieee.{of_bits, to_bits, lt}
use Rattle.keeper.specs.Keeper.{stepped_of}
use Rattle.floors_text.specs.Print.{ascii, decimal_of, frame_line}
use Rattle.floors_text.specs.Lines.{look_of, gain_of}
use Rattle.floors_text.specs.Text.{gain_text, text_of}

pub starred : text_of (ascii "look=11\ngain=3ff0000000000000\ngain=3fe0000000000000\ngain=3fe8000000000000\n")
    ≡ ascii "frame=0 floor=3ff0000000000000 dropped=0 kept=1\nframe=1 floor=3fe0000000000000 dropped=1 kept=1\nframe=2 floor=3fe0000000000000 dropped=0 kept=2\n"
unfolding text_of look_of gain_of gain_text frame_line decimal_of stepped_of of_bits to_bits lt
starred = refl
