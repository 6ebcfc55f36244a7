-- `put_word`: the first bytes of the word are put.
use mathlib.Core.Path.{◌≡◌}
use Prim.Native.Nat.{◌+◌}
use lib.ListN.{take}
use Rattle.floors_text.specs.Print.{Put}
use Rattle.floors_text.proofs.print.put_word.Given as goal

abbrev pub invariant-loop-byte : goal.invariant-loop-byte
invariant-loop-byte l = (l.next ≡ l.at + l.byte-index) × Put l.initial.output l.at (take l.byte-index l.word) l.output l.next
