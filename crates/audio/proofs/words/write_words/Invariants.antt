-- `write_words`: the bytes passed, and those of the words that are left.
use mathlib.Core.Path.{◌≡◌}
use mathlib.Core.List.{◌++◌}
use Prim.Native.Nat.{◌*◌}
use lib.ListN.{take, drop}
use Rattle.audio.specs.Bytes.{bytes_out}
use Rattle.audio.proofs.words.write_words.Given as goal

abbrev pub invariant-loop-i : goal.invariant-loop-i
invariant-loop-i l = take (8 * l.i) l.bytes ++ bytes_out 8 (drop l.i l.words) ≡ bytes_out 8 l.words
