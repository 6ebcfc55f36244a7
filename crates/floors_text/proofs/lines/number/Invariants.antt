-- `number`: the digits that are left, after the value so far, spell the number of all of them; the value of i digits is below 16 ^ i.
use mathlib.Core.Path.{◌≡◌}
use Prim.Native.Nat.{◌^◌, ◌<◌}
use lib.ListN.{drop}
use Rattle.floors_text.specs.Lines.{number_from}
use Rattle.floors_text.proofs.lines.number.Given as goal

abbrev pub invariant-loop-byte : goal.invariant-loop-byte
invariant-loop-byte l = (l.value < 16 ^ l.byte-index) × (number_from l.base l.value (drop l.byte-index l.digits) ≡ number_from l.base 0 l.digits)
