-- `rest_is_zero`: the answer so far and the answer on the rest are the answer on the whole.
use mathlib.Core.Path.{◌≡◌}
use mathlib.Core.Bool.{◌&&◌}
use lib.ListN.{drop}
use Rattle.state_bytes.proofs.Stored.{all_zero}
use Rattle.state_bytes.proofs.read.State.rest_is_zero.Given as goal

abbrev pub invariant-loop-byte : goal.invariant-loop-byte
invariant-loop-byte l = l.ok && all_zero (drop l.byte-index l.byte-items) ≡ all_zero (drop 280 l.self.bytes.now)
