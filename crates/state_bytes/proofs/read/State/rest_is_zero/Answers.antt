-- `rest_is_zero`: the answer so far and the answer on the rest are the answer on the whole.
use mathlib.Core.Path.{ap}
use Prim.Native.Nat.{◌-◌}
use native.Mathlib.Omega.{arith}
use lib.ListN.{length, drop, length-drop}
use lib.Seq.{take_all}
use Rattle.state_bytes.proofs.Stored.{all_zero, zeros_done}
use Rattle.state_bytes.proofs.read.State.rest_is_zero.Goals as goal

pub loop-byte-init : goal.loop-byte-init
loop-byte-init c =
    let state = c.args.self.now.bytes.now in
    ap all_zero (take_all (length state - 280) (drop 280 state) (omega (arith, length-drop 280 state)))

pub returns : goal.returns
returns c =
    let l = c.loop-byte in
    zeros_done c.args.self.now.bytes.now _ l.byte-index l.ok c.args.self.now.long l.invariant c.loop-byte-test.false
