-- `sums_from`: what is still to be summed, added to the sums so far, stays the whole.
use mathlib.Core.Path.{refl}
use Prim.Native.Nat.{◌+◌, ◌-◌}
use native.Mathlib.Omega.{arith}
use borrow.Author.Rules.{rules}
use lib.ListN.{length}
use lib.Ieee.{of_bits}
use Rattle.envelope.proofs.Along.{summing_none, summing_more, summing_all}
use Rattle.envelope.proofs.means.sums_from.Goals as goal

pub loop-j-init : goal.loop-j-init
unfolding of_bits
loop-j-init c = (search rules, summing_none c.args.weights.now c.args.line.now c.args.first)

pub add_weighted-requires : goal.add_weighted-requires
add_weighted-requires c = record {
  sums_len = c.loop-j.invariant.1.as_many;
  at_in_bounds = omega arith;
}

pub loop-j-preserved : goal.loop-j-preserved
loop-j-preserved c =
    let a = c.args in
    let ws = a.weights.now in
    let done = c.add_weighted in
    (search rules, summing_more ws a.line.now a.first c.loop-j.j (a.first + length ws - c.loop-j.j) c.loop-j.sums done.new.sums (omega arith) refl c.loop-j.invariant.1 done.ensures)

pub returns : goal.returns
returns c =
    let a = c.args in
    summing_all a.weights.now a.line.now a.first c.loop-j.j c.loop-j.sums (omega arith) c.loop-j.invariant.1
