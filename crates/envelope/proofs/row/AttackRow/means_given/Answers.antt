-- `means_given`: the means passed, and what the rest comes to, for the weights that gave the sums.
use mathlib.Core.Path.{◌≡◌, refl, ◌∙◌}
use Prim.Native.Nat.{◌-◌, ◌<◌}
use native.Mathlib.Omega.{arith}
use borrow.Author.Rules.{rules}
use lib.ListN.{length, get_or, length-set}
use lib.Ieee.{nan}
use Rattle.arithmetic.proofs.InTurn.{kept}
use Rattle.envelope.specs.Row.{rowed_at}
use Rattle.envelope.proofs.RunMeans.{means_more, means_done, turn_keeps, mean_given, sum_here, sums_ahead}
use Rattle.envelope.proofs.row.AttackRow.means_given.Goals as goal

pub loop-i-init : goal.loop-i-init
loop-i-init c =
    let n = length c.args.floors.now in
    let e : n - 0 ≡ n = omega arith in
    (search rules, refl, c.requires.row_ordered, c.requires.floors_unit, refl, λ weights S. (rw e S, refl))

pub push-a-requires : goal.push-a-requires
push-a-requires c = c.loop-i.invariant.2

pub loop-i-preserved : goal.loop-i-preserved
loop-i-preserved c =
    let a = c.args in
    let next = rowed_at c.push-a.result c.push-a.new.row in
    let was = rowed_at c.loop-i.a c.loop-i.row in
    let i = c.loop-i.i in
    let floors = c.loop-i.floors in
    let sums = a.sums.now in
    let m = c.given.result in
    let k = turn_keeps c.loop-i.a c.loop-i.row i floors next (omega arith) c.push-a.ensures c.loop-i.invariant.2 c.loop-i.invariant.3 in (
      omega arith,
      simp length-set c.loop-i.invariant.1,
      k.0,
      k.1 m,
      k.2 ∙ c.loop-i.invariant.4,
      λ weights S.
          let f = c.loop-i.invariant.1 in
          let h : i < length floors = omega arith in
          let ahead = (c.loop-i.invariant.5 weights S).0 in
          let from = rw (← f) at ahead in
          let here = sum_here weights was next i floors sums h (omega arith) c.push-a.ensures from in (
            rw (kept floors i h m, ← f) (sums_ahead weights was next i floors sums h (omega arith) c.push-a.ensures from),
            means_more weights was i floors next m h c.push-a.ensures (mean_given weights c.push-a.result c.push-a.new.row (get_or sums i nan) m k.0 here c.given.ensures) ∙ (c.loop-i.invariant.5 weights S).1,
          ),
    )

pub returns : goal.returns
returns c =
    λ weights S. means_done weights (rowed_at c.loop-i.a c.loop-i.row) c.loop-i.i c.loop-i.floors (omega arith) ∙ (c.loop-i.invariant.5 weights S).1
