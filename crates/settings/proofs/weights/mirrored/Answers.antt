-- `mirrored`: each pair passed so far is near.
use Rattle.std.proofs.Common.{◌-◌, length, sym, ◌∙◌, arith}
use Rattle.settings.proofs.WeightPairs.{unit_at, far_apart, all_near}
use Rattle.settings.proofs.weights.mirrored.Goals as goal

pub parts_near-requires : goal.parts_near-requires
parts_near-requires c =
    let ws = c.args.weights.now in
    let i = c.loop-i.i in
    let u = c.requires in
    (unit_at ws i u (omega arith), unit_at ws (length ws - 1 - i) u (omega arith))

pub returns-then-not-parts_near : goal.returns-then-not-parts_near
returns-then-not-parts_near c =
    let t = c.parts_near in
    far_apart c.args.weights.now c.loop-i.i (omega (arith, c.loop-i-test.true)) (sym t.ensures ∙ c.if-not-parts_near.true)

pub returns : goal.returns
returns c = all_near c.args.weights.now c.loop-i.i (omega (arith, c.loop-i-test.false)) c.loop-i.invariant
