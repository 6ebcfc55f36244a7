-- `apply_all`: at a turn the slots before it are changed.
use Rattle.std.proofs.Common.{◌≡◌, arith, length, min}
use Rattle.bank.proofs.Slots.{mapped_none, mapped_more, mapped_part}
use Rattle.bank.proofs.smoother_bank.SmootherBank.apply_all.Goals as goal

pub loop-s-init : goal.loop-s-init
loop-s-init g c = λ f k. mapped_none f _

pub loop-s-preserved : goal.loop-s-preserved
loop-s-preserved g c = λ f k. mapped_more f c.loop-s.s-index _ c.loop-s.s-items _ c.change.result (c.loop-s.invariant f k) c.loop-s-test.true (k _ _ c.change.ensures)

pub returns : goal.returns
returns g c =
    let some : c.min-n.result ≡ min c.args.self.now.count (length c.args.self.now.smoothers) = omega arith in
    λ f k.
    let e = mapped_part f c.min-n.result c.args.self.now.count c.loop-s.s-index c.args.self.now.smoothers c.loop-s.s-items some c.loop-s-test.false (c.loop-s.invariant f k) in
    cc
