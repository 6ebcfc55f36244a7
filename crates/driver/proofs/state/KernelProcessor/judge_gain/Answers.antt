-- `judge_gain`: 18, 16, 19 and 22 in turn.
use mathlib.Core.Bool.{true, false}
use mathlib.Core.List.{[]}
use native.Mathlib.Omega.{arith}
use borrow.Author.Tests.{le-leb, lt-leb}
use Rattle.keeper.specs.InOrder.{most_frames}
use Rattle.limiter.specs.Stores.{stores_at}
use Rattle.limiter.proofs.Frames.{bounds_of}
use Rattle.bank.proofs.Tests.{held, failed}
use Rattle.driver.specs.Calls.{gain_fits}
use Rattle.driver.proofs.Judged.{prepared_is, threshold_in_range}
use Rattle.driver.proofs.Stepped.{gain_fit, gain_not_set_up, gain_lengths, gain_disorder, gain_room}
use Rattle.driver.proofs.state.KernelProcessor.judge_gain.Goals as goal

pub returns-then-not-is_prepared : goal.returns-then-not-is_prepared
returns-then-not-is_prepared c delay detector = gain_not_set_up _ (failed c.is_prepared.ensures c.if-not-is_prepared.true)

pub stores_fit-requires : goal.stores_fit-requires
stores_fit-requires c =
    let p = c.args.self.now in
    (bounds_of p.limiter (prepared_is p.limiter p.bank (held c.is_prepared.ensures c.if-not-is_prepared.false)).kernel).look_most

pub returns-then-not-stores_fit : goal.returns-then-not-stores_fit
returns-then-not-stores_fit c delay detector =
    gain_lengths _ (held c.is_prepared.ensures c.if-not-is_prepared.false) _ (c.stores_fit.ensures delay detector) c.if-not-stores_fit.true

pub in_order-kernel-requires : goal.in_order-kernel-requires
in_order-kernel-requires c =
    let a = c.args in
    let l = a.self.now.limiter in
    let stores = stores_at [] a.marks.now a.minima.now a.weights.now a.row.now [] in
    let f = gain_fit l stores (held {t = gain_fits l stores} (c.stores_fit.ensures [] []) c.if-not-stores_fit.false) in
    (f.marks_is, f.minima_is)

pub returns-then-not-kernel-target_in_range : goal.returns-then-not-kernel-target_in_range
returns-then-not-kernel-target_in_range c delay detector =
    gain_disorder _ (held c.is_prepared.ensures c.if-not-is_prepared.false) _ (c.stores_fit.ensures delay detector) c.if-not-stores_fit.false
    _ _ c.in_order-kernel.ensures (threshold_in_range c.args.self.now.bank _ c.threshold.ensures _ c.target_in_range.ensures) c.if-not-kernel-target_in_range.true

pub returns-then-l-lt1099511627776 : goal.returns-then-l-lt1099511627776
returns-then-l-lt1099511627776 c delay detector =
    gain_room _ (held c.is_prepared.ensures c.if-not-is_prepared.false) _ (c.stores_fit.ensures delay detector) c.if-not-stores_fit.false
    _ _ c.in_order-kernel.ensures (threshold_in_range c.args.self.now.bank _ c.threshold.ensures _ c.target_in_range.ensures) c.if-not-kernel-target_in_range.false
    true (le-leb _ most_frames (omega (arith, c.if-l-lt1099511627776.true)))

pub returns-else-l-lt1099511627776 : goal.returns-else-l-lt1099511627776
returns-else-l-lt1099511627776 c delay detector =
    gain_room _ (held c.is_prepared.ensures c.if-not-is_prepared.false) _ (c.stores_fit.ensures delay detector) c.if-not-stores_fit.false
    _ _ c.in_order-kernel.ensures (threshold_in_range c.args.self.now.bank _ c.threshold.ensures _ c.target_in_range.ensures) c.if-not-kernel-target_in_range.false
    false (lt-leb _ most_frames (omega (arith, c.if-l-lt1099511627776.false)))
