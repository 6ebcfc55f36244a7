-- `judge`: 18, then 16, then 19.
use mathlib.Core.Path.{refl, sym, ap, ◌∙◌}
use mathlib.Core.Bool.{true, false}
use Rattle.limiter.specs.Stores.{lengths_fit}
use Rattle.bank.proofs.Tests.{held, failed}
use Rattle.driver.specs.Parts.{bank_with}
use Rattle.driver.specs.declared.state.Threshold.{Threshold}
use Rattle.driver.proofs.Judged.{prepared_is, not_set_up_lem, wrong_length, order_judged, threshold_in_range}
use Rattle.driver.proofs.ready.judge.Goals as goal

pub returns-then-not-is_set_up : goal.returns-then-not-is_set_up
returns-then-not-is_set_up c b e = not_set_up_lem _ (failed (c.is_set_up.ensures b e) c.if-not-is_set_up.true)

pub stores_fit-requires : goal.stores_fit-requires
stores_fit-requires c =
    let b = bank_with c.args.t in
    (prepared_is c.args.l b (held (c.is_set_up.ensures b refl) c.if-not-is_set_up.false)).kernel

pub returns-then-not-stores_fit : goal.returns-then-not-stores_fit
returns-then-not-stores_fit c b e = wrong_length _ (held (c.is_set_up.ensures b e) c.if-not-is_set_up.false) (failed (c.stores_fit.ensures ∙ ap (lengths_fit c.args.l.channels c.args.l.env.keeper.look) c.lengths_of-lengths.ensures) c.if-not-stores_fit.true)

pub returns-then-kernel-target_in_range : goal.returns-then-kernel-target_in_range
returns-then-kernel-target_in_range c b e =
    order_judged _ (held (c.is_set_up.ensures b e) c.if-not-is_set_up.false) (held (c.stores_fit.ensures ∙ ap (lengths_fit c.args.l.channels c.args.l.env.keeper.look) c.lengths_of-lengths.ensures) c.if-not-stores_fit.false)
    _ _ c.in_order-kernel.ensures (threshold_in_range b _ (ap (λ (t : Threshold). t.smoother) (sym e)) _ c.target_in_range.ensures) true c.if-kernel-target_in_range.true

pub returns-else-kernel-target_in_range : goal.returns-else-kernel-target_in_range
returns-else-kernel-target_in_range c b e =
    order_judged _ (held (c.is_set_up.ensures b e) c.if-not-is_set_up.false) (held (c.stores_fit.ensures ∙ ap (lengths_fit c.args.l.channels c.args.l.env.keeper.look) c.lengths_of-lengths.ensures) c.if-not-stores_fit.false)
    _ _ c.in_order-kernel.ensures (threshold_in_range b _ (ap (λ (t : Threshold). t.smoother) (sym e)) _ c.target_in_range.ensures) false c.if-kernel-target_in_range.false
