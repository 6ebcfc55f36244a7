-- `judge_reset`: 18, then 16.
use mathlib.Core.Path.{ap, ◌∙◌}
use mathlib.Core.Bool.{true, false}
use Rattle.limiter.specs.Stores.{lengths_fit}
use Rattle.bank.proofs.Tests.{held, failed}
use Rattle.driver.proofs.Judged.{prepared_is, reset_not_set_up, reset_lengths}
use Rattle.driver.proofs.state.KernelProcessor.judge_reset.Goals as goal

pub returns-then-not-is_prepared : goal.returns-then-not-is_prepared
returns-then-not-is_prepared c = reset_not_set_up _ (failed c.is_prepared.ensures c.if-not-is_prepared.true)

pub stores_fit-requires : goal.stores_fit-requires
stores_fit-requires c =
    let p = c.args.self.now in
    (prepared_is p.limiter p.bank (held c.is_prepared.ensures c.if-not-is_prepared.false)).kernel

pub returns-then-stores_fit : goal.returns-then-stores_fit
returns-then-stores_fit c = reset_lengths _ (held c.is_prepared.ensures c.if-not-is_prepared.false) true (held (c.stores_fit.ensures ∙ ap (lengths_fit c.args.self.now.limiter.channels c.args.self.now.limiter.env.keeper.look) c.lengths_of-lengths.ensures) c.if-stores_fit.true)

pub returns-else-stores_fit : goal.returns-else-stores_fit
returns-else-stores_fit c = reset_lengths _ (held c.is_prepared.ensures c.if-not-is_prepared.false) false (failed (c.stores_fit.ensures ∙ ap (lengths_fit c.args.self.now.limiter.channels c.args.self.now.limiter.env.keeper.look) c.lengths_of-lengths.ensures) c.if-stores_fit.false)
