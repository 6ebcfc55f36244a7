-- `set_parameter_immediate`: 18 of the whole machine, then the bank's own call.
use Rattle.bank.specs.Bank.{param_set_at}
use Rattle.bank.proofs.Tests.{held, failed}
use Rattle.driver.specs.Answers.{machine_at}
use Rattle.driver.proofs.Called.{param_not_set_up, param_called}
use Rattle.driver.proofs.state.KernelProcessor.set_parameter_immediate.Goals as goal

pub returns-then-not-is_prepared : goal.returns-then-not-is_prepared
returns-then-not-is_prepared c stores =
    let a = c.args in
    param_not_set_up (machine_at a.self.now stores) a.id a.value (failed c.is_prepared.ensures c.if-not-is_prepared.true)

pub returns : goal.returns
returns c stores =
    let a = c.args in
    param_called (machine_at a.self.now stores) a.id a.value (held c.is_prepared.ensures c.if-not-is_prepared.false) (param_set_at c.set_immediate.result c.set_immediate.new.self) c.set_immediate.ensures
