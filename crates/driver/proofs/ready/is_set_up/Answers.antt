-- `is_set_up`: clause by clause, the bank's by its one parameter.
use Rattle.driver.proofs.Judged.{parts_judged}
use Rattle.driver.proofs.ready.is_set_up.Goals as goal

pub returns : goal.returns
returns c b e =
    let a = c.args in
    parts_judged b a.t e a.l c.is_prepared-kernel.result c.is_prepared.result c.declares-declared.result c.is_prepared-kernel.ensures c.is_prepared.ensures c.declares-declared.ensures
