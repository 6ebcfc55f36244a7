-- `add_last`: the answers ahead keep their sums.
use borrow.Author.Rules.{rules}
use Rattle.detector.proofs.Fours.{last_three}
use Rattle.detector.proofs.phases.add_last.Goals as goal

pub returns : goal.returns
returns c =
    let e3 = c.add_products-3.ensures in
    let e2 = c.add_products-2.ensures in
    let e1 = c.add_products.ensures in
    let a = c.args in
    rw (e3, e2, e1) (last_three a.table.now (search rules) a.sums.now a.d0 a.d1 a.d2)
