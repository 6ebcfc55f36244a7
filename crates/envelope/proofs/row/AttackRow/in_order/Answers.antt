-- `in_order`: the tests are the definition's; a row with no floor to count is within 0 and 1.
use mathlib.Core.Path.{refl}
use Rattle.envelope.specs.Row.{row_in_order}
use Rattle.envelope.proofs.Scan.{in_order_uncounted}
use Rattle.envelope.proofs.row.AttackRow.in_order.Goals as goal

pub returns-then-tally-eq0 : goal.returns-then-tally-eq0
returns-then-tally-eq0 c =
    let a = c.args in
    in_order_uncounted a.self a.row.now c.tally_of-tally.result c.tally_of-tally.ensures c.if-tally-eq0.true

pub returns : goal.returns
unfolding row_in_order
returns c = rw (c.tally_of-tally.ensures, c.all_unit.ensures) refl
