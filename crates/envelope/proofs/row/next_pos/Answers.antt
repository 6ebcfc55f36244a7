-- `next_pos`: the test is the definition's.
use mathlib.Core.Path.{refl}
use native.Mathlib.Omega.{arith}
use borrow.Author.Tests.{eq-eqb, ne_eqb}
use lib.Arith.{lt_of_le-ne}
use Rattle.envelope.proofs.row.next_pos.Goals as goal

pub returns-then-next-l : goal.returns-then-next-l
returns-then-next-l c = record {
  value = rw (eq-eqb _ _ c.if-next-l.true) refl;
  inside = omega arith;
}

pub returns-else-next-l : goal.returns-else-next-l
returns-else-next-l c = record {
  value = rw (ne_eqb _ _ c.if-next-l.false) refl;
  inside = lt_of_le-ne (omega arith) c.if-next-l.false;
}
