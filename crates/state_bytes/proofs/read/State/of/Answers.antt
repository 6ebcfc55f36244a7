-- `of`: by the buffer's length, and by what its words hold.
use mathlib.Core.Bool.{true, false}
use mathlib.Core.Path.{sym, ◌∙◌}
use lib.ListN.{length}
use borrow.Author.Tests.{ne_eqb}
use Rattle.bank.proofs.Tests.{failed}
use Rattle.state_bytes.specs.State.{state_bytes}
use Rattle.state_bytes.proofs.Stored.{is_short, is_held}
use Rattle.state_bytes.proofs.read.State.of.Goals as goal

pub returns-then-bytes-ne512-clause-held : goal.returns-then-bytes-ne512-clause-held
returns-then-bytes-ne512-clause-held c = sym (ne_eqb (length c.args.bytes.now) state_bytes c.if-bytes-ne512.true) ∙ is_short c.args.bytes.now c.if-bytes-ne512.true

pub returns-then-is_held-clause-held : goal.returns-then-is_held-clause-held
returns-then-is_held-clause-held c = is_held c.args.bytes.now c.if-bytes-ne512.false true (sym c.if-is_held.true ∙ c.is_held.ensures)

pub returns-else-is_held-clause-held : goal.returns-else-is_held-clause-held
returns-else-is_held-clause-held c = is_held c.args.bytes.now c.if-bytes-ne512.false false (sym (failed c.is_held.ensures c.if-is_held.false))
