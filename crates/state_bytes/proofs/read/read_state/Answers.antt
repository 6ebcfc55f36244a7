-- `read_state`: by whether it is one.
use mathlib.Core.Path.{sym, ap, ◌∙◌}
use Rattle.std.proofs.Common.{is_some}
use Rattle.state_bytes.specs.State.{is_state, processor_in}
use Rattle.state_bytes.proofs.Stored.{never_is, read_other, read_parts}
use Rattle.state_bytes.proofs.read.read_state.Goals as goal

pub returns-in_default : goal.returns-in_default
returns-in_default c = never_is c.not_set_up.result c.not_set_up.ensures ∙ sym (read_other c.args.bytes.now (sym c.of.ensures.held ∙ ap is_some c.in_default.is))

pub returns : goal.returns
returns c =
    let s = c.in-Some.ensures in
    read_parts c.in-Some.state.bytes.now (ap is_state s.same ∙ sym s.held) c.limiter.result c.limiter.ensures c.threshold.result c.threshold.ensures c.bank_with.result c.bank_with.ensures
    ∙ ap processor_in s.same
