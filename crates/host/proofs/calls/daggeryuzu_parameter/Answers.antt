-- `daggeryuzu_parameter`: the reading through bytes.
use Rattle.bank.specs.Answers.{bank_value_reply}
use Rattle.host.proofs.Through.{told, value_read}
use Rattle.host.proofs.calls.daggeryuzu_parameter.Goals as goal

pub returns : goal.returns
returns c =
    value_read c.args.answer.now c.args.state.now c.read_state-p.result c.read_state-p.ensures c.args.id (bank_value_reply c.value.result) c.from-t.result _
    c.value.ensures (told bank_value_reply _ _ c.from-t.ensures) c.write_answer.ensures
