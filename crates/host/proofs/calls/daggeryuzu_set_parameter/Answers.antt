-- `daggeryuzu_set_parameter`: the driver's call through bytes.
use mathlib.Core.Path.{ap}
use mathlib.Core.List.{[]}
use Rattle.limiter.specs.Stores.{stores_at}
use Rattle.driver.specs.Answers.{machine_at}
use Rattle.bank.specs.Answers.{param_set_reply}
use Rattle.driver.specs.Calls.{Left}
use Rattle.host.specs.Host.{parameter_by}
use Rattle.host.proofs.Through.{finished_long, called, parameter_by_lem, parameter_word}
use Rattle.host.proofs.calls.daggeryuzu_set_parameter.Goals as goal

pub leave-requires : goal.leave-requires
leave-requires c =
    let none = stores_at [] [] [] [] [] [] in
    let m = machine_at c.read_state-p.result none in
    let s = c.set_parameter_immediate-told in
    let o = parameter_word m c.args.id c.args.value (param_set_reply s.result) (machine_at s.new.self none) c.from_bits.result c.from_bits.ensures (s.ensures none) in
    finished_long c.args.answer.now c.args.state.now c.read_state-p.result c.read_state-p.ensures _ (parameter_by c.args.id c.args.value m).reply c.with_word.result
    (parameter_by_lem m c.args.id c.args.value) (ap (λ (l : Left). l.reply) o) c.with_word.ensures

pub returns : goal.returns
returns c =
    λ stores.
    let m = machine_at c.read_state-p.result stores in
    let s = c.set_parameter_immediate-told in
    called c.args.answer.now c.args.state.now c.read_state-p.result c.read_state-p.ensures _ s.new.self stores c.with_word.result _ _ _
    c.with_word.ensures c.leave.ensures.value c.leave.ensures.buffer_after c.leave.ensures.state_after (parameter_by c.args.id c.args.value) stores
    (parameter_word m c.args.id c.args.value (param_set_reply s.result) (machine_at s.new.self stores) c.from_bits.result c.from_bits.ensures (s.ensures stores))
