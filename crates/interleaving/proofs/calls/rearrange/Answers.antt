-- `rearrange`: refused, one channel, or through.
use mathlib.Core.Path.{ap, ◌∙◌}
use Rattle.std.specs.Prelude.{Result, Err}
use Rattle.std.proofs.lemmas.Result.{err_from_is_err_and}
use Rattle.interleaving.specs.Calls.{outcome}
use Rattle.interleaving.specs.declared.calls.RearrangeRefusal.{RearrangeRefusal}
use Rattle.interleaving.proofs.Answers.{answer_refused, answer_single, answer_taken, answer_moved}
use Rattle.interleaving.proofs.calls.rearrange.Goals as goal

pub returns-in_err-shape : goal.returns-in_err-shape
returns-in_err-shape c =
    let a = c.args in
    let handed = err_from_is_err_and c.from_residual.result c.from_residual.ensures.1 in
    ap (λ (r : Result Unit RearrangeRefusal). outcome r a.bytes.now) (handed.1 ∙ ap (λ (why : RearrangeRefusal). Err why) handed.2)
    ∙ answer_refused a.direction a.format a.channels a.bytes.now _ (c.in_err-shape.ensures.refused a.bytes.now c.size_of.ensures)

pub returns-then-channels-eq1 : goal.returns-then-channels-eq1
returns-then-channels-eq1 c = let a = c.args in answer_single a.direction a.format a.channels a.bytes.now (c.in_ok-shape.ensures.refused a.bytes.now c.size_of.ensures) c.if-channels-eq1.true

pub through-requires : goal.through-requires
through-requires c =
    let a = c.args in
    let told = c.in_ok-shape.ensures in
    answer_taken a.direction a.format a.channels a.bytes.now (told.refused a.bytes.now c.size_of.ensures) c.in_ok-shape.shape (rw c.size_of.ensures at told.shape)

pub returns : goal.returns
returns c =
    let a = c.args in
    let told = c.in_ok-shape.ensures in
    answer_moved a.direction a.format a.channels a.bytes.now (told.refused a.bytes.now c.size_of.ensures) c.in_ok-shape.shape (rw c.size_of.ensures at told.shape) c.through.new.bytes c.through.auto.bytes c.through.ensures
