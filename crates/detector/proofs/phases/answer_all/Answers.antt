-- `answer_all`: at each turn the answers passed are those of the run.
use Rattle.detector.proofs.Line.{answers_length, answer_more, first_answers}
use Rattle.arithmetic.proofs.Copy.{copied_all}
use Rattle.detector.specs.Oversample.{largest_of}
use Rattle.detector.specs.Sums.{sums_by, answers_of}
use lib.ListN.{length}
use Prim.Native.Nat.{◌*◌, ◌/◌}
use mathlib.Core.Path.{ap, ◌∙◌}
use borrow.Author.Rules.{rules}
use Rattle.detector.proofs.phases.answer_all.Goals as goal

pub loop-i-init : goal.loop-i-init
loop-i-init c =
    let a = c.args in
    let f = c.answer_fours in
    let n = length a.run.now in
    first_answers (sums_by a.table.now) a.store.now a.run.now f.new.answers (n / 4 * 4) (search rules) f.ensures

pub loop-i-preserved : goal.loop-i-preserved
loop-i-preserved c =
    let a = c.args in
    let l = c.loop-i in
    let o = c.sums_of_one-sums in
    let t = c.largest_of in
    answer_more (sums_by a.table.now) a.store.now a.run.now l.answers l.i t.result (search rules) (search rules) l.invariant (t.ensures ∙ ap largest_of o.ensures)

pub returns : goal.returns
returns c =
    let a = c.args in
    copied_all c.loop-i.answers (answers_of (sums_by a.table.now) a.store.now a.run.now) c.loop-i.i (search rules) (rw (answers_length (sums_by a.table.now) a.store.now a.run.now) (search rules)) c.loop-i.invariant
