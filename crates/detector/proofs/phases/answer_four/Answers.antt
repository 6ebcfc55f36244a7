-- `answer_four`: each answer is the largest of its own four sums.
use mathlib.Core.Path.{◌≡◌, ap, ◌∙◌}
use Prim.Native.Nat.{◌+◌, ◌*◌, ◌-◌}
use native.Mathlib.Omega.{arith}
use borrow.Author.Rules.{rules}
use Rattle.detector.specs.Oversample.{largest_of}
use Rattle.detector.specs.Sums.{sums_by}
use Rattle.detector.proofs.Line.{answer_more}
use Rattle.detector.proofs.Fours.{quarter}
use Rattle.detector.proofs.phases.answer_four.Goals as goal

pub loop-r-preserved : goal.loop-r-preserved
loop-r-preserved c =
    λ before.
    let a = c.args in
    let l = c.loop-r in
    let o = c.largest_of in
    let w : 4 * l.r + 4 - 4 * l.r ≡ 4 = omega arith in
    let next : a.at + (l.r + 1) ≡ a.at + l.r + 1 = omega arith in
    let q = quarter a.table.now a.store.now a.run.now a.at l.r c.loop-r-test.true in
    rw next
    (answer_more (sums_by a.table.now) a.store.now a.run.now l.answers (a.at + l.r) o.result (search rules) (search rules) (l.invariant before) ((rw (w, c.sums_of_four-sums.ensures) at o.ensures) ∙ ap largest_of q))

pub returns : goal.returns
returns c =
    let four : c.loop-r.r ≡ 4 = search rules in
    rw four at c.loop-r.invariant
