-- `answer_fours`: at each turn the answers agree with the definition's on those passed.
use mathlib.Core.Path.{◌≡◌, ◌∙◌}
use Prim.Native.Nat.{◌+◌, ◌*◌}
use native.Mathlib.Omega.{arith}
use borrow.Author.Rules.{rules}
use lib.ListN.{length}
use lib.Seq.{take_all}
use Rattle.detector.specs.Sums.{sums_by, answers_of}
use Rattle.detector.proofs.Line.{answers_length}
use Rattle.detector.proofs.phases.answer_fours.Goals as goal

pub loop-g-preserved : goal.loop-g-preserved
loop-g-preserved c =
    let p = c.answer_four in
    let k : 4 * (c.loop-g.g + 1) ≡ 4 * c.loop-g.g + 4 = omega arith in
    rw k (p.ensures c.loop-g.invariant)

pub returns : goal.returns
returns c =
    let a = c.args in
    let k : 4 * c.loop-g.g ≡ length a.run.now = search rules in
    let n = answers_length (sums_by a.table.now) a.store.now a.run.now in
    rw k at c.loop-g.invariant ∙ take_all (length a.run.now) (answers_of (sums_by a.table.now) a.store.now a.run.now) (omega (arith, n))
