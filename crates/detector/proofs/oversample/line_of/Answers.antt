-- `line_of`: at each turn the line agrees with the sanitized samples on those passed.
use mathlib.Core.Path.{◌≡◌, ◌∙◌}
use mathlib.Core.List.{map}
use native.Mathlib.Omega.{arith}
use borrow.Author.Rules.{rules}
use lib.ListN.{length, length-set, length-map}
use lib.Seq.{take_all}
use Rattle.arithmetic.specs.Sanitize.{finite_or_zero}
use Rattle.detector.proofs.Line.{laid_more}
use Rattle.detector.proofs.oversample.line_of.Goals as goal

pub loop-i-preserved : goal.loop-i-preserved
loop-i-preserved c =
    let a = c.args in (
      simp length-set c.loop-i.invariant.0,
      laid_more a.samples.now c.loop-i.line c.loop-i.i c.finite_or_zero.result (search rules) (search rules) c.finite_or_zero.ensures c.loop-i.invariant.1,
    )

pub returns : goal.returns
returns c =
    let s = c.args.samples.now in
    let m = map finite_or_zero s in
    let e : c.loop-i.i ≡ length s = search rules in
    (rw e at c.loop-i.invariant.1) ∙ take_all (length s) m (omega (arith, length-map s finite_or_zero))
