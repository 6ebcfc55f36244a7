-- `lay_newest`: at each turn the samples passed stand in the first places.
use mathlib.Core.Path.{◌≡◌, ap, ◌∙◌}
use mathlib.Core.List.{map, reverse}
use borrow.Author.Rules.{rules}
use Rattle.arithmetic.specs.Sanitize.{finite_or_zero}
use Rattle.detector.proofs.Turns.{joined}
use Rattle.detector.proofs.Line.{newest_more}
use Rattle.detector.proofs.oversample.lay_newest.Goals as goal

pub loop-i-preserved : goal.loop-i-preserved
loop-i-preserved c =
    let a = c.args in
    newest_more a.samples.now c.loop-i.store c.loop-i.i c.finite_or_zero.result (search rules) a.store.now (search rules) c.finite_or_zero.ensures c.loop-i.invariant

pub returns : goal.returns
returns c =
    let a = c.args in
    let e : c.loop-i.i ≡ a.n = search rules in
    c.loop-i.invariant ∙ ap (joined (reverse (map finite_or_zero a.samples.now)) a.store.now) e
