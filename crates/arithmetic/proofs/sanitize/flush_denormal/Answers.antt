-- `flush_denormal`: the two tests are the definition's one.
use lib.Ieee.{of_bits}
use Rattle.arithmetic.proofs.Cases.{flushed, kept_loud}
use Rattle.arithmetic.proofs.sanitize.flush_denormal.Goals as goal

pub returns-then-y : goal.returns-then-y
unfolding of_bits
returns-then-y c =
    let b = c in
    flushed b.args.x b.finite_or_zero-y.result b.finite_or_zero-y.ensures c.if-y.true

pub returns-else-y : goal.returns-else-y
returns-else-y c =
    let b = c in
    kept_loud b.args.x b.finite_or_zero-y.result b.finite_or_zero-y.ensures c.if-y.false
