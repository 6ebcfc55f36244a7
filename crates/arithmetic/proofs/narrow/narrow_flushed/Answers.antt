-- `narrow_flushed`: what is neither small nor past the f32 values is not flushed; anything else goes both ways in turn.
use Rattle.std.proofs.Common.{sym, ap, ◌∙◌}
use Rattle.arithmetic.specs.Narrow.{narrowed}
use Rattle.arithmetic.proofs.NanPattern.{writes_number}
use Rattle.arithmetic.proofs.Flushed32.{flushed_nan, flush_kept}
use Rattle.arithmetic.proofs.narrow.narrow_flushed.Goals as goal

pub returns-then-x : goal.returns-then-x
returns-then-x c = flushed_nan c.args.x c.if-x.true

pub float_to_bits-m : goal.float_to_bits-m
float_to_bits-m c = writes_number c.args.x c.if-x.false

pub returns-then-m : goal.returns-then-m
returns-then-m c =
    let s = c in
    c.narrow_normal.ensures ∙ ap narrowed (sym (flush_kept s.args.x s.well_formed.0.1 c.if-m.true))
