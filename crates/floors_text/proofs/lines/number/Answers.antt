-- `number`: the digits that are left, after the value so far, spell the number of all of them; the value of i digits is below 16 ^ i, so that 16 of them fit.
use mathlib.Core.Path.{sym, ◌∙◌}
use native.Mathlib.Omega.{arith}
use Rattle.floors_text.proofs.Numbers.{value_fits, digit_more, digit_fits, digit_below}
use Rattle.floors_text.proofs.lines.number.Goals as goal

pub overflow_mul-value : goal.overflow_mul-value
overflow_mul-value c = let l = c.loop-byte in omega (arith, value_fits l.value c.args.base l.byte-index l.invariant.0 (omega arith) c.requires.1)

pub overflow_add-value : goal.overflow_add-value
overflow_add-value c =
    let l = c.loop-byte in
    let d = digit_below c.args.digits.now c.args.base l.value l.byte-index (omega arith) _ (sym c.in_ok-value.ensures) in
    omega (arith, digit_fits l.value c.args.base l.byte-index l.invariant.0 (omega arith) c.requires.1 _ d.0)

pub loop-byte-preserved : goal.loop-byte-preserved
loop-byte-preserved c =
    let l = c.loop-byte in
    let d = digit_below c.args.digits.now c.args.base l.value l.byte-index (omega arith) _ (sym c.in_ok-value.ensures) in
    (digit_more l.value c.args.base l.byte-index l.invariant.0 (omega arith) c.requires.1 _ d.0, d.1 ∙ l.invariant.1)
