-- `narrow_small`: the number of 2^−149, from the digits.
use Rattle.std.proofs.Common.{◌^◌, ◌≤◌, ◌∙◌, arith}
use Rattle.arithmetic.proofs.Ways32.{narrow_none, unit_fine, count_few, narrow_small_lem}
use Rattle.arithmetic.proofs.narrow.narrow_small.Goals as goal

pub returns-then-exponent-lt873 : goal.returns-then-exponent-lt873
returns-then-exponent-lt873 c = c.widen.ensures ∙ narrow_none c.args.b c.requires c.ranges.b.fits c.if-exponent-lt873.true

pub closest_to-count-requires : goal.closest_to-count-requires
closest_to-count-requires c =
    let fine = unit_fine c.args.b c.requires c.ranges.b.fits c.if-exponent-lt873.false in
    record { unit_some = fine.0; unit_even = fine.1.0; room = fine.1.1 }

-- the count
few : (c : goal.After-closest_to-count) → c.closest_to-count.result ≤ 2 ^ 23
few c = count_few c.args.b c.requires c.ranges.b.fits c.if-exponent-lt873.false c.closest_to-count.result c.closest_to-count.ensures

pub overflow_cast-sign-2 : goal.overflow_cast-sign-2
overflow_cast-sign-2 c = omega (arith, few c)

pub returns : goal.returns
returns c = let r = c in c.widen-2.ensures ∙ narrow_small_lem r.args.b r.requires r.ranges.b.fits r.if-exponent-lt873.false r.closest_to-count.result r.closest_to-count.ensures
