-- `put_decimal`: a digit more behind what the call of itself put.
use Rattle.std.proofs.Common.{arith, ap, length}
use Rattle.floors_text.proofs.Puts.{put_last}
use Rattle.floors_text.proofs.Numbers.{decimal_one, decimal_more, decimal_longer}
use Rattle.floors_text.proofs.print.+put_decimal.Goals as goal

pub put-requires : goal.put-requires
put-requires t c = omega (arith, c.requires, ap length (decimal_one c.args.n c.if-n-lt10.true))

pub returns-then-n-lt10 : goal.returns-then-n-lt10
returns-then-n-lt10 t c = rw (decimal_one c.args.n c.if-n-lt10.true, ← c.glyph.ensures) c.put.ensures

pub put_decimal-next-requires : goal.put_decimal-next-requires
put_decimal-next-requires t c =
    let n = c.args.n in
    (omega (arith, c.decreases, c.if-n-lt10.false), omega (arith, c.requires, decimal_longer n c.if-n-lt10.false))

pub put-requires-2 : goal.put-requires-2
put-requires-2 t c = omega (arith, c.put_decimal-next.ensures.place, decimal_longer c.args.n c.if-n-lt10.false, c.requires)

pub returns : goal.returns
returns t c =
    put_last (decimal_more c.args.n c.if-n-lt10.false) c.glyph-2.ensures c.put_decimal-next.ensures c.put-2.ensures
