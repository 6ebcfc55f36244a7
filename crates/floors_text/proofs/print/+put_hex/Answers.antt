-- `put_hex`: a digit more behind what the call of itself put.
use Rattle.std.proofs.Common.{arith, ◌-◌, ◌/◌}
use Rattle.floors_text.proofs.Puts.{put_none, put_last}
use Rattle.floors_text.proofs.Numbers.{hex_length, hex_more}
use Rattle.floors_text.proofs.print.+put_hex.Goals as goal

pub returns-then-digits-eq0 : goal.returns-then-digits-eq0
returns-then-digits-eq0 t c = rw c.if-digits-eq0.true (put_none c.args.output.now c.args.at)

pub put_hex-next-requires : goal.put_hex-next-requires
put_hex-next-requires t c = (omega (arith, c.decreases, c.if-digits-eq0.false), omega (arith, c.requires, c.if-digits-eq0.false))

pub put-requires : goal.put-requires
put-requires t c =
    omega (arith, c.put_hex-next.ensures.place, hex_length (c.args.digits - 1) (c.args.n / 16), c.requires)

pub returns : goal.returns
returns t c =
    put_last (hex_more c.args.digits c.args.n c.if-digits-eq0.false) c.glyph.ensures c.put_hex-next.ensures c.put.ensures
