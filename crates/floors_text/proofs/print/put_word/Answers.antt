-- `put_word`: the first bytes of the word are put.
use native.Mathlib.Omega.{arith}
use Rattle.floors_text.proofs.Puts.{put_more}
use Rattle.floors_text.proofs.print.put_word.Goals as goal

pub loop-byte-preserved : goal.loop-byte-preserved
loop-byte-preserved c =
    let l = c.loop-byte in
    (omega (arith, c.put-next.ensures.place, l.invariant.0), put_more _ l.byte-index (omega arith) l.invariant.1 c.put-next.ensures)
