-- `put_refusal`: one text after the other.
use native.Mathlib.Omega.{arith}
use lib.ListN.{length-append}
use Rattle.floors_text.specs.Print.{ascii, decimal_of, refusal_line}
use Rattle.floors_text.proofs.Puts.{put_then, refusal_length}
use Rattle.floors_text.proofs.print.put_refusal.Goals as goal

pub put_count-next-requires : goal.put_count-next-requires
put_count-next-requires c = omega (arith, refusal_length c.args.line, c.requires)

pub put_word-requires : goal.put_word-requires
put_word-requires c =
    omega (arith, refusal_length c.args.line, c.requires, c.put_count-next.ensures.place, length-append (ascii "refused=25 line=") (decimal_of c.args.line))

pub returns : goal.returns
unfolding refusal_line
returns c = put_then c.put_count-next.ensures c.put_word.ensures
