-- `put_count`: one text after the other.
use Rattle.floors_text.proofs.Puts.{put_then}
use Rattle.floors_text.proofs.print.put_count.Goals as goal

pub returns : goal.returns
returns c = put_then c.put_word-next.ensures c.put_decimal.ensures
