-- `write_answer`: the first words are stored.
use mathlib.Core.Path.{◌≡◌, sym, ap, ◌∙◌}
use Prim.Native.Nat.{min}
use borrow.Author.Rules.{rules}
use lib.ListN.{length}
use Rattle.host.proofs.Kept.{words_stored}
use Rattle.host.proofs.answer.write_answer.Goals as goal

pub returns : goal.returns
returns c =
    let old = c.args.buffer.now in
    let eight : length c.args.t.words ≡ 8 = search rules in
    words_stored old c.args.t.words _ _ (c.min-n.ensures ∙ ap (min (length old)) (sym eight)) c.copy_from_slice.ensures.after
