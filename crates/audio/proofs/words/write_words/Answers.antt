-- `write_words`: the bytes passed, and those of the words that are left.
use mathlib.Core.Path.{refl, ◌∙◌}
use native.Mathlib.Omega.{arith}
use Rattle.audio.proofs.Numbers.{write_more, write_done}
use Rattle.audio.proofs.words.write_words.Goals as goal

pub loop-i-preserved : goal.loop-i-preserved
loop-i-preserved c =
    rw c.put_word.ensures (write_more c.loop-i.bytes c.args.words.now c.loop-i.i _ (omega arith) (omega arith) refl ∙ c.loop-i.invariant)

pub returns : goal.returns
returns c =
    let a = c.args in
    write_done c.loop-i.bytes a.words.now c.loop-i.i (omega arith) (omega arith) ∙ c.loop-i.invariant
