-- `word`: the eight bytes.
use mathlib.Core.Path.{ap, ◌∙◌}
use Rattle.std.specs.Int.{w64, from_le_bytes}
use Rattle.audio.proofs.Numbers.{le_word_at}
use Rattle.audio.proofs.words.word.Goals as goal

pub returns : goal.returns
returns c = c.from_le_bytes.ensures ∙ ap (from_le_bytes w64) c.bytes_at.ensures ∙ le_word_at 7 c.args.at c.args.bytes.now c.requires
