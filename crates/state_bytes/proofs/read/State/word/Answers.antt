-- `word`: eight bytes, from their place on.
use mathlib.Core.Path.{◌∙◌}
use Rattle.state_bytes.specs.State.{state_words}
use Rattle.state_bytes.proofs.Stored.{word_in}
use Rattle.state_bytes.proofs.read.State.word.Goals as goal

pub returns : goal.returns
returns c = let a = c.args in c.word.ensures ∙ word_in a.self.now.bytes.now state_words a.k c.requires
