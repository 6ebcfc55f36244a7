-- `target_now`: the target of the first slot's value.
use mathlib.Core.Path.{refl, ◌∙◌}
use Rattle.turns.proofs.turn.target_now.Goals as goal

pub returns : goal.returns
returns c = c.target.ensures ∙ rw c.value_at.ensures refl
