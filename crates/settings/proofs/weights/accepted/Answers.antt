-- `accepted`: the clauses in turn are the rule.
use Rattle.std.proofs.Common.{sym, refl, ◌∙◌}
use Rattle.settings.specs.Weights.{accepted}
use Rattle.settings.proofs.weights.accepted.Goals as goal

pub returns-then-not-sums_up : goal.returns-then-not-sums_up
unfolding accepted
returns-then-not-sums_up c =
    rw (sym c.sums_up.ensures ∙ c.if-not-sums_up.true) refl

pub returns : goal.returns
unfolding accepted
returns c =
    rw (c.mirrored.ensures, c.rising.ensures, sym c.sums_up.ensures ∙ c.if-not-sums_up.false) refl
