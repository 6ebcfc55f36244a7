-- `target`: the argument is within the domain, so the answer is the value.
use Rattle.std.proofs.Common.{◌≡◌, true, ap, ◌∙◌}
use lib.Ieee.{Float}
use Rattle.arithmetic.specs.Exp.{in_domain, exp_of}
use Rattle.arithmetic.proofs.Exp.{value_or}
use Rattle.settings.specs.Target.{kept, target_of}
use Rattle.settings.proofs.Domain.{kept_within}
use Rattle.settings.proofs.target.target.Goals as goal

-- what is kept of any argument is within the domain
result_within : (a : Float) {r : Float} → r ≡ kept a → in_domain r ≡ true
result_within a e = rw e (kept_within a)

pub returns : goal.returns
unfolding target_of
returns c =
    let k = c.kept_argument-a in
    c.unwrap_or.ensures ∙ value_or _ (result_within _ k.ensures) _ _ c.exp.ensures ∙ ap exp_of k.ensures
