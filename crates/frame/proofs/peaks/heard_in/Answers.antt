-- `heard_in`: what each of the three tests leaves, by `heard_so`.
use native.Mathlib.Omega.{arith}
use Rattle.std.proofs.lemmas.Grind.{common_steps}
use Rattle.frame.proofs.Heard.{heard_so}
use Rattle.frame.proofs.peaks.heard_in.Goals as goal

pub returns-then-answer-top : goal.returns-then-answer-top
returns-then-answer-top c =
    let both = heard_so _ _ c.args.answer c.requires _ c.if-y-top.top c.if-y-top-2.top c.args.answer c.finite_or_zero-y.ensures (grind (arith, common_steps)) (grind (arith, common_steps)) (grind (arith, common_steps)) in
    record { value = both.0; from_zero = both.1 }

pub returns-else-answer-top : goal.returns-else-answer-top
returns-else-answer-top c =
    let both = heard_so _ _ c.args.answer c.requires _ c.if-y-top.top c.if-y-top-2.top c.if-y-top-2.top c.finite_or_zero-y.ensures (grind (arith, common_steps)) (grind (arith, common_steps)) (grind (arith, common_steps)) in
    record { value = both.0; from_zero = both.1 }
