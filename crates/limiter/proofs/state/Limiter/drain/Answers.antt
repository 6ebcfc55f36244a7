-- `drain`: silence, rendered at the kept target.
use mathlib.Core.Path.{sym, ap, subst, ◌∙◌}
use Prim.Native.Nat.{◌+◌}
use native.Mathlib.Omega.{arith}
use mathlib.Core.List.{List}
use lib.Ieee.{Float, of_bits}
use Rattle.frame.specs.Rules.{rules_of}
use Rattle.frame.specs.Run.{Sanitized}
use Rattle.limiter.specs.Stores.{stores_in}
use Rattle.limiter.specs.Run.{Ran, drained_to, render_of, drain_of}
use Rattle.limiter.proofs.Frames.{silent_clean, drained_few}
use Rattle.limiter.proofs.state.Limiter.drain.Goals as goal

pub overflow_add-drained : goal.overflow_add-drained
overflow_add-drained c = omega (arith, drained_few _ _ _ _ c.requires)

pub render-after-requires-clause-sanitized : goal.render-after-requires-clause-sanitized
unfolding of_bits
render-after-requires-clause-sanitized c =
    let a = c.args in
    subst (Sanitized a.self.channels a.n) (sym (c.fill.ensures.after (λ y h. h))) (silent_clean _ _ _ _ c.requires)

pub returns-clause-run_done : goal.returns-clause-run_done
unfolding of_bits render_of drain_of
returns-clause-run_done c =
    let a = c.args in
    let stores = stores_in a.lent.now in
    let count = a.self.drained + a.n in
    rw c.drained_to.ensures
    (ap (λ (z : Ran). drained_to z count) c.render-after.ensures.run_done
    ∙ ap (λ (l : List Float). drained_to (render_of (rules_of a.self.settings a.format) a.self a.self.target a.n stores l) count) (c.fill.ensures.after (λ y h. h)))
