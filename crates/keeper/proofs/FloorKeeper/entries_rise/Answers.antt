-- `entries_rise`: the answer so far and the test on the entries left are the test on all.
use mathlib.Core.Path.{◌≡◌, ap, ◌∙◌}
use Prim.Native.Nat.{ℕ, ◌+◌, ◌-◌}
use native.Mathlib.Omega.{arith}
use Rattle.keeper.specs.Ring.{wrap}
use Rattle.keeper.proofs.Rising.{front_rises, next_on}
use Rattle.keeper.proofs.FloorKeeper.entries_rise.Goals as goal

pub loop-i-preserved : goal.loop-i-preserved
loop-i-preserved c =
    let k = c.args.self in
    let l = c.loop-i in
    let p = c.place-next.ensures in
    let stay : l.i ≡ l.i + 1 - 1 = omega arith in (
      p.value ∙ ap (λ (i : ℕ). wrap (k.look + 1) (k.head + i)) stay,
      p.inside,
      front_rises _ _ _ _ _ l.invariant.1 (next_on _ _ l.i _ _ (omega arith) (omega arith) (omega arith) l.invariant.0 p.value) (k.len + 1 - l.i) _ (omega arith) (omega arith) (omega arith) _ _ l.invariant.2 _ c.rises-ok.ensures,
    )
