-- `ring_in_order`: the five tests, regrouped.
use mathlib.Core.Path.{refl, sym, ◌∙◌}
use Rattle.arithmetic.proofs.Order.{and-true}
use Rattle.keeper.proofs.Calls.{regroup}
use Rattle.keeper.proofs.FloorKeeper.ring_in_order.Goals as goal
use Rattle.keeper.proofs.FloorKeeper.ring_in_order.Goals.{then-ends_fit, else-ends_fit}

pub returns-then-entries_rise : goal.returns-then-entries_rise
returns-then-entries_rise c =
    elim c.if-ends_fit.branch [
      | then-ends_fit w ↦
          let rose = sym w.entries_rise.ensures ∙ sym w.value-is ∙ c.if-entries_rise.true in
          rw (regroup, ← c.ends_fit.ensures c.args.minima.now, w.if-ends_fit.true, rose) (c.minima_unit.ensures c.args.marks.now (and-true _ _ rose).1)
      | else-ends_fit w ↦ cc
    ]

pub returns-else-entries_rise : goal.returns-else-entries_rise
returns-else-entries_rise c =
    elim c.if-ends_fit.branch [
      | then-ends_fit w ↦ rw (regroup, ← c.ends_fit.ensures c.args.minima.now, w.if-ends_fit.true, ← w.entries_rise.ensures, ← w.value-is, c.if-entries_rise.false) refl
      | else-ends_fit w ↦ rw (regroup, ← c.ends_fit.ensures c.args.minima.now, w.value-is, w.if-ends_fit.false) refl
    ]
