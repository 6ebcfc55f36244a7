-- `round`: the whole part, or one more where the test tells that there is a fraction of a half or more.
use Rattle.std.proofs.Common.{sym, ◌∙◌}
use lib.Ieee.{of_bits}
use Rattle.arithmetic.specs.Number.{halves_up}
use Rattle.arithmetic.proofs.Whole.{whole_exact, room, rule_halves, round_above, round_below}
use Rattle.arithmetic.proofs.number.round.Goals.{else-has_fraction-via-then-has_fraction+else-not-x-nearest_u64_to_f64, else-has_fraction-via-else-has_fraction}
use Rattle.arithmetic.proofs.number.round.Goals as goal

pub overflow_add-result : goal.overflow_add-result
overflow_add-result c =
    record { fits = room c.args.x _ (sym c.has_fraction.ensures ∙ c.if-has_fraction.true) c.saturating_f64_to_u64-whole.ensures }

pub returns-then-not-x-nearest_u64_to_f64 : goal.returns-then-not-x-nearest_u64_to_f64
unfolding of_bits
returns-then-not-x-nearest_u64_to_f64 c =
    round_above c.args.x _ _ (sym c.has_fraction.ensures ∙ c.if-has_fraction.true) c.saturating_f64_to_u64-whole.ensures c.nearest_u64_to_f64.ensures c.if-not-x-nearest_u64_to_f64.true

pub returns-else-has_fraction : goal.returns-else-has_fraction
unfolding of_bits
returns-else-has_fraction c =
    elim c.else-has_fraction.branch [
      | else-has_fraction-via-then-has_fraction+else-not-x-nearest_u64_to_f64 w ↦ round_below c.args.x _ _ (sym c.has_fraction.ensures ∙ w.if-has_fraction.true) c.saturating_f64_to_u64-whole.ensures w.nearest_u64_to_f64.ensures w.if-not-x-nearest_u64_to_f64.false
      | else-has_fraction-via-else-has_fraction w ↦ c.saturating_f64_to_u64-whole.ensures ∙ whole_exact halves_up rule_halves c.args.x c.well_formed.0.1 (sym c.has_fraction.ensures ∙ w.if-has_fraction.false)
    ]
