-- `ceil`: the whole part, or one more where the test tells that there is a fraction.
use Rattle.std.proofs.Common.{sym, ◌∙◌}
use lib.Ieee.{of_bits}
use Rattle.arithmetic.specs.Number.{upward}
use Rattle.arithmetic.proofs.Whole.{whole_exact, room, rule_upward, ceil_more, ceil_same}
use Rattle.arithmetic.proofs.number.ceil.Goals.{else-has_fraction-via-then-has_fraction+else-nearest_u64_to_f64-x, else-has_fraction-via-else-has_fraction}
use Rattle.arithmetic.proofs.number.ceil.Goals as goal

pub overflow_add-result : goal.overflow_add-result
overflow_add-result c =
    record { fits = room c.args.x _ (sym c.has_fraction.ensures ∙ c.if-has_fraction.true) c.saturating_f64_to_u64-whole.ensures }

pub returns-then-nearest_u64_to_f64-x : goal.returns-then-nearest_u64_to_f64-x
unfolding of_bits
returns-then-nearest_u64_to_f64-x c =
    ceil_more c.args.x _ _ (sym c.has_fraction.ensures ∙ c.if-has_fraction.true) c.saturating_f64_to_u64-whole.ensures c.nearest_u64_to_f64.ensures c.if-nearest_u64_to_f64-x.true

pub returns-else-has_fraction : goal.returns-else-has_fraction
unfolding of_bits
returns-else-has_fraction c =
    elim c.else-has_fraction.branch [
      | else-has_fraction-via-then-has_fraction+else-nearest_u64_to_f64-x w ↦ ceil_same c.args.x _ _ (sym c.has_fraction.ensures ∙ w.if-has_fraction.true) c.saturating_f64_to_u64-whole.ensures w.nearest_u64_to_f64.ensures w.if-nearest_u64_to_f64-x.false
      | else-has_fraction-via-else-has_fraction w ↦ c.saturating_f64_to_u64-whole.ensures ∙ whole_exact upward rule_upward c.args.x c.well_formed.0.1 (sym c.has_fraction.ensures ∙ w.if-has_fraction.false)
    ]
