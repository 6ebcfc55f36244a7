-- `answer_run`: the code's table is that of specs/ woven, by its bits.
use mathlib.Core.Path.{◌∙◌}
use borrow.Author.Rules.{rules}
use lib.Ieee.{of_bits, neg}
use Rattle.detector.specs.Taps.{phase0, phase1, phase2, phase3, taps}
use Rattle.detector.specs.Oversample.{remembered, sums_of}
use Rattle.detector.specs.Sums.{sums_by}
use Rattle.detector.proofs.Sums.{woven, table_sums}
use Rattle.detector.proofs.Line.{answers_same}
use Rattle.detector.proofs.oversample.answer_run.Goals as goal

pub returns : goal.returns
unfolding of_bits neg taps phase0 phase1 phase2 phase3
returns c =
    let a = c.args in
    c.answer_all.ensures ∙ answers_same (sums_by (woven remembered taps)) (sums_of taps) table_sums a.store.now a.run.now (search rules)
