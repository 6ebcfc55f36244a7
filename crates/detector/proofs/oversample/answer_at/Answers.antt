-- `answer_at`: the code's table is that of specs/ woven, by its bits; its answer is that of a push after those before.
use borrow.Author.Rules.{rules}
use lib.ListN.{length, take}
use Rattle.detector.proofs.Line.{answer_there}
use Rattle.detector.proofs.Push.{run_by_table}
use Rattle.detector.specs.Oversample.{Pushed, largest_of, phase_of, detected}
use Rattle.detector.specs.Taps.{phase0, phase1, phase2, phase3, taps}
use lib.Ieee.{of_bits, neg}
use mathlib.Core.Path.{◌≡◌, refl, sym, ap, ◌∙◌}
use Rattle.detector.proofs.oversample.answer_at.Goals as goal

pub returns : goal.returns
unfolding of_bits neg taps phase0 phase1 phase2 phase3 detected
returns c =
    let a = c.args in
    let o = c.answer_one in
    let n = c.requires.store_len in
    let line = take (length a.samples.now) c.line_of-line.result in
    let whole : c.unwrap-store.result.now ≡ a.store.now = search rules in
    let there = answer_there taps a.store.now a.samples.now line a.at n c.requires.at_in_bounds c.line_of-line.ensures in
    let t = run_by_table _ a.store.now line a.at refl n in
    record {
      peak_value = (rw whole at o.ensures.peak_value) ∙ ap largest_of t ∙ ap (λ (p : Pushed). p.peak) (sym there);
      phase_value = (rw whole at o.ensures.phase_value) ∙ ap phase_of t ∙ ap (λ (p : Pushed). p.phase) (sym there);
    }
