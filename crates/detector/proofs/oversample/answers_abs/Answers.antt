-- `answers_abs`: the answers of a run of which the line is the sanitized samples.
use borrow.Author.Rules.{rules}
use mathlib.Core.Path.{◌≡◌}
use Rattle.detector.proofs.Line.{answers_are}
use Rattle.detector.specs.Taps.{taps}
use Rattle.detector.proofs.oversample.answers_abs.Goals as goal

pub returns : goal.returns
returns c =
    let a = c.args in
    let r = c.answer_run in
    let s : c.unwrap-store.result.now ≡ a.store.now = search rules in
    answers_are taps a.store.now a.samples.now _ r.new.answers c.requires.store_len c.line_of-line.ensures (rw s at r.ensures)
