-- `peaks_abs`: a run answered and remembered, or left alone.
use Rattle.detector.proofs.Line.{ran, run_alone, store_alone, answers_alone}
use Rattle.detector.proofs.Store.{run_pushes}
use Rattle.detector.specs.Taps.{taps}
use mathlib.Core.Path.{sym, ◌∙◌}
use Rattle.detector.proofs.oversample.peaks_abs.Goals as goal

pub returns-then-n-gt32 : goal.returns-then-n-gt32
returns-then-n-gt32 c =
    let a = c.args in
    run_alone taps a.store.now a.samples.now a.answers.now c.if-n-gt32.true

pub returns-then-store-ne12 : goal.returns-then-store-ne12
returns-then-store-ne12 c =
    let a = c.args in
    store_alone taps a.store.now a.samples.now a.answers.now c.if-n-gt32.false c.if-store-ne12.true

pub returns-then-answers-n : goal.returns-then-answers-n
returns-then-answers-n c =
    let a = c.args in
    answers_alone taps a.store.now a.samples.now a.answers.now c.if-n-gt32.false c.if-store-ne12.false c.if-answers-n.true

pub returns : goal.returns
returns c =
    let a = c.args in
    let r = c.remember in
    let o = c.answers_abs in
    ran taps a.store.now a.samples.now o.new.answers r.new.store o.ensures r.ensures
    ∙ sym (run_pushes taps a.store.now a.samples.now a.answers.now c.if-n-gt32.false c.if-store-ne12.false c.if-answers-n.false)
