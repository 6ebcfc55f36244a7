-- `between`: what the channels from c on tell stays what they all do.
use Rattle.frame.proofs.Seats.{counted_test, all_voices, answers_here, between_found, between_passed, between_none}
use Rattle.frame.specs.Seat.{between_from}
use Rattle.detector.specs.Oversample.{Pushed}
use native.Mathlib.Omega.{arith}
use Prim.Native.Nat.{◌+◌, ◌-◌, ◌*◌}
use mathlib.Core.Bool.{true, false}
use mathlib.Core.Path.{ap, ◌∙◌}
use borrow.Author.Rules.{rules}
use Rattle.frame.proofs.peak_place.between.Goals as goal

pub loop-c-init : goal.loop-c-init
loop-c-init c =
    let a = c.args in
    ap (between_from a.peak 0) (all_voices a.span.settings a.span.channels a.at a.detector.now a.audio.now)

pub returns-then-counts_in-answer : goal.returns-then-counts_in-answer
returns-then-counts_in-answer c =
    let a = c.args in
    let o = c.answer_at-answer in
    let k = c.counts_in in
    let i = c.loop-c.c in
    let d = a.detector.now in
    let x = a.audio.now in
    let here = answers_here a.span.settings a.span.channels a.at d x a.span.n i 12 a.span.n (search rules) (omega arith) (omega arith) in
    between_found a.span.settings a.span.channels a.at d x a.peak i o.result.phase c.heard_by.result (search rules)
    (counted_test k.result _ true o.result.peak _ a.peak k.ensures ((rw (c.store.ensures, c.samples.ensures.value) at o.ensures.peak_value) ∙ ap (λ (p : Pushed). p.peak) here) c.if-counts_in-answer.true) ((rw (c.store.ensures, c.samples.ensures.value) at o.ensures.phase_value) ∙ ap (λ (p : Pushed). p.phase) here) c.heard_by.ensures ∙ c.loop-c.invariant

pub loop-c-preserved : goal.loop-c-preserved
loop-c-preserved c =
    let a = c.args in
    let o = c.answer_at-answer in
    let k = c.counts_in in
    let i = c.loop-c.c in
    let d = a.detector.now in
    let x = a.audio.now in
    let here = answers_here a.span.settings a.span.channels a.at d x a.span.n i 12 a.span.n (search rules) (omega arith) (omega arith) in
    between_passed a.span.settings a.span.channels a.at d x a.peak i (search rules)
    (counted_test k.result _ false o.result.peak _ a.peak k.ensures ((rw (c.store.ensures, c.samples.ensures.value) at o.ensures.peak_value) ∙ ap (λ (p : Pushed). p.peak) here) c.if-counts_in-answer.false) ∙ c.loop-c.invariant

pub returns : goal.returns
returns c =
    let a = c.args in
    between_none a.span.settings a.span.channels a.at a.detector.now a.audio.now a.peak c.loop-c.c (search rules) ∙ c.loop-c.invariant
