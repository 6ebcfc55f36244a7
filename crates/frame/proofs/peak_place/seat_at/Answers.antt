-- `seat_at`: a sample as high among the channels from c on, or else what `between` tells.
use Rattle.frame.proofs.Seats.{voices_since, sample_found, sample_passed, sample_none, seat_none, seat_some}
use Rattle.std.specs.Prelude.{Option, Some}
use Rattle.frame.specs.declared.highest.Seat.{Seat}
use Rattle.frame.specs.Passes.{voices_pass}
use Rattle.frame.specs.Seat.{between_from, sample_from}
use Rattle.frame.specs.Rules.{linking_of}
use lib.Ieee.{of_bits}
use mathlib.Core.Path.{refl, ap, ◌∙◌}
use borrow.Author.Rules.{rules}
use Rattle.frame.proofs.peak_place.seat_at.Goals as goal

pub returns-then-peak : goal.returns-then-peak
unfolding of_bits
returns-then-peak c =
    let a = c.args in
    seat_none a.span.settings a.span.channels a.at a.detector.now a.audio.now a.peak c.if-peak.true

pub returns-then-counts_in-sample : goal.returns-then-counts_in-sample
unfolding of_bits
returns-then-counts_in-sample c =
    let a = c.args in
    let d = a.detector.now in
    let x = a.audio.now in
    let i = c.loop-c.c in
    let other = between_from a.peak 0 (voices_pass (linking_of a.span.settings) 0 a.span.channels a.at d x) in
    seat_some a.span.settings a.span.channels a.at d x a.peak (Some (Seat.OnSample i)) c.if-peak.false
    (sample_found a.span.settings a.span.channels a.at d x a.peak i _ (search rules) refl other (cc) ∙ c.loop-c.invariant other)

pub loop-c-preserved : goal.loop-c-preserved
loop-c-preserved c =
    let a = c.args in
    let d = a.detector.now in
    let x = a.audio.now in
    let i = c.loop-c.c in
    λ other. sample_passed a.span.settings a.span.channels a.at d x a.peak i _ (search rules) refl other (cc) ∙ c.loop-c.invariant other

pub returns : goal.returns
unfolding of_bits
returns c =
    let a = c.args in
    let d = a.detector.now in
    let x = a.audio.now in
    seat_some a.span.settings a.span.channels a.at d x a.peak c.between.result c.if-peak.false
    (sample_none a.span.settings a.span.channels a.at d x a.peak c.loop-c.c c.between.result (search rules) ∙ c.loop-c.invariant c.between.result
    ∙ ap (λ (other : Option Seat). sample_from other a.peak 0 (voices_since a.span.settings a.span.channels a.at d x 0)) c.between.ensures)
