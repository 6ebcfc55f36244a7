-- `highest_in`: nothing is higher, or the first of the highest takes its place.
use lib.Ieee.{of_bits}
use Rattle.frame.proofs.Found.{none_higher}
use Rattle.frame.proofs.Risen.{risen_tells, told_before, told_here, nothing_above}
use Rattle.frame.specs.Passes.{risen_to}
use Rattle.frame.specs.Rules.{linking_of}
use Rattle.arithmetic.proofs.Order.{clash}
use Prim.Native.Nat.{◌+◌}
use mathlib.Core.Bool.{Bool, true, false, not}
use mathlib.Core.Path.{◌≡◌, refl, sym, ◌∙◌}
use Rattle.frame.proofs.peak_place.highest_in.Goals as goal

off : (b : Bool) → not b ≡ true → b ≡ false
off true h = clash false h refl
off false h = refl

pub returns-then-best : goal.returns-then-best
unfolding of_bits
returns-then-best c =
    let a = c.args in
    λ target whole alike. none_higher a.first a.best _ c.if-best.true

pub returns-then-not-any_above : goal.returns-then-not-any_above
returns-then-not-any_above c =
    let a = c.args in
    let d = a.detector.now in
    let x = a.audio.now in
    let ps = a.peaks.now in
    let linking = linking_of a.span.settings in
    nothing_above linking a.span.channels a.span.n a.first d x a.best ps c.requires.peaks_len (sym c.any_above.ensures ∙ c.if-not-any_above.true)

pub returns-in_default : goal.returns-in_default
returns-in_default c =
    let a = c.args in
    let ps = a.peaks.now in
    let linking = linking_of a.span.settings in
    let t = c.top_of-top in
    risen_tells linking a.span.channels a.span.n a.first a.detector.now a.audio.now a.best ps (risen_to t.result.peak t.result.at) a.best c.requires.peaks_len t.ensures.risen
    (told_before linking a.span.channels a.span.n a.first a.detector.now a.audio.now a.best t.result.peak t.result.at c.in_default.is)

pub returns : goal.returns
returns c =
    let a = c.args in
    let d = a.detector.now in
    let x = a.audio.now in
    let ps = a.peaks.now in
    let linking = linking_of a.span.settings in
    let t = c.top_of-top in
    let g = c.seat_at-seat in
    let i = c.in-Some.at in
    risen_tells linking a.span.channels a.span.n a.first d x a.best ps (risen_to t.result.peak t.result.at) (record { peak = t.result.peak; frame = a.first + i; seat = g.result }) c.requires.peaks_len t.ensures.risen
    (told_here linking a.span.channels a.span.n a.first d x a.best t.result.peak t.result.at i g.result c.in-Some.is g.ensures)
