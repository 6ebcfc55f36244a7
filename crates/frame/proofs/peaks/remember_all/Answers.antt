-- `remember_all`: what the channels passed remember, and the rest would, stays the whole.
use Rattle.frame.proofs.Channels.{storing_start, storing_done, storing_more}
use Rattle.frame.specs.Passes.{peaks_pass}
use Rattle.frame.specs.Rules.{linking_of}
use native.Mathlib.Omega.{arith}
use Prim.Native.Nat.{◌+◌, ◌-◌, ◌*◌}
use borrow.Author.Rules.{rules}
use Rattle.frame.proofs.peaks.remember_all.Goals as goal

pub loop-c-init : goal.loop-c-init
loop-c-init c =
    let a = c.args in
    λ settings peaks. storing_start settings a.span.channels a.span.n peaks a.detector.now a.audio.now

pub loop-c-preserved : goal.loop-c-preserved
loop-c-preserved c =
    let o = c.remember in
    let a = c.args in
    λ settings peaks.
    storing_more settings a.span.channels a.span.n c.loop-c.c (c.loop-c.c * 12 + 12 - c.loop-c.c * 12) a.span.n c.loop-c.detector a.audio.now o.new.store
    (peaks_pass (linking_of settings) 0 a.span.channels a.span.n peaks a.detector.now a.audio.now) (c.loop-c.invariant settings peaks) (search rules) (search rules) (omega arith) (omega arith) o.auto.store (rw c.samples.ensures.value at o.ensures)

pub returns : goal.returns
returns c =
    let a = c.args in
    λ peaks. storing_done a.span.settings a.span.channels a.span.n c.loop-c.c c.loop-c.detector a.audio.now (peaks_pass (linking_of a.span.settings) 0 a.span.channels a.span.n peaks a.detector.now a.audio.now) (search rules) (c.loop-c.invariant a.span.settings peaks)
