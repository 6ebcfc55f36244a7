-- `all_peaks`: the peaks stay alike to peaks from which the rest makes the whole.
use Rattle.frame.proofs.Alike.{sharing_start, sharing_done, sharing_more, alike_from_zero, unheard_more}
use Rattle.frame.proofs.Heard.{zeros_length}
use Rattle.frame.specs.Passes.{peaks_pass}
use Rattle.frame.specs.Rules.{linking_of}
use native.Mathlib.Omega.{arith}
use Prim.Native.Nat.{◌+◌, ◌-◌, ◌*◌}
use mathlib.Core.Path.{refl, ◌∙◌}
use borrow.Author.Rules.{rules}
use Rattle.frame.proofs.peaks.all_peaks.Goals as goal

pub loop-c-init : goal.loop-c-init
loop-c-init c =
    let a = c.args in
    let z = c.requires.peaks_zero in
    (sharing_start a.span.settings a.ceiling a.span.channels a.span.n a.detector.now a.audio.now a.peaks.now z, λ h. refl)

pub hear_or_pass-some-requires-clause-from_zero : goal.hear_or_pass-some-requires-clause-from_zero
hear_or_pass-some-requires-clause-from_zero c =
    let k = c.loop-c.invariant.0 in
    alike_from_zero c.args.ceiling c.loop-c.peaks k.whole k.alike

pub hear_or_pass-some-requires-clause-samples_len : goal.hear_or_pass-some-requires-clause-samples_len
hear_or_pass-some-requires-clause-samples_len c =
    let many = c.loop-c.auto.peaks ∙ zeros_length c.args.span.n c.args.peaks.now c.requires.peaks_zero in
    search (rules, many)

pub loop-c-preserved : goal.loop-c-preserved
loop-c-preserved c =
    let o = c.hear_or_pass-some in
    let a = c.args in (
      sharing_more a.span.settings a.ceiling a.span.channels a.span.n a.detector.now a.audio.now c.loop-c.c 12 a.span.n c.level_below-level.result c.loop-c.peaks
          o.new.peaks (peaks_pass (linking_of a.span.settings) 0 a.span.channels a.span.n a.peaks.now a.detector.now a.audio.now).peaks
          c.loop-c.invariant.0 (search rules) (omega arith) (omega arith) c.level_below-level.ensures (rw (c.store.ensures, c.samples.ensures.value) at o.ensures.all_alike),
      unheard_more c.loop-c.heard o.result a.peaks.now c.loop-c.peaks o.new.peaks c.loop-c.invariant.1 o.ensures.peaks_unchanged,
    )

pub returns : goal.returns
returns c =
    let a = c.args in record {
      all_alike = sharing_done a.span.settings a.ceiling a.span.channels a.span.n a.detector.now a.audio.now c.loop-c.c c.loop-c.peaks (peaks_pass (linking_of a.span.settings) 0 a.span.channels a.span.n a.peaks.now a.detector.now a.audio.now).peaks
          (search rules) c.loop-c.invariant.0;
      peaks_unchanged = c.loop-c.invariant.1;
    }
