-- `channel_peaks`: each callee's promise in its place of the definition; the answers are a local array's first n.
use Rattle.frame.proofs.Channels.{channel_heard}
use mathlib.Core.Path.{ap, ◌∙◌}
use mathlib.Core.Bool.{true}
use Rattle.frame.specs.Passes.{heard_all}
use lib.ListN.{length}
use lib.Seq.{take_at}
use borrow.Author.Rules.{rules}
use Rattle.frame.proofs.peaks.channel_peaks.Goals as goal

pub returns : goal.returns
returns c =
    let h = c.hear_run in
    let p = c.answers_abs in
    let a = c.args in
    let o = channel_heard a.settings a.c a.store.now a.samples.now a.peaks.now h.new.peaks p.new.answers c.requires.counted p.ensures (h.ensures.peaks_after ∙ ap (heard_all true a.peaks.now a.samples.now) (take_at p.new.answers _ (length a.samples.now) (search rules))) in
    record { peaks_after = o.0; still_from_zero = h.ensures.still_from_zero }
