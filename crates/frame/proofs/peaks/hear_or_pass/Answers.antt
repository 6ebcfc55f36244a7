-- `hear_or_pass`: the channel left out, passed over, or taken in.
use Rattle.frame.proofs.Alike.{left_out, passed_over, taken_in}
use mathlib.Core.Path.{refl, sym, ◌∙◌}
use mathlib.Core.Bool.{true}
use Rattle.arithmetic.proofs.Order.{clash}
use Rattle.frame.proofs.peaks.hear_or_pass.Goals as goal

pub returns-then-not-counts_in : goal.returns-then-not-counts_in
returns-then-not-counts_in c =
    let k = c.counts_in in
    let a = c.args in
    record {
      all_alike = left_out a.settings a.c a.store.now a.samples.now a.peaks.now a.level c.requires.samples_len (sym k.ensures ∙ c.if-not-counts_in.true);
      peaks_unchanged = λ h. refl;
    }

pub returns-then-lies_within : goal.returns-then-lies_within
returns-then-lies_within c =
    let k = c.counts_in in
    let a = c.args in record {
      all_alike = passed_over a.settings a.c a.store.now a.samples.now a.peaks.now a.level c.requires.samples_len (sym k.ensures ∙ c.if-not-counts_in.false)
          (sym c.lies_within.ensures ∙ c.if-lies_within.true);
      peaks_unchanged = λ h. refl;
    }

pub channel_peaks-requires-clause-counted : goal.channel_peaks-requires-clause-counted
channel_peaks-requires-clause-counted c = sym c.counts_in.ensures ∙ c.if-not-counts_in.false

pub returns : goal.returns
returns c =
    let o = c.channel_peaks in
    let k = c.counts_in in
    let a = c.args in record {
      all_alike = taken_in a.settings a.c a.store.now a.samples.now a.peaks.now a.level o.new.peaks
          (sym k.ensures ∙ c.if-not-counts_in.false) o.ensures.peaks_after;
      peaks_unchanged = λ h. clash true refl h;
    }
