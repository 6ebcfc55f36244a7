-- `all_peaks`: the peaks stay alike to peaks from which the rest makes the whole.
use Rattle.frame.proofs.Alike.{Sharing}
use Rattle.frame.specs.Passes.{peaks_pass}
use Rattle.frame.specs.Rules.{linking_of}
use mathlib.Core.Path.{◌≡◌}
use mathlib.Core.Bool.{false}
use Rattle.frame.proofs.peaks.all_peaks.Given as goal

abbrev pub invariant-loop-c : goal.invariant-loop-c
invariant-loop-c l =
    (Sharing (linking_of l.span.settings) l.ceiling l.span.channels l.span.n l.c l.peaks l.detector l.audio (peaks_pass (linking_of l.span.settings) 0 l.span.channels l.span.n l.initial.peaks l.detector l.audio).peaks) × (l.heard ≡ false → l.peaks ≡ l.initial.peaks)
