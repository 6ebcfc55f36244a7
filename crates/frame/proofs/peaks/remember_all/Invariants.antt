-- `remember_all`: what the channels passed remember, and the rest would, stays the whole.
use Rattle.frame.proofs.Channels.{Storing}
use Rattle.frame.specs.Passes.{peaks_pass}
use Rattle.frame.specs.Rules.{linking_of}
use Rattle.settings.specs.declared.LimiterSettings.{LimiterSettings}
use lib.Ieee.{Float}
use mathlib.Core.List.{List}
use Rattle.frame.proofs.peaks.remember_all.Given as goal

abbrev pub invariant-loop-c : goal.invariant-loop-c
invariant-loop-c l =
    (settings : LimiterSettings) (peaks : List Float) → Storing (linking_of settings) l.span.channels l.span.n l.c l.detector l.audio (peaks_pass (linking_of settings) 0 l.span.channels l.span.n peaks l.initial.detector l.audio)
