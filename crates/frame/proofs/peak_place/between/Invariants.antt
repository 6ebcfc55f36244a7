-- `between`: what the channels from c on tell stays what they all do.
use Rattle.frame.proofs.Seats.{voices_since}
use Rattle.frame.specs.Passes.{voices_pass}
use Rattle.frame.specs.Seat.{between_from}
use Rattle.frame.specs.Rules.{linking_of}
use mathlib.Core.Path.{◌≡◌}
use Rattle.frame.proofs.peak_place.between.Given as goal

abbrev pub invariant-loop-c : goal.invariant-loop-c
invariant-loop-c l =
    between_from l.peak l.c (voices_since l.span.settings l.span.channels l.at l.detector l.audio l.c) ≡ between_from l.peak 0 (voices_pass (linking_of l.span.settings) 0 l.span.channels l.at l.detector l.audio)
