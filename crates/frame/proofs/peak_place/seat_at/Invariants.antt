-- `seat_at`: a sample as high among the channels from c on, or else what `between` tells.
use Rattle.frame.proofs.Seats.{voices_since}
use Rattle.std.specs.Prelude.{Option}
use Rattle.frame.specs.declared.highest.Seat.{Seat}
use Rattle.frame.specs.Seat.{sample_from}
use mathlib.Core.Path.{◌≡◌}
use Rattle.frame.proofs.peak_place.seat_at.Given as goal

abbrev pub invariant-loop-c : goal.invariant-loop-c
invariant-loop-c l =
    (other : Option Seat) → sample_from other l.peak l.c (voices_since l.span.settings l.span.channels l.at l.detector l.audio l.c) ≡ sample_from other l.peak 0 (voices_since l.span.settings l.span.channels l.at l.detector l.audio 0)
