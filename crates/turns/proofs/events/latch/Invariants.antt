-- `latch`: what the events from i on make of the bank now, all make of it.
use Rattle.std.proofs.Common.{◌≡◌, ◌-◌}
use Rattle.turns.specs.Events.{events_from, latched}
use Rattle.turns.proofs.events.latch.Given as goal

abbrev pub invariant-loop-i : goal.invariant-loop-i
invariant-loop-i l = latched l.first (events_from l.events l.i (l.n - l.i)) l.bank ≡ latched l.first (events_from l.events l.cursor (l.n - l.cursor)) l.initial.bank
