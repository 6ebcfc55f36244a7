-- `latch_rest`: what the events from i on make of the bank now, all make of it.
use Rattle.std.proofs.Common.{◌≡◌, ◌-◌}
use Rattle.turns.specs.Events.{events_from, latched_all}
use Rattle.turns.proofs.events.latch_rest.Given as goal

abbrev pub invariant-loop-i : goal.invariant-loop-i
invariant-loop-i l = latched_all (events_from l.events l.i (l.i-end - l.i)) l.bank ≡ latched_all (events_from l.events l.cursor (l.i-end - l.cursor)) l.initial.bank
