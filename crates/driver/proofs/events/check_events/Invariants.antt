-- `check_events`: what the events from index on answer, all answer.
use mathlib.Core.Path.{◌≡◌}
use Prim.Native.Nat.{◌-◌, ◌/◌}
use lib.ListN.{length}
use Rattle.turns.specs.Events.{events_from, events_of, events_reply}
use Rattle.driver.proofs.events.check_events.Given as goal

abbrev pub invariant-loop-index : goal.invariant-loop-index
invariant-loop-index l = events_reply l.frames l.before l.index (events_from l.events l.index (length l.events / 3 - l.index)) ≡ events_reply l.frames 0 0 (events_of l.events)
