-- `all_outputs`: the channels passed, and what the rest comes to.
use mathlib.Core.Path.{◌≡◌}
use Prim.Native.Nat.{◌*◌, ◌≤◌}
use lib.ListN.{drop}
use Rattle.detector.specs.Run.{run_length}
use Rattle.frame.specs.Rules.{leaves_by}
use Rattle.envelope.specs.Row.{pos_after}
use Rattle.frame.specs.Passes.{outputs_pass}
use Rattle.frame.proofs.Channels.{outputs_since}
use Rattle.frame.proofs.outputs.all_outputs.Given as goal

abbrev pub invariant-loop-c : goal.invariant-loop-c
invariant-loop-c l =
    (outputs_since (leaves_by l.format) l.look l.pos l.gains l.span.channels l.span.n l.c l.delay l.audio ≡ outputs_pass (leaves_by l.format) l.look l.pos l.gains l.span.channels l.span.n l.initial.delay l.initial.audio)
    × (1 ≤ l.c → l.next ≡ pos_after l.look l.pos l.span.n) × (drop (l.c * run_length) l.audio ≡ drop (l.c * run_length) l.initial.audio)
