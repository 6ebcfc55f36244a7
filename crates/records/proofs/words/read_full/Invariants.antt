-- proofs/words/read_full/Invariants.antt
use Rattle.std.proofs.Common.{length, ◌-◌, ◌≤◌}
use Rattle.records.proofs.words.read_full.Given as goal

-- as many bytes as were read stand in buf
abbrev pub invariant-loop-done : goal.invariant-loop-done
invariant-loop-done g l = l.done ≤ length l.buf

abbrev pub decreases-loop-done : goal.decreases-loop-done
decreases-loop-done g l = length l.initial.buf - l.done
