-- `move_spaced`: the samples passed are there.
use Rattle.audio.specs.Format.{sample_bytes}
use Rattle.interleaving.specs.Inner.{Spaced}
use Rattle.interleaving.proofs.moves.move_spaced.Given as goal

abbrev pub invariant-loop-k : goal.invariant-loop-k
invariant-loop-k l = Spaced (sample_bytes l.format) l.k l.from l.step l.source l.to l.initial.target l.target
