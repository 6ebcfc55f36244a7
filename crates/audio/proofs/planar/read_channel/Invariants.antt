-- `read_channel`: the samples passed are there.
use lib.Ieee.{nan}
use Rattle.audio.specs.Format.{sounds_of}
use Rattle.audio.specs.Inner.{PlacesCopied}
use Rattle.audio.proofs.planar.read_channel.Given as goal

abbrev pub invariant-loop-i : goal.invariant-loop-i
invariant-loop-i l = PlacesCopied nan l.i l.from (sounds_of l.format l.bytes) l.to l.initial.run l.run
