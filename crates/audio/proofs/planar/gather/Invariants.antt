-- `gather`: the channels passed are carried.
use lib.Ieee.{nan}
use Rattle.audio.specs.Format.{sounds_of}
use Rattle.audio.specs.Inner.{PlacesCarried}
use Rattle.audio.proofs.planar.gather.Given as goal

abbrev pub invariant-loop-c : goal.invariant-loop-c
invariant-loop-c l = PlacesCarried nan l.c l.n l.width l.first (sounds_of l.format l.bytes) 32 0 l.initial.run l.run
