-- `scatter`: the channels passed are carried.
use mathlib.Core.List.{map}
use lib.Ieee.{nan}
use Rattle.audio.specs.Format.{bytes_for, places_of}
use Rattle.audio.specs.Inner.{PlacesCarried}
use Rattle.audio.proofs.planar.scatter.Given as goal

abbrev pub invariant-loop-c : goal.invariant-loop-c
invariant-loop-c l =
    PlacesCarried (bytes_for l.format nan) l.c l.n 32 0 (map (bytes_for l.format) l.run) l.width l.first (places_of l.format l.initial.bytes) (places_of l.format l.bytes)
