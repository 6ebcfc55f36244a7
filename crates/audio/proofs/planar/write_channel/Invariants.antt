-- `write_channel`: the words passed are there.
use mathlib.Core.Path.{◌≡◌}
use mathlib.Core.List.{map}
use lib.ListN.{length}
use lib.Ieee.{nan}
use Rattle.audio.specs.Format.{bytes_for, places_of}
use Rattle.audio.specs.Inner.{PlacesCopied}
use Rattle.audio.proofs.planar.write_channel.Given as goal

abbrev pub invariant-loop-i : goal.invariant-loop-i
invariant-loop-i l = record {
  as_many : length (places_of l.format l.bytes) ≡ length (places_of l.format l.initial.bytes);
  copied : PlacesCopied (bytes_for l.format nan) l.i l.from (map (bytes_for l.format) l.run) l.to (places_of l.format l.initial.bytes) (places_of l.format l.bytes);
}
