-- `gather`: the channels passed are carried.
use mathlib.Core.Path.{sym, subst}
use Prim.Native.Nat.{ℕ, ◌+◌, ◌*◌}
use native.Mathlib.Nat.{add-zero}
use native.Mathlib.Omega.{arith}
use lib.Ieee.{nan}
use Rattle.audio.specs.Format.{sounds_of}
use Rattle.audio.specs.Inner.{PlacesCopied}
use Rattle.audio.proofs.Carry.{places-end, carried_more}
use Rattle.audio.proofs.Places.{places_fit}
use Rattle.audio.proofs.Written.{size_small}
use Rattle.audio.proofs.planar.gather.Goals as goal

pub read_channel-requires-clause-from_inside : goal.read_channel-requires-clause-from_inside
read_channel-requires-clause-from_inside c =
    let small = size_small _ _ c.requires.channels_bound c.requires.width_bound in
    omega (arith, places-end _ _ c.args.width c.loop-c-test.true, places_fit _ c.args.bytes.now _ (sym c.requires.audio_size) small)

pub loop-c-preserved : goal.loop-c-preserved
loop-c-preserved c =
    let a = c.args in
    let k = c.loop-c.c in
    let after = c.read_channel.new.run in
    carried_more a.n a.width a.first (sounds_of a.format a.bytes.now) 32 0 (omega (arith, c.requires.run_short)) a.run.now k c.loop-c.run after c.loop-c.invariant
    (subst (λ (to : ℕ). PlacesCopied nan a.n (k * a.width + a.first) (sounds_of a.format a.bytes.now) to c.loop-c.run after) (sym (add-zero (k * 32))) c.read_channel.ensures)
