-- `scatter`: the channels passed are carried.
use mathlib.Core.Path.{◌≡◌, sym, subst, ◌∙◌}
use mathlib.Core.List.{List, map}
use Prim.Native.Nat.{ℕ, ◌+◌, ◌*◌, ◌%◌, ◌≤◌}
use lib.ListN.{length}
use native.Mathlib.Nat.{add-zero}
use native.Mathlib.Omega.{arith}
use lib.Ieee.{nan}
use Rattle.audio.specs.Format.{sample_bytes, bytes_for, size_of, places_of}
use Rattle.audio.specs.declared.format.Format.{Format}
use Rattle.audio.specs.Inner.{PlacesCopied, PlacesCarried}
use Rattle.audio.proofs.Carry.{places-end, carried_more}
use Rattle.audio.proofs.Places.{whole, places_fit, size_same}
use Rattle.audio.proofs.Written.{size_small, carried_placed}
use Rattle.audio.proofs.planar.scatter.Goals as goal

-- the audio as it now stands is as long
still : (format : Format) (channels width : ℕ) (bytes now : List ℕ) → channels ≤ 8 → width ≤ 65536 → channels * width ≡ size_of format bytes → length now ≡ length bytes
    → (length now % sample_bytes format ≡ 0) × (length (places_of format now) ≡ channels * width)
still format channels width bytes now few short e long =
    let size = size_same format now bytes long ∙ sym e in
    let small = size_small _ _ few short in
    ((whole format now _ size small).0, places_fit format now _ size small)

pub write_channel-requires-clause-whole : goal.write_channel-requires-clause-whole
write_channel-requires-clause-whole c =
    let r = c.requires in
    (still _ _ _ c.args.bytes.now c.loop-c.bytes r.channels_bound r.width_bound r.audio_size c.loop-c.auto.bytes).0

pub write_channel-requires-clause-to_inside : goal.write_channel-requires-clause-to_inside
write_channel-requires-clause-to_inside c =
    let r = c.requires in
    omega (arith, places-end _ _ c.args.width c.loop-c-test.true, (still _ _ _ c.args.bytes.now c.loop-c.bytes r.channels_bound r.width_bound r.audio_size c.loop-c.auto.bytes).1)

pub loop-c-preserved : goal.loop-c-preserved
loop-c-preserved c =
    let a = c.args in
    let k = c.loop-c.c in
    let after = c.write_channel.new.bytes in
    carried_more a.n 32 0 (map (bytes_for a.format) a.run.now) a.width a.first c.requires.run_inside (places_of a.format a.bytes.now) k (places_of a.format c.loop-c.bytes) (places_of a.format after) c.loop-c.invariant
    (subst (λ (from : ℕ). PlacesCopied (bytes_for a.format nan) a.n from (map (bytes_for a.format) a.run.now) (k * a.width + a.first) (places_of a.format c.loop-c.bytes) (places_of a.format after)) (sym (add-zero (k * 32))) c.write_channel.ensures)

pub returns : goal.returns
returns c =
    let a = c.args in
    let e : c.loop-c.c ≡ a.channels = omega arith in
    carried_placed a.format a.channels a.n a.run.now a.width a.first a.bytes.now c.loop-c.bytes c.loop-c.auto.bytes
    (subst (λ (k : ℕ). PlacesCarried (bytes_for a.format nan) k a.n 32 0 (map (bytes_for a.format) a.run.now) a.width a.first (places_of a.format a.bytes.now) (places_of a.format c.loop-c.bytes)) e c.loop-c.invariant)
