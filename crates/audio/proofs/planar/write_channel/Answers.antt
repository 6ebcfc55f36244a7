-- `write_channel`: the words passed are there.
use mathlib.Core.Path.{sym, ap, subst, ◌∙◌}
use mathlib.Core.List.{List, map}
use Prim.Native.Nat.{ℕ, ◌+◌}
use native.Mathlib.Omega.{arith}
use lib.ListN.{get_or, set, length-set, get_or-map}
use lib.Ieee.{nan}
use Rattle.audio.specs.Format.{bytes_for, places_of}
use Rattle.audio.specs.Inner.{PlacesCopied}
use Rattle.audio.proofs.Carry.{copied_more}
use Rattle.audio.proofs.Places.{places_few}
use Rattle.audio.proofs.planar.write_channel.Goals as goal

pub overflow_add-to : goal.overflow_add-to
overflow_add-to c = let a = c.args in omega (arith, places_few a.format a.bytes.now)

pub loop-i-preserved : goal.loop-i-preserved
loop-i-preserved c =
    let a = c.args in
    let i = c.loop-i.i in
    let at = a.to + i in
    let now' = c.loop-i.bytes in
    let stored = ◌∙◌ {b = set (places_of a.format now') at (bytes_for a.format (get_or a.run.now (a.from + i) nan))} c.put_sample.ensures (ap (set (places_of a.format now') at) (sym (get_or-map (bytes_for a.format) a.run.now (a.from + i) nan))) in
    record {
      as_many = rw (c.put_sample.ensures, length-set (places_of a.format now') at) c.loop-i.invariant.as_many;
      copied = subst (λ (ps : List (List ℕ)). PlacesCopied (bytes_for a.format nan) (i + 1) a.from (map (bytes_for a.format) a.run.now) a.to (places_of a.format a.bytes.now) ps) (sym stored)
          (copied_more a.from (map (bytes_for a.format) a.run.now) a.to (places_of a.format a.bytes.now) i (places_of a.format now') (omega arith) c.loop-i.invariant.copied);
    }
