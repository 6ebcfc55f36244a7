-- `walk`: each turn fills the place whose row was taken last, and takes the row that comes to it.
use mathlib.Core.Path.{◌≡◌, sym, ap, ◌∙◌}
use Prim.Native.Nat.{ℕ, ◌+◌, ◌-◌, ◌*◌}
use lib.ListN.{take, drop}
use lib.Seq.{length-take-le}
use Rattle.audio.specs.Inner.{put}
use native.Mathlib.Omega.{arith}
use Rattle.interleaving.proofs.Cycles.{next_inside, rows_inside, next_open, walk_goes, walk_ends, fewer_clear}
use Rattle.interleaving.proofs.rows.walk.Goals as goal

pub overflow_mul-size : goal.overflow_mul-size
overflow_mul-size c = omega (arith, rows_inside c.loop-from.invariant)

pub carry-requires : goal.carry-requires
carry-requires c =
    let r = rows_inside c.loop-from.invariant in
    record { from_inside = r.1; to_inside = r.0 }

pub mark-requires-in-loop-from : goal.mark-requires-in-loop-from
mark-requires-in-loop-from c = omega (arith, next_inside c.loop-from.invariant, c.args.table.small)

pub source_of-from-requires-in-loop-from : goal.source_of-from-requires-in-loop-from
source_of-from-requires-in-loop-from c = next_inside c.loop-from.invariant

pub loop-from-smaller : goal.loop-from-smaller
loop-from-smaller c =
    let w = c.loop-from.invariant in
    fewer_clear _ _ _ c.mark-in-loop-from.ensures _ (next_inside w) (next_open w c.loop-from-test.true)

pub loop-from-preserved : goal.loop-from-preserved
loop-from-preserved c =
    let w = c.loop-from.invariant in
    walk_goes w c.loop-from-test.true c.carry.auto.bytes c.carry.ensures c.mark-in-loop-from.ensures c.source_of-from-in-loop-from.ensures

pub put_bytes-requires-2 : goal.put_bytes-requires-2
put_bytes-requires-2 c = omega (arith, (rows_inside c.loop-from.invariant).0, length-take-le c.args.size c.put_bytes.new.bytes (omega (arith, c.put_bytes.auto.bytes, c.requires.size_bound)))

pub returns : goal.returns
returns c =
    let a = c.args in
    let first = a.size * a.start in
    let e : first + a.size - first ≡ a.size = omega arith in
    let kept = c.put_bytes.ensures ∙ ap (λ (n : ℕ). put a.kept.now 0 (take n (drop first a.bytes.now))) e in
    walk_ends c.loop-from.invariant a.kept.now c.loop-from-test.false kept c.put_bytes-2.ensures (sym c.is_done.ensures ∙ c.if-is_done.false) c.mark.ensures
