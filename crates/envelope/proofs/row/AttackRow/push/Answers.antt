-- `push`: the floor that goes was counted, so the tally goes down and up by one each.
use native.Mathlib.Omega.{arith}
use lib.ListN.{length-set}
use Rattle.envelope.proofs.Tally.{ordered, counted, bounded, one_more, pushed_is}
use Rattle.envelope.proofs.row.AttackRow.push.Goals as goal

pub next_pos-requires : goal.next_pos-requires
next_pos-requires c = simp length-set (ordered _ _ c.requires).place

pub overflow_sub-result : goal.overflow_sub-result
overflow_sub-result c =
    let known = ordered _ _ c.requires in
    omega (arith, c.other_than_one-old.ensures, known.true_tally, counted c.args.row.now c.args.self.pos known.place)

pub overflow_add-result : goal.overflow_add-result
overflow_add-result c =
    let known = ordered _ _ c.requires in
    omega (arith, c.other_than_one.ensures, one_more c.args.floor, known.true_tally, known.place, bounded c.args.row.now, c.well_formed.1.0.0)

pub returns : goal.returns
returns c =
    pushed_is c.args.self c.args.row.now c.args.floor c.other_than_one-old.result c.other_than_one.result c.next_pos.result (ordered _ _ c.requires) c.other_than_one-old.ensures c.other_than_one.ensures c.next_pos.ensures.value
