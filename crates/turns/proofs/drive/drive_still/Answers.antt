-- `drive_still`: each run of the loop is a turn that keeps the bank, whichever it is.
use mathlib.Core.Path.{refl, ◌∙◌}
use native.Mathlib.Omega.{arith}
use lib.ListN.{length}
use Rattle.limiter.specs.Stores.{stores_in}
use Rattle.frame.proofs.Lent.{stays_here, stays_on}
use Rattle.turns.proofs.Still.{going_start, going_asks, going_more, gone_machine, gone_place, gone_audio}
use Rattle.turns.proofs.drive.drive_still.Goals as goal

pub run_room-run-requires : goal.run_room-run-requires
run_room-run-requires c = tt

pub start_of-requires : goal.start_of-requires
start_of-requires c = tt

pub loop-first-init : goal.loop-first-init
loop-first-init c =
    (going_start _ _ _ _ _ _ _ _ c.requires _ c.run_room-run.ensures _ c.start_of.ensures, refl, stays_here _)

pub overflow_add-position : goal.overflow_add-position
overflow_add-position c = omega (arith, c.requires.asked.far, c.loop-first-test.true)

pub overflow_sub-frames : goal.overflow_sub-frames
overflow_sub-frames c = omega arith

pub run_length-n-requires : goal.run_length-n-requires
run_length-n-requires c = tt

pub slice_bounds-render_frames-end : goal.slice_bounds-render_frames-end
slice_bounds-render_frames-end c =
    let a = c.requires in
    omega (arith, (c.loop-first.invariant.0 a.bank a.rest).run_fit)

pub render_frames-moved-requires : goal.render_frames-moved-requires
render_frames-moved-requires c =
    let l = c.loop-first in
    going_asks _ _ _ _ _ _ _ _ c.requires _ _ _ _ _ _ l.invariant.0 c.loop-first-test.true _ c.run_length-n.ensures

pub overflow_add-first : goal.overflow_add-first
overflow_add-first c =
    omega (arith, c.run_length-n.ensures, c.loop-first-test.true, c.ranges.frames)

pub loop-first-smaller : goal.loop-first-smaller
loop-first-smaller c =
    omega (arith, c.run_length-n.ensures, c.loop-first-test.true)

pub loop-first-preserved : goal.loop-first-preserved
loop-first-preserved c =
    let l = c.loop-first in
    let r = c.render_frames-moved in (
      going_more _ _ _ _ _ _ _ _ c.requires _ _ _ _ _ _ l.invariant.0 c.loop-first-test.true _ c.run_length-n.ensures
          _ (stores_in r.new.lent) _ _ _ r.ensures.given r.auto.run,
      ◌∙◌ {b = length l.audio} r.auto.audio l.invariant.1,
      stays_on _ _ _ l.invariant.2 r.ensures.stays,
    )

pub shape_of-audio : goal.shape_of-audio
shape_of-audio c = c.loop-first.invariant.1

pub returns : goal.returns
returns c =
    let last = c.loop-first.invariant.0 in
    let done = c.loop-first-test.false in record {
      stays = c.loop-first.invariant.2;
      machine_after = gone_machine _ _ _ _ _ _ _ _ _ _ _ _ _ _ last done;
      audio_after = gone_audio _ _ _ _ _ _ _ _ _ _ _ _ _ _ last done;
      highest_value = gone_place _ _ _ _ _ _ _ _ _ _ _ _ _ _ last done;
    }
