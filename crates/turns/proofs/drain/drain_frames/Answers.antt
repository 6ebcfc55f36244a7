-- `drain_frames`: a turn of the loop is a run of silence.
use mathlib.Core.Path.{refl, sym, ◌∙◌}
use native.Mathlib.Omega.{arith}
use lib.ListN.{length}
use Rattle.limiter.specs.Stores.{stores_in}
use Rattle.limiter.proofs.Frames.{bounds_of}
use Rattle.frame.proofs.Lent.{stays_here, stays_on}
use Rattle.turns.proofs.Draining.{drained_start, drain_asks, audio_size, drain_held, drained_more, drained_limiter, drained_stores, drained_audio}
use Rattle.turns.proofs.drain.drain_frames.Goals as goal

pub run_room-run-requires : goal.run_room-run-requires
run_room-run-requires c = tt

pub loop-first-init : goal.loop-first-init
loop-first-init c =
    (drained_start _ _ _ _ _ _ _ c.run_room-run.ensures c.requires, refl, stays_here _)

pub overflow_sub-n : goal.overflow_sub-n
overflow_sub-n c = omega arith

pub slice_bounds-drain-end : goal.slice_bounds-drain-end
slice_bounds-drain-end c = omega arith

pub drain-l-requires : goal.drain-l-requires
drain-l-requires c =
    drain_asks _ _ _ _ _ _ c.requires _ _ _ _ _ _ c.loop-first.invariant.0 c.loop-first-test.true c.min-len.ensures

pub slice_bounds-scatter-end : goal.slice_bounds-scatter-end
slice_bounds-scatter-end c = omega arith

pub scatter-requires : goal.scatter-requires
scatter-requires c =
    let p = c.requires in
    let now = c.loop-first.invariant.0 in
    let more = c.loop-first-test.true in
    let n = c.min-len.ensures in
    let d = c.drain-l in
    record {
      channels_bound = (bounds_of _ p.ready.set_up).most;
      width_bound = p.lends.short;
      audio_size = sym (audio_size _ _ _ _ _ _ p _ _ _ _ _ _ now more n);
      run_inside = omega (arith, n, more, p.inside);
      run_short = omega (arith, n);
      run_len = d.auto.audio ∙ now.run_fit;
      held_all = drain_held _ _ _ _ _ _ p _ _ _ _ _ _ now more n _ _ _ d.ensures.run_done;
    }

pub overflow_add-first : goal.overflow_add-first
overflow_add-first c =
    omega (arith, c.min-len.ensures, c.loop-first-test.true, c.ranges.n)

pub loop-first-smaller : goal.loop-first-smaller
loop-first-smaller c =
    omega (arith, c.min-len.ensures, c.loop-first-test.true)

pub loop-first-preserved : goal.loop-first-preserved
loop-first-preserved c =
    let l = c.loop-first in
    let d = c.drain-l in
    let s = c.scatter in (
      drained_more _ _ _ _ _ _ c.requires _ _ _ _ _ _ l.invariant.0 c.loop-first-test.true c.min-len.ensures
          _ (stores_in d.new.lent) _ _ d.ensures.run_done d.auto.audio s.ensures,
      ◌∙◌ {b = length l.audio} s.auto.bytes l.invariant.1,
      stays_on _ _ _ l.invariant.2 d.ensures.stays,
    )

pub shape_of-audio : goal.shape_of-audio
shape_of-audio c = c.loop-first.invariant.1

pub returns : goal.returns
returns c =
    let last = c.loop-first.invariant.0 in
    let done = c.loop-first-test.false in record {
      stays = c.loop-first.invariant.2;
      value = drained_limiter _ _ _ _ _ _ _ _ _ _ _ last done;
      stores_after = drained_stores _ _ _ _ _ _ _ _ _ _ _ last done;
      audio_after = drained_audio _ _ _ _ _ _ _ _ _ _ _ last done;
    }
