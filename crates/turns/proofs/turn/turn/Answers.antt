-- `turn`: the run's length, what latches before it, its target, and its frames.
use native.Mathlib.Omega.{arith}
use Rattle.limiter.specs.Stores.{stores_in}
use Rattle.turns.specs.Machine.{threshold_of}
use Rattle.turns.proofs.Turning.{turn_asks, turn_given}
use Rattle.turns.proofs.turn.turn.Goals as goal

pub overflow_add-at : goal.overflow_add-at
overflow_add-at c = omega (arith, c.requires.far, c.requires.more)

pub overflow_sub-block : goal.overflow_sub-block
overflow_sub-block c = omega (arith, c.requires.more)

pub run_length-n-requires : goal.run_length-n-requires
run_length-n-requires c = tt

pub before_run-latched-requires : goal.before_run-latched-requires
before_run-latched-requires c = c.requires.events_left

pub target_now-requires : goal.target_now-requires
target_now-requires c = tt

pub render_frames-after-requires : goal.render_frames-after-requires
render_frames-after-requires c =
    turn_asks _ _ _ _ _ _ c.requires _ c.run_length-n.ensures _ (threshold_of c.before_run-latched.new.bank).cur c.args.limiter.settings.true_peak_margin_db c.target_now.ensures

pub overflow_add-result : goal.overflow_add-result
overflow_add-result c =
    omega (arith, c.run_length-n.ensures, c.requires.more, c.requires.lends.short)

pub shape_of-audio : goal.shape_of-audio
shape_of-audio c = c.render_frames-after.auto.audio

pub shape_of-run : goal.shape_of-run
shape_of-run c = c.render_frames-after.auto.run

pub returns : goal.returns
returns c =
    let b = c.before_run-latched in
    let r = c.render_frames-after in
    record {
      stays = r.ensures.stays;
      given = turn_given _ _ _ _ _ _ c.requires _ c.run_length-n.ensures b.new.bank b.result b.ensures.events_value b.ensures.cursor_in_bounds _ c.target_now.ensures _
          (stores_in r.new.lent) _ _ _ r.ensures.given;
    }
