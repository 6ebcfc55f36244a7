-- `render_frames`: gathered, rendered, scattered.
use mathlib.Core.Path.{sym, ◌∙◌}
use native.Mathlib.Omega.{arith}
use Rattle.limiter.specs.Stores.{stores_in}
use Rattle.limiter.proofs.Frames.{bounds_of}
use Rattle.turns.proofs.Rendering.{kernel_asks, render_held, run_clean, run_given}
use Rattle.turns.proofs.turn.render_frames.Goals as goal

pub gather-requires : goal.gather-requires
gather-requires c =
    let p = c.requires in
    record {
      channels_bound = (bounds_of _ p.ready.set_up).most;
      width_bound = p.lends.short;
      audio_size = sym p.lends.audio_fit;
      run_inside = p.inside;
      run_short = p.short;
      run_len = p.run_fit;
    }

pub render-after-requires : goal.render-after-requires
render-after-requires c =
    let p = c.requires in
    let g = c.gather in
    record {
      kernel_ready = kernel_asks _ _ _ _ p.ready p.some p.short (g.auto.run ∙ p.run_fit);
      sanitized = run_clean _ _ _ _ _ _ _ _ _ _ p g.ensures;
      first_bound = omega (arith, p.inside, p.lends.short);
    }

pub scatter-requires : goal.scatter-requires
scatter-requires c =
    let p = c.requires in
    let r = c.render-after in
    let fit = c.gather.auto.run ∙ p.run_fit in
    record {
      channels_bound = (bounds_of _ p.ready.set_up).most;
      width_bound = p.lends.short;
      audio_size = sym p.lends.audio_fit;
      run_inside = omega (arith, p.inside);
      run_short = omega (arith, p.short);
      run_len = r.auto.audio ∙ fit;
      held_all = render_held _ _ _ _ _ _ (kernel_asks _ _ _ _ p.ready p.some p.short fit) _
          (stores_in r.new.lent) _ r.ensures.run_done;
    }

pub shape_of-audio : goal.shape_of-audio
shape_of-audio c = c.scatter.auto.bytes

pub shape_of-run : goal.shape_of-run
shape_of-run c = c.render-after.auto.audio ∙ c.gather.auto.run

pub returns : goal.returns
returns c =
    let g = c.gather in
    let r = c.render-after in
    record {
      stays = r.ensures.stays;
      given = run_given _ _ _ _ _ _ _ _ _ _ _ _ _ (stores_in r.new.lent) _ _
          c.requires g.auto.run g.ensures r.ensures.run_done r.ensures.highest_value c.scatter.ensures;
    }
