-- `flush`: refused, or runs of silence.
use mathlib.Core.Path.{refl}
use Rattle.limiter.specs.Stores.{stores_in}
use Rattle.frame.proofs.Lent.{stays_here}
use Rattle.driver.proofs.Refusing.{drain_left_lem, drain_may, drain_asked, drain_finished}
use Rattle.driver.proofs.Answered.{handed_on}
use Rattle.driver.proofs.state.KernelProcessor.flush.Goals as goal

pub returns-in_err-judge_drain : goal.returns-in_err-judge_drain
returns-in_err-judge_drain c =
    let a = c.args in
    record {
      stays = stays_here _;
      left = rw (handed_on _ _ c.from_residual.ensures.1) (drain_left_lem a.format _ a.frames a.audio.now _ c.size_of-size.ensures _ c.judge_drain.ensures _ c.in_err-judge_drain.was);
    }

pub drainable-written-requires : goal.drainable-written-requires
drainable-written-requires c =
    let a = c.args in
    (drain_may a.format _ a.frames a.audio.now _ c.size_of-size.ensures _ c.judge_drain.ensures _ c.in_ok-judge_drain.was).drained_most

pub drain_frames-self-requires : goal.drain_frames-self-requires
drain_frames-self-requires c =
    let a = c.args in
    drain_asked a.format _ a.frames a.audio.now _ c.size_of-size.ensures _ c.judge_drain.ensures _ c.in_ok-judge_drain.was _ c.drainable-written.ensures

pub returns : goal.returns
returns c =
    let a = c.args in
    let d = c.drain_frames-self in
    record {
      stays = d.ensures.stays;
      left = drain_finished a.format _ a.frames a.audio.now _ c.size_of-size.ensures _ c.judge_drain.ensures _ c.in_ok-judge_drain.was _ _ d.result
          (stores_in d.new.lent) d.new.audio c.drainable-written.ensures refl d.ensures.value d.ensures.stores_after d.ensures.audio_after;
    }
