-- `process`: refused, or the turns.
use mathlib.Core.Path.{sym, ap}
use Rattle.limiter.specs.Stores.{stores_in}
use Rattle.turns.specs.Machine.{machine_of}
use Rattle.turns.specs.Events.{events_of}
use Rattle.turns.specs.Block.{placed, place_reply}
use Rattle.frame.proofs.Lent.{stays_here}
use Rattle.driver.proofs.Answered.{handed_on, block_asks, block_left, block_finished}
use Rattle.driver.proofs.state.KernelProcessor.process.Goals as goal

pub returns-in_err-judge_lent : goal.returns-in_err-judge_lent
returns-in_err-judge_lent c =
    let a = c.args in
    record {
      stays = stays_here _;
      left = rw (handed_on _ _ c.from_residual.ensures.1)
          (block_left a.format _ a.position a.frames (events_of a.events.now) a.audio.now _ c.size_of-size.ensures _ (c.judge_lent.ensures a.self.now.bank (sym c.shown.ensures)) _ c.in_err-judge_lent.was);
    }

pub drive-left-requires : goal.drive-left-requires
drive-left-requires c =
    let a = c.args in
    block_asks a.format _ a.position a.frames (events_of a.events.now) a.audio.now _ c.size_of-size.ensures _ (c.judge_lent.ensures a.self.now.bank (sym c.shown.ensures)) _ c.in_ok-judge_lent.was

pub returns : goal.returns
returns c =
    let a = c.args in
    let d = c.drive-left in
    record {
      stays = d.ensures.stays;
      left = block_finished a.format _ a.position a.frames (events_of a.events.now) a.audio.now _ c.size_of-size.ensures _ (c.judge_lent.ensures a.self.now.bank (sym c.shown.ensures)) (placed d.result.frame d.result.seat)
          (machine_of d.result.limiter d.result.bank (stores_in d.new.lent)) d.new.audio _ c.in_ok-judge_lent.was (ap place_reply d.ensures.seat_value) d.ensures.machine_after d.ensures.audio_after;
    }
