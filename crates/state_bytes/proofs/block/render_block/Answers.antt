-- `render_block`: at rest, or the turns of the bank that shows the threshold.
use Rattle.turns.proofs.Still.{same_bytes, same_place}
use Rattle.state_bytes.proofs.Shows.{still_shows}
use Rattle.state_bytes.proofs.block.render_block.Goals as goal

pub returns-then-events-rests : goal.returns-then-events-rests
returns-then-events-rests c =
    let r = c.render_still.ensures in
    record {
      stays = r.stays;
      shown = still_shows _ _ _ _ _ _ _ c.if-events-rests.true _ r.shown;
      audio_after = same_bytes _ _ _ _ _ _ _ c.if-events-rests.true _ r.audio_after;
      seat_value = same_place _ _ _ _ _ _ _ c.if-events-rests.true _ _ r.seat_value;
    }
