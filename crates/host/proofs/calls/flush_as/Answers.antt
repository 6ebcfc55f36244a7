-- `flush_as`: a drain through bytes.
use mathlib.Core.Path.{ap}
use mathlib.Core.List.{List}
use Prim.Native.Nat.{ℕ}
use Rattle.turns.specs.Machine.{Machine}
use Rattle.turns.specs.Drain.{drain_of}
use Rattle.driver.specs.Answers.{flush_reply, Seen}
use Rattle.state_bytes.proofs.Finished.{drain_set_up}
use Rattle.host.proofs.Through.{told, finished_long, rendered}
use Rattle.host.proofs.calls.flush_as.Goals as goal

pub leave-requires : goal.leave-requires
leave-requires c =
    finished_long c.args.answer.now _ _ c.read_state-p.ensures _ _ _ (drain_set_up _ c.args.format _ _) (ap (λ (s : Seen). s.reply) c.flush-told.ensures.left) (told flush_reply _ _ c.into.ensures)

pub returns : goal.returns
returns c =
    record {
      stays = c.flush-told.ensures.stays;
      left = rendered c.args.answer.now c.args.state.now c.read_state-p.result c.read_state-p.ensures (flush_reply c.flush-told.result) c.flush-told.new.self _ c.into.result _ _ _
          (told flush_reply _ _ c.into.ensures) c.leave.ensures.value c.leave.ensures.buffer_after c.leave.ensures.state_after
          (λ (m : Machine) (bytes : List ℕ). drain_of c.args.format m c.args.frames bytes) _ c.args.audio.now _ c.flush-told.ensures.left;
    }
