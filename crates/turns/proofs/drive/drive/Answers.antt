-- `drive`: no event and a still bank, or turn by turn.
use mathlib.Core.Path.{◌≡◌}
use mathlib.Core.Bool.{Bool, true, ◌&&◌}
use lib.Ieee.{Float}
use Rattle.arithmetic.proofs.Order.{and-true}
use Rattle.settings.specs.Target.{target_of}
use Rattle.limiter.specs.declared.state.Limiter.{Limiter}
use Rattle.bank.specs.Smoother.{stepped}
use Rattle.bank.specs.Bank.{all_changed}
use Rattle.bank.specs.declared.smoother_bank.SmootherBank.{SmootherBank}
use Rattle.turns.specs.Machine.{threshold_of}
use Rattle.turns.specs.Inner.{AtRest}
use Rattle.turns.proofs.Still.{same_machine, same_bytes, same_place}
use Rattle.turns.proofs.drive.drive.Goals as goal

-- a bank that is found still rests at its target
at_rest : (l : Limiter) (target : Float) (b : SmootherBank) → target ≡ target_of (threshold_of b).cur l.settings.true_peak_margin_db → (few still : Bool) → (still ≡ true → all_changed stepped b ≡ b)
    → few && still ≡ true → AtRest l target b
at_rest l target b T few still S h = record { target_is = T; still = S (and-true few still h).1 }

pub is_still-requires : goal.is_still-requires
is_still-requires c = tt

pub target_now-requires : goal.target_now-requires
target_now-requires c = tt

pub drive_still-moved-requires : goal.drive_still-moved-requires
drive_still-moved-requires c =
    let a = c.args in
    record {
      bank = a.bank;
      rest = at_rest a.limiter _ a.bank c.target_now.ensures _ _ c.is_still.ensures c.if-events-is_still.true;
      asked = c.requires;
    }

pub shape_of-audio-then-events-is_still : goal.shape_of-audio-then-events-is_still
shape_of-audio-then-events-is_still c = c.drive_still-moved.auto.audio

pub returns-then-events-is_still : goal.returns-then-events-is_still
returns-then-events-is_still c =
    let a = c.args in
    let z = at_rest a.limiter c.target_now.result a.bank c.target_now.ensures _ _ c.is_still.ensures c.if-events-is_still.true in
    let r = c.drive_still-moved.ensures in
    record {
      stays = c.drive_still-moved.ensures.stays;
      machine_after = same_machine _ _ _ _ _ _ _ c.if-events-is_still.true _ (r.machine_after a.bank z);
      audio_after = same_bytes _ _ _ _ _ _ _ c.if-events-is_still.true _ (r.audio_after a.bank z);
      seat_value = same_place _ _ _ _ _ _ _ c.if-events-is_still.true _ _ (r.highest_value a.bank z);
    }

pub drive_turns-requires : goal.drive_turns-requires
drive_turns-requires c = c.requires

pub shape_of-audio : goal.shape_of-audio
shape_of-audio c = c.drive_turns.auto.audio

pub returns : goal.returns
returns c =
    record {
      stays = c.drive_turns.ensures.stays;
      machine_after = c.drive_turns.ensures.machine_after;
      audio_after = c.drive_turns.ensures.audio_after;
      seat_value = c.drive_turns.ensures.seat_value;
    }
