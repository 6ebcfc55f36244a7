-- What the inner functions of a block and a drain ask and give. The entry points' promises cite none of it.
use Rattle.std.specs.Prelude.{ℕ, ◌+◌, ◌-◌, ◌*◌, ◌/◌, ◌≤◌, ◌<◌, ◌≡◌, true, List, length, Float}
use Rattle.std.specs.Float.{nan}
use Rattle.arithmetic.specs.Number
use Rattle.arithmetic.specs.Number.{one, within}
use Rattle.audio.specs.Planar.{frames_at}
use Rattle.audio.specs.Format.{size_of, samples_of}
use Rattle.audio.specs.Inner.{Placed}
use Rattle.audio.specs.declared.format.Format.{Format}
use Rattle.detector.specs.Run.{run_length}
use Rattle.keeper.specs.InOrder.{most_frames}
use Rattle.frame.specs.Rules.{rules_of}
use Rattle.frame.specs.Run.{peaks_of_frames, written_in}
use Rattle.frame.specs.Place.{highest_from}
use Rattle.frame.specs.declared.highest.Highest.{Highest}
use Rattle.limiter.specs.Stores.{Stores, lengths_of, lengths_fit}
use Rattle.limiter.specs.Order
use Rattle.limiter.specs.declared.state.Limiter.{Limiter}
use Rattle.settings.specs.Target.{target_of}
use Rattle.bank.specs.Smoother.{stepped}
use Rattle.bank.specs.Bank.{all_changed}
use Rattle.bank.specs.declared.smoother_bank.SmootherBank.{SmootherBank}
use Rattle.turns.specs.Machine.{Machine, machine_of, threshold_of}
use Rattle.turns.specs.Events.{Event, events_from, events_of, Latched, latched}
use Rattle.turns.specs.Block.{Rendered, rendered, rendered_in, run_at, bank_at, Turn, turn_by, farthest, Outcome, outputs_of, block_done}
use Rattle.turns.specs.Drain.{silence}
use Rattle.turns.specs.declared.turn.Unfinished.{Unfinished}

-- ---- events
-- those from an index on
abbrev pub waiting_at : List ℕ → ℕ → List Event
waiting_at words cursor = events_from words cursor (length words / 3 - cursor)

-- as the code hands them on: the cursor is the index of the first event that waits
abbrev pub latched_at : SmootherBank → ℕ → List ℕ → Latched
latched_at b cursor words = record { bank = b; waiting = waiting_at words cursor }

-- latch, then step
abbrev pub before_run : ℕ → ℕ → List Event → SmootherBank → Latched
before_run position first events b =
    let l = latched first events b in
    record { bank = bank_at position l.bank; waiting = l.waiting }

-- ---- a run
-- 18, 16 and 19 judged of limiter and stores, and room for so many frames to come
pub record RunsReady (l : Limiter) (left : ℕ) (s : Stores) : Type 0 where
  pub set_up : Order.prepared l ≡ true
  pub lengths : lengths_fit l.channels l.env.keeper.look (lengths_of s) ≡ true
  pub order : Order.is_in_order l s.marks s.minima s.row ≡ true
  pub room : l.env.keeper.frame + left ≤ most_frames

-- the call's audio, so many frames a channel
pub record Lends (l : Limiter) (format : Format) (width : ℕ) (bytes : List ℕ) : Type 0 where
  pub short : width ≤ 65536
  pub audio_fit : size_of format bytes ≡ l.channels * width

-- n frames, from the frame `first` of a call's audio on, at a target; the run's own audio has 32 places for each of 8 channels
pub record RunAsked (l : Limiter) (format : Format) (target : Float) (width first n : ℕ) (s : Stores) (bytes : List ℕ) (run : List Float) : Type 0 where
  pub ready : RunsReady l n s
  pub lends : Lends l format width bytes
  pub run_fit : length run ≡ 8 * run_length
  pub unit : within Number.zero one target ≡ true
  pub some : 1 ≤ n
  pub short : n ≤ run_length
  pub inside : first + n ≤ width

-- those frames are rendered, the highest linked peak of the block goes on from `best`, their outputs are placed in the call's audio and in the run's, where everything else is as it was, and limiter and stores are as ready as they were
pub record RunGiven (l : Limiter) (format : Format) (target : Float) (width first n : ℕ) (s : Stores) (bytes : List ℕ) (run : List Float) (after : Limiter) (stores : Stores) (bytes' : List ℕ) (run' : List Float) (best highest : Highest) : Type 0 where
  pub limiter_is : after ≡ (rendered (rules_of l.settings format) l s target (frames_at nan width l.channels first n (samples_of format bytes))).limiter
  pub stores_are : stores ≡ (rendered (rules_of l.settings format) l s target (frames_at nan width l.channels first n (samples_of format bytes))).stores
  pub audio_is : Placed format l.channels n width first (outputs_of (rendered (rules_of l.settings format) l s target (frames_at nan width l.channels first n (samples_of format bytes))).frames) bytes bytes'
  pub run_is : run' ≡ written_in l.channels n run (outputs_of (rendered (rules_of l.settings format) l s target (frames_at nan width l.channels first n (samples_of format bytes))).frames)
  pub highest_is : highest ≡ highest_from first best (peaks_of_frames (rendered (rules_of l.settings format) l s target (frames_at nan width l.channels first n (samples_of format bytes))).frames)
  pub still : (left : ℕ) → l.env.keeper.frame + (n + left) ≤ most_frames → RunsReady after left stores

-- ---- a turn of a block
-- the frames that are left, and the absolute position of the first of them
abbrev pub frames_left : Unfinished → ℕ
frames_left b = b.frames - b.rendered

abbrev pub stands_at : Unfinished → ℕ
stands_at b = b.position + b.rendered

-- machine and geometry judged, room for the frames left, and one of them at least
pub record TurnAsked (m : Machine) (block : Unfinished) (format : Format) (words : List ℕ) (bytes : List ℕ) (run : List Float) : Type 0 where
  pub ready : RunsReady m.limiter (frames_left block) m.stores
  pub lends : Lends m.limiter format block.frames bytes
  pub run_fit : length run ≡ 8 * run_length
  pub far : block.position + block.frames ≤ farthest
  pub more : block.rendered < block.frames
  pub events_left : block.latched ≤ length words / 3

-- the definition's turn, of the run that starts where the block stands
abbrev pub turn_at : Format → Machine → Unfinished → List ℕ → List ℕ → Turn
turn_at format m block words bytes =
    turn_by (rendered_in format m) (stands_at block) block.rendered (waiting_at words block.latched)
    (frames_at nan block.frames m.limiter.channels block.rendered (run_at (stands_at block) (frames_left block)) (samples_of format bytes)) m

pub record TurnGiven (m : Machine) (block : Unfinished) (format : Format) (words : List ℕ) (bytes : List ℕ) (run : List Float) (after : Machine) (next : Unfinished) (bytes' : List ℕ) (run' : List Float) : Type 0 where
  pub machine_is : after ≡ (turn_at format m block words bytes).machine
  pub waiting_is : waiting_at words next.latched ≡ (turn_at format m block words bytes).waiting
  pub events_left : next.latched ≤ length words / 3
  pub position-is : next.position ≡ block.position
  pub frames_is : next.frames ≡ block.frames
  pub rendered_is : next.rendered ≡ block.rendered + run_at (stands_at block) (frames_left block)
  pub highest_is : next.highest ≡ highest_from block.rendered block.highest (peaks_of_frames (turn_at format m block words bytes).frames)
  pub audio_is : Placed format m.limiter.channels (run_at (stands_at block) (frames_left block)) block.frames block.rendered (outputs_of (turn_at format m block words bytes).frames) bytes bytes'
  pub run_is : run' ≡ written_in m.limiter.channels (run_at (stands_at block) (frames_left block)) run (outputs_of (turn_at format m block words bytes).frames)
  pub ready : RunsReady after.limiter (frames_left next) after.stores

-- ---- the turns of a block
-- machine and geometry judged, room for the frames
pub record BlockAsked (m : Machine) (format : Format) (position frames : ℕ) (bytes : List ℕ) : Type 0 where
  pub ready : RunsReady m.limiter frames m.stores
  pub lends : Lends m.limiter format frames bytes
  pub far : position + frames ≤ farthest

-- a bank that a step leaves alone, and the target of its threshold
pub record AtRest (l : Limiter) (target : Float) (b : SmootherBank) : Type 0 where
  pub target_is : target ≡ target_of (threshold_of b).cur l.settings.true_peak_margin_db
  pub still : all_changed stepped b ≡ b

-- a block with no event is asked for, and some bank rests at the target
pub record StillAsked (l : Limiter) (target : Float) (s : Stores) (format : Format) (position frames : ℕ) (bytes : List ℕ) : Type 0 where
  pub bank : SmootherBank
  pub rest : AtRest l target bank
  pub asked : BlockAsked (machine_of l bank s) format position frames bytes

-- what they leave
abbrev pub driven : Format → Machine → ℕ → ℕ → List ℕ → List ℕ → Outcome
driven format m position frames words bytes = block_done (rendered_in format m) format m position frames (events_of words) bytes

-- ---- the runs of a drain
-- so many frames of silence at the kept target
abbrev pub silent : Format → Limiter → Stores → ℕ → Rendered
silent format l s n = rendered (rules_of l.settings format) l s l.target (silence l.channels n)

-- limiter and stores judged, with room for n frames, which lie in the tail and in the audio
pub record DrainAsked (l : Limiter) (format : Format) (n width : ℕ) (s : Stores) (bytes : List ℕ) : Type 0 where
  pub ready : RunsReady l n s
  pub lends : Lends l format width bytes
  pub tail : l.drained + n ≤ l.env.keeper.look
  pub inside : n ≤ width
