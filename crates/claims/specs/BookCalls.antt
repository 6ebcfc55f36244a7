-- What the book makes of a call, from its arguments alone. It takes each frame by its absolute position: which events latch there, and whether the bank steps there.
use Rattle.std.specs.Prelude.{ℕ, zero, suc, ◌+◌, ◌-◌, ◌*◌, ◌%◌, min, Bool, cond, ◌&&◌, List, [], ◌∷◌, eqb, leb, length, get_or, replicate, Float}
use Rattle.std.specs.Float.{nan}
use Rattle.std.specs.Float.Ieee.Scale.{finite}
use Rattle.audio.specs.Format.{size_of, samples_of}
use Rattle.arithmetic.specs.Number
use Rattle.arithmetic.specs.Reply.{Reply, finished, refused, count, float, and_then, must}
use Rattle.keeper.specs.InOrder.{most_frames}
use Rattle.settings.specs.Target.{target_of}
use Rattle.settings.specs.declared.LimiterSettings.{LimiterSettings}
use Rattle.settings.specs.declared.ProcessSpec.{ProcessSpec}
use Rattle.frame.specs.Rules.{linking_of}
use Rattle.frame.specs.Place.{place_of}
use Rattle.bank.specs.Smoother.{smoother_of, target_set, immediate_set, stepped, reset_one}
use Rattle.bank.specs.declared.smoother.Smoother.{Smoother}
use Rattle.turns.specs.Machine.{threshold_param}
use Rattle.turns.specs.Events.{Event, events_reply}
use Rattle.turns.specs.Block.{reaches, place_reply}
use Rattle.turns.specs.Drain.{longest_drain}
use Rattle.claims.specs.Session.{Call, block, drain, parameter, reset}
use Rattle.claims.specs.Book.{Joined, Book, look_in, peaks_joining}

-- ---- opening
-- afresh: the target is the default threshold's
abbrev pub opened : LimiterSettings → ProcessSpec → List Float → Smoother → Book
opened s spec weights threshold = record {
  settings = s;
  spec = spec;
  weights = weights;
  threshold = threshold;
  target = target_of s.threshold_db s.true_peak_margin_db;
  drained = 0;
  frames = [];
}

-- after a setup: the threshold's smoother stands at its default
abbrev pub opened_new : LimiterSettings → ProcessSpec → List Float → Book
opened_new s spec weights = opened s spec weights (smoother_of spec.rate (threshold_param s))

-- after a reset of its own: afresh, but for what reset keeps of the bank
abbrev pub reopened : Book → Book
reopened b = opened b.settings b.spec b.weights (reset_one b.threshold)

-- ---- the threshold, by absolute positions
-- whether the bank steps at an absolute position
abbrev pub steps_at : ℕ → Bool
steps_at position = eqb (position % 32) 0

-- the frame of a block at which an event of this offset latches: the block's first frame if it is stamped there, else the first frame at or after its stamp at which the bank steps
abbrev pub latches_at : ℕ → ℕ → ℕ
latches_at position offset = cond (eqb offset 0) 0 (offset + (32 - (position + offset) % 32) % 32)

-- an event for another parameter than the threshold is ignored
abbrev pub latch : Event → Smoother → Smoother
latch e s = cond (eqb e.id 0) (target_set e.value s) s

-- the events that latch at a frame which passes a test, in their order
unfoldable pub latch_where : (ℕ → Bool) → ℕ → List Event → Smoother → Smoother
latch_where test position [] s = s
latch_where test position (e ∷ es) s = latch_where test position es (cond (test (latches_at position e.offset)) (latch e s) s)

-- the threshold in frame i of a block
unfoldable pub threshold_at : ℕ → List Event → ℕ → Smoother → Smoother
threshold_at position events i s =
    let t = latch_where (λ (f : ℕ). eqb f i) position events s in
    cond (steps_at (position + i)) (stepped t) t

-- ---- the frames of a call, oldest first
-- a channel's sample of frame i: planar audio of so many frames, k channels from channel c on
unfoldable pub samples_from : ℕ → ℕ → ℕ → ℕ → List Float → List Float
samples_from frames i c zero audio = []
samples_from frames i c (suc k) audio = get_or audio (c * frames + i) nan ∷ samples_from frames i (c + 1) k audio

-- frames that join, and the threshold after them
pub record Joining : Type 0 where
  pub frames : List Joined
  pub threshold : Smoother

-- n frames of a block from frame i on, each with the target that the threshold gives there
unfoldable pub joining_from : Book → ℕ → ℕ → List Event → List Float → ℕ → ℕ → Smoother → Joining
joining_from b position frames events audio i zero s = record { frames = []; threshold = s }
joining_from b position frames events audio i (suc n) s =
    let t = threshold_at position events i s in
    let later = joining_from b position frames events audio (i + 1) n t in
    record {
      frames = record { samples = samples_from frames i 0 b.spec.channels audio; target = target_of t.cur b.settings.true_peak_margin_db } ∷ later.frames;
      threshold = later.threshold;
    }

-- a frame of a drain: silent input, the kept target
abbrev pub silent_frame : Book → Joined
silent_frame b = record { samples = replicate b.spec.channels Number.zero; target = b.target }

-- ---- what becomes of the book
-- frames join one after the other
unfoldable pub join_all : List Joined → List Joined → List Joined
join_all history [] = history
join_all history (f ∷ fs) = join_all (f ∷ history) fs

-- the target of the last one, if any
unfoldable pub last_target : Float → List Joined → Float
last_target target [] = target
last_target target (f ∷ fs) = last_target f.target fs

abbrev pub grown : Book → Smoother → ℕ → List Joined → Book
grown b threshold drained fs = record {
  settings = b.settings;
  spec = b.spec;
  weights = b.weights;
  threshold = threshold;
  target = last_target b.target fs;
  drained = drained;
  frames = join_all b.frames fs;
}

-- the book's own reply, the frames that join, and the book afterwards
pub record Entry : Type 0 where
  pub reply : Reply
  pub joined : List Joined
  pub book : Book

-- the book passes over the calls that the table refuses
abbrev pub passed_over_by : Reply → Book → Entry
passed_over_by reply b = record { reply = reply; joined = []; book = b }

abbrev pub entered : Reply → Entry → Book → Entry
entered reply e b = cond (eqb reply.number 0) e (passed_over_by reply b)

-- ---- a block: 20, 21, 22
abbrev pub block_judged : Book → ℕ → ℕ → List Event → ℕ → Reply
block_judged b position frames events size =
    and_then (must (leb frames b.spec.max_block && eqb size (b.spec.channels * frames)) 20)
    (and_then (events_reply frames 0 0 events) (must (reaches position frames && leb (length b.frames + frames) most_frames) 22))

-- the frames, then the events that no frame of the block latched; a block of no frames leaves the drained count.
-- Change 5: the reply names "the first frame, counted from 0 in the block, with the highest linked peak", and where that sat
unfoldable pub block_entered : Book → ℕ → ℕ → List Event → List Float → Entry
block_entered b position frames events audio =
    let j = joining_from b position frames events audio 0 frames b.threshold in
    let rest = latch_where (λ (f : ℕ). leb frames f) position events j.threshold in
    record {
      reply = place_reply (place_of (peaks_joining (linking_of b.settings) b.spec.channels b.frames j.frames));
      joined = j.frames;
      book = grown b rest (cond (eqb frames 0) b.drained 0) j.frames;
    }

-- ---- a drain: 20, 22
abbrev pub drain_judged : Book → ℕ → ℕ → Reply
drain_judged b frames size =
    and_then (must (leb frames longest_drain && eqb size (b.spec.channels * frames)) 20) (must (leb (length b.frames + frames) most_frames) 22)

-- "A drain of f frames writes the first min(f, look − drained) of each channel, and is done once drained reaches look"
unfoldable pub drain_entered : Book → ℕ → Entry
drain_entered b frames =
    let n = min frames (look_in b - b.drained) in
    let fs = replicate n (silent_frame b) in
    record {
      reply = finished (count n ∷ count (cond (leb (look_in b) (b.drained + n)) 1 0) ∷ []);
      joined = fs;
      book = grown b b.threshold (b.drained + n) fs;
    }

-- ---- a parameter call: 23, 24; the limiter has one parameter
abbrev pub parameter_judged : ℕ → Float → Reply
parameter_judged id v = and_then (cond (finite v) (finished []) (refused 23 (count id ∷ float v ∷ []))) (must (eqb id 0) 24)

abbrev pub parameter_entered : Book → Float → Entry
parameter_entered b v = record { reply = finished []; joined = []; book = grown b (immediate_set v b.threshold) b.drained [] }

-- ---- each call
unfoldable pub enter : Book → Call → Entry
enter b (block format position frames events bytes) =
    entered (block_judged b position frames events (size_of format bytes)) (block_entered b position frames events (samples_of format bytes)) b
enter b (drain format frames bytes) = entered (drain_judged b frames (size_of format bytes)) (drain_entered b frames) b
enter b (parameter id v) = entered (parameter_judged id v) (parameter_entered b v) b
-- in a list 18 and 16 never arise (`CallHolds.never`), so that a reset is finished
enter b reset = record { reply = finished []; joined = []; book = reopened b }

-- reading a parameter: its value, or 24
abbrev pub value_in : Book → ℕ → Reply
value_in b id = cond (eqb id 0) (finished (float b.threshold.cur ∷ [])) (refused 24 [])
