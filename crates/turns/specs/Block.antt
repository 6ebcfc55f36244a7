-- A block: its turns, what it refuses, and what it leaves.
use Rattle.std.specs.Prelude.{ℕ, zero, suc, ◌+◌, ◌-◌, ◌*◌, ◌%◌, ◌^◌, min, Bool, cond, ◌&&◌, List, [], ◌∷◌, ◌++◌, map, Option, Some, None, eqb, leb, take, drop, Float}
use Rattle.std.specs.Float.{nan}
use Rattle.arithmetic.specs.Reply.{Reply, finished, numbered, count, and_then, must}
use Rattle.audio.specs.Planar.{frames_at}
use Rattle.audio.specs.Format.{size_of, samples_of, written_bytes}
use Rattle.audio.specs.declared.format.Format.{Format}
use Rattle.keeper.specs.InOrder.{most_frames}
use Rattle.frame.specs.Rules.{Rules, rules_of}
use Rattle.frame.specs.Frame.{Framed}
use Rattle.frame.specs.Run.{frames_of, peaks_of_frames}
use Rattle.frame.specs.Place.{Place, place_of}
use Rattle.frame.specs.declared.highest.Seat.{Seat}
use Rattle.limiter.specs.Stores.{Stores}
use Rattle.limiter.specs.Run.{moving_of, envelope_of, moved_on, stores_of}
use Rattle.limiter.specs.declared.state.Limiter.{Limiter}
use Rattle.bank.specs.Smoother.{stepped}
use Rattle.bank.specs.Bank.{all_changed}
use Rattle.bank.specs.declared.smoother_bank.SmootherBank.{SmootherBank}
use Rattle.turns.specs.Machine.{Machine, machine_of, target_now, ready_refusal}
use Rattle.turns.specs.Events.{Event, events_reply, latched, latched_all}

-- ---- rendering
-- limiter and stores after frames, and what each of them showed
pub record Rendered : Type 0 where
  pub limiter : Limiter
  pub stores : Stores
  pub frames : List Framed

-- how frames go through a limiter at a target
abbrev pub Renderer : Type 0
Renderer = Limiter → Stores → Float → List (List Float) → Rendered

-- the frames in turn; "Rendering keeps its target and sets the drained count to 0"
unfoldable pub rendered : Rules → Renderer
rendered rules l s target fs =
    let r = frames_of rules s.weights l.release_coeff l.env.keeper.look target (moving_of l s) fs in
    record { limiter = moved_on l (envelope_of r.moving.env) r.moving.pos target 0; stores = stores_of r.moving s.weights; frames = r.frames }

-- ---- runs
-- "a multiple of 32": the bank's period, and the longest run
abbrev pub period : ℕ
period = 32

-- "A run ends at the next multiple of 32 of the absolute position or at the block's end": the first run's frames
abbrev pub run_at : ℕ → ℕ → ℕ
run_at position frames = min (period - position % period) frames

-- the runs of a block, as many as are left of `most`; each has a frame at least
unfoldable pub runs_from : ℕ → ℕ → ℕ → List ℕ
runs_from zero position frames = []
runs_from (suc most) position zero = []
runs_from (suc most) position (suc n) = run_at position (suc n) ∷ runs_from most (position + run_at position (suc n)) (suc n - run_at position (suc n))

abbrev pub runs_of : ℕ → ℕ → List ℕ
runs_of position frames = runs_from frames position frames

-- "step the bank once if that frame's absolute position is a multiple of 32"
abbrev pub bank_at : ℕ → SmootherBank → SmootherBank
bank_at position b = cond (eqb (position % period) 0) (all_changed stepped b) b

-- ---- one turn: "Before a run, latch events stamped at or before its first frame; step the bank once if that frame's absolute position is a multiple of 32; render"
pub record Turn : Type 0 where
  pub machine : Machine
  -- the events that wait for a later run
  pub waiting : List Event
  -- what each frame showed
  pub frames : List Framed

-- the run of these frames, whose first is frame `first` of its block and stands at an absolute position
abbrev pub turn_by : Renderer → ℕ → ℕ → List Event → List (List Float) → Machine → Turn
turn_by render position first events fs m =
    let l = latched first events m.bank in
    let b = bank_at position l.bank in
    let r = render m.limiter m.stores (target_now (machine_of m.limiter b m.stores)) fs in
    record { machine = machine_of r.limiter b r.stores; waiting = l.waiting; frames = r.frames }

-- what runs leave: the machine, and what each frame showed
pub record RunsLeft : Type 0 where
  pub machine : Machine
  pub frames : List Framed

-- a turn for each of these lengths; "After the last run latch the rest"
unfoldable pub runs_through : Renderer → ℕ → ℕ → List ℕ → List Event → List (List Float) → Machine → RunsLeft
runs_through render position first [] events fs m = record { machine = machine_of m.limiter (latched_all events m.bank) m.stores; frames = [] }
runs_through render position first (n ∷ ns) events fs m =
    let t = turn_by render position first events (take n fs) m in
    let later = runs_through render (position + n) (first + n) ns t.waiting (drop n fs) t.machine in
    record { machine = later.machine; frames = t.frames ++ later.frames }

-- ---- what a block refuses
-- 20: frames over the largest block, or audio length not channels × frames
abbrev pub sized : Machine → ℕ → ℕ → ℕ → Bool
sized m most frames size = leb frames most && eqb size (m.limiter.channels * frames)

-- 22: frames since reset + frames over 2^40
abbrev pub has_room : Machine → ℕ → Bool
has_room m frames = leb (m.limiter.env.keeper.frame + frames) most_frames

-- 22: position + frames over 2^62
abbrev pub farthest : ℕ
farthest = 2 ^ 62

abbrev pub reaches : ℕ → ℕ → Bool
reaches position frames = leb (position + frames) farthest

-- 20; 21; 22
abbrev pub call_reply : Machine → ℕ → ℕ → List Event → ℕ → Reply
call_reply m position frames events size =
    and_then (must (sized m m.limiter.max_block frames size) 20)
    (and_then (events_reply frames 0 0 events)
    (must (reaches position frames && has_room m frames) 22))

-- 18, 16, 19; then those
unfoldable pub block_reply : Machine → ℕ → ℕ → List Event → ℕ → Reply
block_reply m position frames events size = and_then (numbered (ready_refusal m)) (call_reply m position frames events size)

-- ---- Change 5: what a finished block tells. On a sample: 1, the frame, the channel; between two samples: 2, the frame, the channel, the phase; where there is no place, nothing
abbrev pub placed : ℕ → Option Seat → Reply
placed i None = finished []
placed i (Some (Seat.OnSample c)) = finished (count 1 ∷ count i ∷ count c ∷ [])
placed i (Some (Seat.Between c phase)) = finished (count 2 ∷ count i ∷ count c ∷ count phase ∷ [])

abbrev pub place_reply : Place → Reply
place_reply p = placed p.frame p.seat

-- ---- what a call leaves
pub record Outcome : Type 0 where
  pub reply : Reply
  pub machine : Machine
  -- its audio
  pub bytes : List ℕ
  -- what each frame showed
  pub frames : List Framed

-- a refused call changes nothing
abbrev pub refused_as : Reply → Machine → List ℕ → Outcome
refused_as reply m bytes = record { reply = reply; machine = m; bytes = bytes; frames = [] }

abbrev pub outputs_of : List Framed → List (List Float)
outputs_of frames = map (λ (f : Framed). f.outputs) frames

-- "Audio is planar"; each output takes its sample's place
abbrev pub block_done : Renderer → Format → Machine → ℕ → ℕ → List Event → List ℕ → Outcome
block_done render format m position frames events bytes =
    let k = m.limiter.channels in
    let r = runs_through render position 0 (runs_of position frames) events (frames_at nan frames k 0 frames (samples_of format bytes)) m in
    record { reply = place_reply (place_of (peaks_of_frames r.frames)); machine = r.machine; bytes = written_bytes format frames k frames bytes (outputs_of r.frames); frames = r.frames }

-- a block, with any renderer
unfoldable pub block_by : Renderer → Format → Machine → ℕ → ℕ → List Event → List ℕ → Outcome
block_by render format m position frames events bytes =
    let reply = block_reply m position frames events (size_of format bytes) in
    cond (eqb reply.number 0) (block_done render format m position frames events bytes) (refused_as reply m bytes)

-- by the rules of what was set up and of the call's sample type
abbrev pub rendered_in : Format → Machine → Renderer
rendered_in format m = rendered (rules_of m.limiter.settings format)

abbrev pub block_of : Format → Machine → ℕ → ℕ → List Event → List ℕ → Outcome
block_of format m position frames events bytes = block_by (rendered_in format m) format m position frames events bytes
