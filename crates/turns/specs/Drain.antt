-- A drain: frames of silence at the kept target, until as many are drained as the look.
use Rattle.std.specs.Prelude.{ℕ, ◌+◌, ◌-◌, min, cond, List, [], ◌∷◌, eqb, leb, replicate, Float}
use Rattle.arithmetic.specs.Number
use Rattle.arithmetic.specs.Reply.{Reply, finished, count, numbered, and_then, must}
use Rattle.audio.specs.Format.{size_of, written_bytes}
use Rattle.audio.specs.declared.format.Format.{Format}
use Rattle.limiter.specs.Run.{moved_on}
use Rattle.limiter.specs.declared.state.Limiter.{Limiter}
use Rattle.turns.specs.Machine.{Machine, machine_of, ready_refusal}
use Rattle.turns.specs.Block.{Renderer, rendered_in, sized, has_room, Outcome, refused_as, outputs_of}

-- 20 in a drain: over 65,536 frames
abbrev pub longest_drain : ℕ
longest_drain = 65536

-- 20; 22, which counts the frames asked for
abbrev pub tail_reply : Machine → ℕ → ℕ → Reply
tail_reply m frames size = and_then (must (sized m longest_drain frames size) 20) (must (has_room m frames) 22)

-- 18, 16, 19; then those
unfoldable pub drain_reply : Machine → ℕ → ℕ → Reply
drain_reply m frames size = and_then (numbered (ready_refusal m)) (tail_reply m frames size)

-- "A drain of f frames writes the first min(f, look − drained) of each channel"
abbrev pub drainable : Limiter → ℕ → ℕ
drainable l frames = min frames (l.env.keeper.look - l.drained)

-- "and is done once drained reaches look"
abbrev pub done_at : Limiter → ℕ → ℕ
done_at l drained = cond (leb l.env.keeper.look drained) 1 0

abbrev pub with_drained : Limiter → ℕ → Limiter
with_drained l drained = moved_on l l.env l.delay_pos l.target drained

-- so many frames of silence
abbrev pub silence : ℕ → ℕ → List (List Float)
silence channels n = replicate n (replicate channels Number.zero)

abbrev pub drain_done : Renderer → Format → Machine → ℕ → List ℕ → Outcome
drain_done render format m frames bytes =
    let l = m.limiter in
    let n = drainable l frames in
    let r = render l m.stores l.target (silence l.channels n) in
    record {
      reply = finished (count n ∷ count (done_at l (l.drained + n)) ∷ []);
      machine = machine_of (with_drained r.limiter (l.drained + n)) m.bank r.stores;
      bytes = written_bytes format frames l.channels n bytes (outputs_of r.frames);
      frames = r.frames;
    }

-- a drain, with any renderer
unfoldable pub drain_by : Renderer → Format → Machine → ℕ → List ℕ → Outcome
drain_by render format m frames bytes =
    let reply = drain_reply m frames (size_of format bytes) in
    cond (eqb reply.number 0) (drain_done render format m frames bytes) (refused_as reply m bytes)

abbrev pub drain_of : Format → Machine → ℕ → List ℕ → Outcome
drain_of format m frames bytes = drain_by (rendered_in format m) format m frames bytes
