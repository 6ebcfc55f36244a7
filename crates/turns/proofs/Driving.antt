-- The turns of a block: what the rest of the runs makes of the machine now is what all of them make of the machine at the start.
use mathlib.Core.Bool.{Bool}
use mathlib.Core.Path.{◌≡◌, refl, sym, ap, subst, ◌∙◌}
use mathlib.Core.List.{List, [], ◌++◌, append_assoc, append-nil, map-append}
use Prim.Native.Nat.{ℕ, zero, suc, ◌+◌, ◌-◌, ◌*◌, ◌/◌, ◌≤◌, ◌<◌}
use native.Mathlib.Omega.{arith}
use lib.ListN.{length, take, drop, length-append, length-map}
use lib.Ieee.{Float, nan}
use Rattle.arithmetic.specs.Number.{largest}
use Rattle.audio.specs.Planar.{frames_at}
use Rattle.audio.specs.Format.{size_of, samples_of, written_bytes}
use Rattle.audio.specs.Inner.{Placed}
use Rattle.audio.specs.declared.format.Format.{Format}
use Rattle.audio.proofs.Planes.{frames_take, frames_drop, frames_at_length}
use Rattle.audio.proofs.Written.{written_bytes_none, written_bytes_size, samples_ahead, placed_joins}
use Rattle.detector.specs.Run.{run_length}
use Rattle.frame.specs.Rules.{rules_of}
use Rattle.frame.specs.Frame.{Framed}
use Rattle.frame.specs.Run.{peaks_of_frames}
use Rattle.frame.specs.Place.{place_told, start_of, place_in}
use Rattle.frame.proofs.Found.{SoFar, so_far_start, so_far_more, so_far_done}
use Rattle.bank.specs.declared.smoother_bank.SmootherBank.{SmootherBank}
use Rattle.turns.specs.Machine.{Machine, machine_of}
use Rattle.turns.specs.Events.{Event, events_of, latched_all}
use Rattle.turns.specs.Block.{Renderer, rendered_in, run_at, runs_from, runs_of, Turn, turn_by, RunsLeft, runs_through, outputs_of}
use Rattle.turns.specs.Inner.{waiting_at, RunsReady, frames_left, stands_at, turn_at, TurnAsked, TurnGiven, BlockAsked, driven}
use Rattle.turns.specs.declared.turn.Unfinished.{Unfinished}
use Rattle.turns.proofs.Rendering.{shown_many, shown_from_zero, channels_kept, settings_kept, audio_small}

-- frames shown before what later runs leave
abbrev pub joined : List Framed → RunsLeft → RunsLeft
joined shown later = record { machine = later.machine; frames = shown ++ later.frames }

joined_joined : (a b : List Framed) (r : RunsLeft) → joined a (joined b r) ≡ joined (a ++ b) r
joined_joined a b r = ap (λ (l : List Framed). record { machine = r.machine; frames = l }) (sym (append_assoc a b r.frames))

-- ---- one run
module _ (render : Renderer) where
  -- a turn and what follows it
  runs-step : (position first most left n p l : ℕ) (events : List Event) (fs gs hs : List (List Float)) (m : Machine) (t : Turn)
      → 1 ≤ left → left ≤ most → n ≡ run_at position left → p ≡ position + n → l ≡ left - n → gs ≡ take n fs → hs ≡ drop n fs → t ≡ turn_by render position first events gs m
      → runs_through render position first (runs_from most position left) events fs m ≡ joined t.frames (runs_through render p (first + n) (runs_from (most - 1) p l) t.waiting hs t.machine)
  unfolding runs_from runs_through
  runs-step position first zero left n p l events fs gs hs m t some enough N P L G H T = absurd (omega arith)
  runs-step position first (suc most) zero n p l events fs gs hs m t some enough N P L G H T = absurd (omega arith)
  runs-step position first (suc most) (suc left) n p l events fs gs hs m t some enough N P L G H T =
      let f : suc most - 1 ≡ most = omega arith in
      rw (f, T, H, G, P, L, N) refl

  runs_end : (position first most : ℕ) (events : List Event) (fs : List (List Float)) (m : Machine)
      → runs_through render position first (runs_from most position 0) events fs m ≡ record { machine = machine_of m.limiter (latched_all events m.bank) m.stores; frames = [] }
  unfolding runs_from runs_through
  runs_end position first zero events fs m = refl
  runs_end position first (suc most) events fs m = refl

-- ---- the turns, of a block that is asked for its place or not
module _ (format : Format) (position frames : ℕ) (words bytes₀ : List ℕ) (m₀ : Machine) (told : Bool) where
  abbrev k : ℕ
  k = m₀.limiter.channels

  abbrev render : Renderer
  render = rendered_in format m₀

  abbrev samples : List Float
  samples = samples_of format bytes₀

  -- all the runs
  abbrev pub whole : RunsLeft
  whole = runs_through render position 0 (runs_of position frames) (events_of words) (frames_at nan frames k 0 frames samples) m₀

  -- the runs from a frame on
  abbrev pub rest : ℕ → ℕ → ℕ → Machine → RunsLeft
  rest most first cursor m = runs_through render (position + first) first (runs_from most (position + first) (frames - first)) (waiting_at words cursor) (frames_at nan frames k first (frames - first) samples) m

  pub record Driving (block : Unfinished) (m : Machine) (bytes : List ℕ) (run : List Float) : Type 0 where
    pub position-is : block.position ≡ position
    pub frames_is : block.frames ≡ frames
    -- what the frames so far showed
    pub shown : List Framed
    pub many : length shown ≡ block.rendered
    pub so_far : SoFar told block.highest shown
    pub most : ℕ
    pub enough : frames - block.rendered ≤ most
    pub inside : block.rendered ≤ frames
    pub events_left : block.latched ≤ length words / 3
    pub channels_are : m.limiter.channels ≡ k
    pub settings_are : m.limiter.settings ≡ m₀.limiter.settings
    pub same : joined shown (rest most block.rendered block.latched m) ≡ whole
    pub audio_is : bytes ≡ written_bytes format frames k block.rendered bytes₀ (outputs_of shown)
    pub ready : RunsReady m.limiter (frames - block.rendered) m.stores
    pub run_fit : length run ≡ 8 * run_length

  -- ---- from the start
  pub driving_start : (run : List Float) → length run ≡ 8 * run_length → BlockAsked m₀ format position frames bytes₀ → (block : Unfinished) → block ≡ record { position = position; frames = frames; rendered = 0; latched = 0; highest = start_of told } → Driving block m₀ bytes₀ run
  driving_start run fit a block E = subst (λ (b : Unfinished). Driving b m₀ bytes₀ run) (sym E) start
    where
      start : Driving (record { position = position; frames = frames; rendered = 0; latched = 0; highest = start_of told }) m₀ bytes₀ run
      start =
          let e : position + 0 ≡ position = omega arith in
          let f : frames - 0 ≡ frames = omega arith in
          let g : length words / 3 - 0 ≡ length words / 3 = omega arith in
          record {
            position-is = refl;
            frames_is = refl;
            shown = [];
            many = refl;
            so_far = so_far_start told;
            most = frames;
            enough = omega arith;
            inside = omega arith;
            events_left = omega arith;
            channels_are = refl;
            settings_are = refl;
            same = rw (e, f, g) refl;
            audio_is = sym (written_bytes_none format frames k bytes₀ a.lends.audio_fit (audio_small m₀.limiter frames a.ready.set_up a.lends.short));
            ready = subst (λ (n : ℕ). RunsReady m₀.limiter n m₀.stores) (sym f) a.ready;
            run_fit = fit;
          }

  module _ (asked : BlockAsked m₀ format position frames bytes₀) (block : Unfinished) (m : Machine) (bytes : List ℕ) (run : List Float) (d : Driving block m bytes run) (more : block.rendered < frames) where
    abbrev first : ℕ
    first = block.rendered

    abbrev n : ℕ
    n = run_at (stands_at block) (frames_left block)

    outputs_many : length (outputs_of d.shown) ≡ first
    outputs_many = length-map d.shown (λ (f : Framed). f.outputs) ∙ d.many

    small : k * frames < largest
    small = audio_small m₀.limiter frames asked.ready.set_up asked.lends.short

    audio_size : size_of format bytes ≡ m.limiter.channels * block.frames
    audio_size =
        ap (size_of format) d.audio_is
        ∙ written_bytes_size format frames k bytes₀ asked.lends.audio_fit small first (outputs_of d.shown) d.inside outputs_many
        ∙ rw (d.channels_are, d.frames_is) refl

    -- ---- a turn is asked no more than it may be
    pub driving_asks : TurnAsked m block format words bytes run
    driving_asks = record {
      ready = rw d.frames_is d.ready;
      lends = record { short = rw d.frames_is asked.lends.short; audio_fit = audio_size };
      run_fit = d.run_fit;
      far = rw (d.position-is, d.frames_is) asked.far;
      more = rw d.frames_is more;
      events_left = d.events_left;
    }

    -- ---- and leaves the next
    module _ (after : Machine) (next : Unfinished) (bytes' : List ℕ) (run' : List Float) (r : TurnGiven m block format words bytes run after next bytes' run') (R : length run' ≡ length run) where
      abbrev turn : Turn
      turn = turn_at format m block words bytes

      n-is : n ≡ run_at (position + first) (frames - first)
      n-is = rw (d.position-is, d.frames_is) refl

      run_inside : (1 ≤ n) × (n ≤ 32) × (first + n ≤ frames)
      run_inside = (omega (arith, n-is, more), omega (arith, n-is, more), omega (arith, n-is, more))

      abbrev gs : List (List Float)
      gs = frames_at nan block.frames m.limiter.channels first n (samples_of format bytes)

      -- the frames of the audio now are those of the audio at the start
      frames_now : gs ≡ take n (frames_at nan frames k first (frames - first) samples)
      frames_now =
          ap (λ (w : ℕ). frames_at nan w m.limiter.channels first n (samples_of format bytes)) d.frames_is
          ∙ ap (λ (c : ℕ). frames_at nan frames c first n (samples_of format bytes)) d.channels_are
          ∙ ap (λ (b : List ℕ). frames_at nan frames k first n (samples_of format b)) d.audio_is
          ∙ samples_ahead format frames k bytes₀ asked.lends.audio_fit small first n (outputs_of d.shown) outputs_many run_inside.2
          ∙ sym (frames_take nan frames k first n (frames - first) samples (omega (arith, run_inside.2)))

      frames_left_lem : frames_at nan frames k (first + n) (frames - (first + n)) samples ≡ drop n (frames_at nan frames k first (frames - first) samples)
      frames_left_lem =
          let e : frames - (first + n) ≡ frames - first - n = omega arith in
          rw e (sym (frames_drop nan frames k first n (frames - first) samples (omega (arith, run_inside.2))))

      turn_is : turn ≡ turn_by render (position + first) first (waiting_at words block.latched) gs m
      turn_is = rw (d.settings_are, d.position-is) refl

      step : rest d.most first block.latched m ≡ joined turn.frames (rest (d.most - 1) (first + n) next.latched after)
      step =
          runs-step render (position + first) first d.most (frames - first) n (position + (first + n)) (frames - (first + n)) (waiting_at words block.latched) (frames_at nan frames k first (frames - first) samples) gs
          (frames_at nan frames k (first + n) (frames - (first + n)) samples) m turn (omega (arith, more)) d.enough n-is (omega arith) (omega arith) frames_now frames_left_lem turn_is
          ∙ rw (r.machine_is, r.waiting_is) refl

      placed : Placed format k n frames first (outputs_of turn.frames) bytes bytes'
      placed =
          subst (λ (c : ℕ). Placed format c n frames first (outputs_of turn.frames) bytes bytes') d.channels_are
          (subst (λ (w : ℕ). Placed format m.limiter.channels n w first (outputs_of turn.frames) bytes bytes') d.frames_is r.audio_is)

      turn_many : length turn.frames ≡ n
      turn_many = shown_many (rules_of m.limiter.settings format) m.limiter _ m.stores gs ∙ frames_at_length nan block.frames m.limiter.channels first n (samples_of format bytes)

      pub driving_more : Driving next after bytes' run'
      driving_more =
          let e = r.rendered_is in
          record {
            position-is = r.position-is ∙ d.position-is;
            frames_is = r.frames_is ∙ d.frames_is;
            shown = d.shown ++ turn.frames;
            many = length-append d.shown turn.frames ∙ rw (d.many, turn_many) (sym e);
            so_far = so_far_more told block.highest next.highest d.shown turn.frames first d.so_far d.many r.highest_is (shown_from_zero (rules_of m.limiter.settings format) m.limiter _ m.stores gs);
            most = d.most - 1;
            enough = omega (arith, e, d.enough, run_inside.0);
            inside = omega (arith, e, run_inside.2);
            events_left = r.events_left;
            channels_are = channels_kept (rules_of m.limiter.settings format) m.limiter _ m.stores gs after.limiter (ap (λ (z : Machine). z.limiter) r.machine_is) ∙ d.channels_are;
            settings_are = settings_kept (rules_of m.limiter.settings format) m.limiter _ m.stores gs after.limiter (ap (λ (z : Machine). z.limiter) r.machine_is) ∙ d.settings_are;
            same =
                rw e
                (sym (joined_joined d.shown turn.frames (rest (d.most - 1) (first + n) next.latched after)) ∙ ap (joined d.shown) (sym step) ∙ d.same);
            audio_is =
                placed_joins format k n frames first (outputs_of turn.frames) bytes bytes' placed run_inside.1 (length-map turn.frames (λ (f : Framed). f.outputs) ∙ turn_many) (audio_size ∙ rw (d.channels_are, d.frames_is) refl)
                small run_inside.2 bytes₀ (outputs_of d.shown) outputs_many asked.lends.audio_fit d.audio_is
                ∙ ap (written_bytes format frames k (first + n) bytes₀) (sym (map-append (λ (f : Framed). f.outputs) d.shown turn.frames))
                ∙ ap (λ (i : ℕ). written_bytes format frames k i bytes₀ (outputs_of (d.shown ++ turn.frames))) (sym e);
            ready = subst (λ (f : ℕ). RunsReady after.limiter (f - next.rendered) after.stores) (r.frames_is ∙ d.frames_is) r.ready;
            run_fit = R ∙ d.run_fit;
          }

      -- fewer are left
      pub driving_less : frames - next.rendered < frames - block.rendered
      driving_less = omega (arith, r.rendered_is, run_inside.0, run_inside.2)

  -- ---- to the end
  module _ (block : Unfinished) (m : Machine) (bytes : List ℕ) (run : List Float) (d : Driving block m bytes run) (done : frames ≤ block.rendered) (bank : SmootherBank) (B : bank ≡ latched_all (waiting_at words block.latched) m.bank) where
    over : block.rendered ≡ frames
    over = omega (arith, done, d.inside)

    last : joined d.shown (record { machine = machine_of m.limiter bank m.stores; frames = [] }) ≡ whole
    last =
        let first = block.rendered in
        let fs = frames_at nan frames k first (frames - first) samples in
        let e : frames - first ≡ 0 = omega (arith, done) in
        ap (λ (b : SmootherBank). joined d.shown (record { machine = machine_of m.limiter b m.stores; frames = [] })) B
        ∙ ap (joined d.shown) (sym (runs_end render (position + first) first d.most (waiting_at words block.latched) fs m))
        ∙ ap (λ (n : ℕ). joined d.shown (runs_through render (position + first) first (runs_from d.most (position + first) n) (waiting_at words block.latched) fs m)) (sym e)
        ∙ d.same

    pub driven_machine : machine_of m.limiter bank m.stores ≡ (driven format m₀ position frames words bytes₀).machine
    driven_machine = ap (λ (r : RunsLeft). r.machine) last

    pub driven_place : place_in block.highest ≡ place_told told (peaks_of_frames (driven format m₀ position frames words bytes₀).frames)
    driven_place =
        so_far_done told block.highest d.shown d.so_far
        ∙ ap (λ (l : List Framed). place_told told (peaks_of_frames l)) (sym (append-nil d.shown) ∙ ap (λ (r : RunsLeft). r.frames) last)

    pub driven_audio : bytes ≡ (driven format m₀ position frames words bytes₀).bytes
    driven_audio =
        d.audio_is ∙ ap (λ (i : ℕ). written_bytes format frames k i bytes₀ (outputs_of d.shown)) over
        ∙ ap (λ (l : List Framed). written_bytes format frames k frames bytes₀ (outputs_of l)) (sym (append-nil d.shown) ∙ ap (λ (r : RunsLeft). r.frames) last)
