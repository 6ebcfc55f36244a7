-- A block with no event and a bank that a step leaves alone: each turn keeps the bank, and so the target.
use mathlib.Core.Path.{◌≡◌, refl, sym, ap, ◌∙◌}
use mathlib.Core.Bool.{Bool, true, false, cond, ◌&&◌}
use mathlib.Core.List.{List, []}
use Prim.Native.Nat.{ℕ, ◌+◌, ◌-◌, ◌*◌, ◌/◌, ◌%◌, ◌≤◌, ◌<◌}
use native.Mathlib.Omega.{arith}
use lib.Dec.{eqb, ltb}
use lib.ListN.{length}
use lib.Ieee.{Float}
use borrow.Author.Tests.{ltb-true}
use Rattle.arithmetic.proofs.Order.{and-true}
use Rattle.audio.specs.declared.format.Format.{Format}
use Rattle.detector.specs.Run.{run_length}
use Rattle.frame.specs.Run.{peaks_of_frames}
use Rattle.frame.specs.Place.{Place, place_told, start_of, place_in}
use Rattle.frame.specs.declared.highest.Highest.{Highest}
use Rattle.limiter.specs.Stores.{Stores}
use Rattle.limiter.specs.declared.state.Limiter.{Limiter}
use Rattle.settings.specs.Target.{target_of}
use Rattle.settings.specs.declared.LimiterSettings.{LimiterSettings}
use Rattle.bank.specs.Smoother.{stepped}
use Rattle.bank.specs.Bank.{all_changed}
use Rattle.bank.specs.declared.smoother_bank.SmootherBank.{SmootherBank}
use Rattle.turns.specs.Machine.{Machine, machine_of, threshold_of}
use Rattle.turns.specs.Events.{Event, events_from, events_of, latched, latched_all}
use Rattle.turns.specs.Block.{rendered_in, period, run_at, block_done, Outcome}
use Rattle.turns.specs.Inner.{waiting_at, before_run, RunAsked, RunGiven, TurnAsked, TurnGiven, BlockAsked, AtRest, StillAsked, driven}
use Rattle.turns.specs.declared.turn.Unfinished.{Unfinished}
use Rattle.turns.proofs.Turning.{turn_asks, turn_given}
use Rattle.turns.proofs.Driving.{Driving, driving_start, driving_asks, driving_more, driven_machine, driven_place, driven_audio}

-- ---- words too few for an event
none_in : (words : List ℕ) → length words < 3 → events_of [] ≡ events_of words
unfolding events_from
none_in words h =
    let e : length words / 3 ≡ 0 = omega arith in
    rw e refl

module _ (format : Format) (m : Machine) (position frames : ℕ) (words bytes : List ℕ) (still : Bool) (h : ltb (length words) 3 && still ≡ true) where
  pub no_events : driven format m position frames [] bytes ≡ driven format m position frames words bytes
  no_events = ap (λ (es : List Event). block_done (rendered_in format m) format m position frames es bytes) (none_in words (ltb-true (length words) 3 (and-true (ltb (length words) 3) still h).0))

  pub same_machine : (after : Machine) → after ≡ (driven format m position frames [] bytes).machine → after ≡ (driven format m position frames words bytes).machine
  same_machine after e = e ∙ ap (λ (o : Outcome). o.machine) no_events

  pub same_bytes : (bytes' : List ℕ) → bytes' ≡ (driven format m position frames [] bytes).bytes → bytes' ≡ (driven format m position frames words bytes).bytes
  same_bytes bytes' e = e ∙ ap (λ (o : Outcome). o.bytes) no_events

  pub same_place : (told : Bool) (p : Place) → p ≡ place_told told (peaks_of_frames (driven format m position frames [] bytes).frames) → p ≡ place_told told (peaks_of_frames (driven format m position frames words bytes).frames)
  same_place told p e = e ∙ ap (λ (o : Outcome). place_told told (peaks_of_frames o.frames)) no_events

-- ---- a bank that a step leaves alone
module _ (b : SmootherBank) (still : all_changed stepped b ≡ b) where
  same_bank : (t : Bool) → b ≡ cond t (all_changed stepped b) b
  same_bank true = sym still
  same_bank false = refl

  -- before a run nothing changes
  still_before : (position first : ℕ) → record { bank = b; waiting = waiting_at [] 0 } ≡ before_run position first (waiting_at [] 0) b
  unfolding latched events_from
  still_before position first = ap (λ (x : SmootherBank). record { bank = x; waiting = [] }) (same_bank (eqb (position % period) 0))

-- ---- the turns
module _ (format : Format) (position frames : ℕ) (bytes₀ : List ℕ) (l₀ : Limiter) (s₀ : Stores) (target : Float) (told : Bool) where
  -- so many of its frames are rendered
  abbrev pub block : ℕ → Highest → Unfinished
  block first highest = record { position = position; frames = frames; rendered = first; latched = 0; highest = highest }

  -- beside any bank at rest there, which stays as it is: the frames shown so far and what the rest of the runs makes of limiter and stores now are the whole
  abbrev pub Going : ℕ → Highest → Limiter → Stores → List ℕ → List Float → Type 0
  Going first h l s bytes run = (b : SmootherBank) → AtRest l₀ target b → Driving format position frames [] bytes₀ (machine_of l₀ b s₀) told (block first h) (machine_of l b s) bytes run

  module _ (a : StillAsked l₀ target s₀ format position frames bytes₀) where
    -- no bank is judged
    asked_of : (b : SmootherBank) → BlockAsked (machine_of l₀ b s₀) format position frames bytes₀
    asked_of b = record { ready = a.asked.ready; lends = a.asked.lends; far = a.asked.far }

    pub going_start : (run : List Float) → length run ≡ 8 * run_length → (h : Highest) → h ≡ start_of told → Going 0 h l₀ s₀ bytes₀ run
    going_start run fit h e b r = driving_start format position frames [] bytes₀ (machine_of l₀ b s₀) told run fit (asked_of b) (block 0 h) (ap (block 0) e)

    module _ (first : ℕ) (h : Highest) (l : Limiter) (s : Stores) (bytes : List ℕ) (run : List Float) (d : Going first h l s bytes run) (more : first < frames) (n : ℕ) (N : n ≡ run_at (position + first) (frames - first)) where
      asks : (b : SmootherBank) → AtRest l₀ target b → TurnAsked (machine_of l b s) (block first h) format [] bytes run
      asks b r = driving_asks format position frames [] bytes₀ (machine_of l₀ b s₀) told (asked_of b) (block first h) (machine_of l b s) bytes run (d b r) more

      target_of_lem : (b : SmootherBank) → AtRest l₀ target b → target ≡ target_of (threshold_of b).cur l.settings.true_peak_margin_db
      target_of_lem b r = r.target_is ∙ ap (λ (z : LimiterSettings). target_of (threshold_of b).cur z.true_peak_margin_db) (sym (d b r).settings_are)

      pub going_asks : RunAsked l format target frames first n s bytes run
      going_asks =
          turn_asks (machine_of l a.bank s) (block first h) format [] bytes run (asks a.bank a.rest) n N target (threshold_of a.bank).cur l.settings.true_peak_margin_db (target_of_lem a.bank a.rest)

      module _ (after : Limiter) (stores : Stores) (bytes' : List ℕ) (run' : List Float) (g : Highest) (r : RunGiven l format target frames first n s bytes run after stores bytes' run' h g) (R : length run' ≡ length run) where
        -- a run of frames at this target is a turn
        given : (b : SmootherBank) → AtRest l₀ target b → TurnGiven (machine_of l b s) (block first h) format [] bytes run (machine_of after b stores) (block (first + n) g) bytes' run'
        given b z =
            turn_given (machine_of l b s) (block first h) format [] bytes run (asks b z) n N b 0 (still_before b z.still (position + first) first) (omega arith) target (target_of_lem b z) after stores bytes' run' g r

        pub going_more : Going (first + n) g after stores bytes' run'
        going_more b z =
            driving_more format position frames [] bytes₀ (machine_of l₀ b s₀) told (asked_of b) (block first h) (machine_of l b s) bytes run (d b z) more (machine_of after b stores) (block (first + n) g) bytes' run' (given b z) R

  -- ---- to the end
  module _ (first : ℕ) (h : Highest) (l : Limiter) (s : Stores) (bytes : List ℕ) (run : List Float) (d : Going first h l s bytes run) (done : frames ≤ first) (b : SmootherBank) (r : AtRest l₀ target b) where
    none_left : b ≡ latched_all (waiting_at [] 0) b
    unfolding latched_all events_from
    none_left = refl

    pub gone_machine : machine_of l b s ≡ (driven format (machine_of l₀ b s₀) position frames [] bytes₀).machine
    gone_machine = driven_machine format position frames [] bytes₀ (machine_of l₀ b s₀) told (block first h) (machine_of l b s) bytes run (d b r) done b none_left

    pub gone_place : place_in h ≡ place_told told (peaks_of_frames (driven format (machine_of l₀ b s₀) position frames [] bytes₀).frames)
    gone_place = driven_place format position frames [] bytes₀ (machine_of l₀ b s₀) told (block first h) (machine_of l b s) bytes run (d b r) done b none_left

    pub gone_audio : bytes ≡ (driven format (machine_of l₀ b s₀) position frames [] bytes₀).bytes
    gone_audio = driven_audio format position frames [] bytes₀ (machine_of l₀ b s₀) told (block first h) (machine_of l b s) bytes run (d b r) done b none_left
