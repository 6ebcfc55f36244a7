-- One turn of a block, from what its callees promise.
use mathlib.Core.Path.{◌≡◌, refl, ap, subst, ◌∙◌}
use mathlib.Core.List.{List}
use Prim.Native.Nat.{ℕ, ◌+◌, ◌-◌, ◌/◌, ◌≤◌}
use native.Mathlib.Omega.{arith}
use lib.ListN.{length}
use lib.Ieee.{Float, nan}
use Rattle.audio.specs.Planar.{frames_at}
use Rattle.audio.specs.Format.{samples_of}
use Rattle.audio.specs.Inner.{Placed}
use Rattle.audio.specs.declared.format.Format.{Format}
use Rattle.detector.specs.Run.{run_length}
use Rattle.limiter.specs.Stores.{Stores}
use Rattle.limiter.specs.declared.state.Limiter.{Limiter}
use Rattle.settings.specs.Target.{target_of}
use Rattle.settings.proofs.Unit.{target_unit}
use Rattle.bank.specs.declared.smoother_bank.SmootherBank.{SmootherBank}
use Rattle.frame.specs.Run.{peaks_of_frames, written_in}
use Rattle.frame.specs.Place.{highest_from}
use Rattle.frame.specs.declared.highest.Highest.{Highest}
use Rattle.turns.specs.Machine.{Machine, machine_of, threshold_of}
use Rattle.turns.specs.Events.{Latched}
use Rattle.turns.specs.Block.{rendered_in, run_at, outputs_of}
use Rattle.turns.specs.Inner.{waiting_at, latched_at, before_run, RunAsked, RunGiven, frames_left, stands_at, TurnAsked, TurnGiven}
use Rattle.turns.specs.declared.turn.Unfinished.{Unfinished}

module _ (m : Machine) (block : Unfinished) (format : Format) (words bytes : List ℕ) (run : List Float) (a : TurnAsked m block format words bytes run) (n : ℕ) (N : n ≡ run_at (stands_at block) (frames_left block)) where
  -- a run has a frame at least, and no more than are left
  pub turn_inside : (1 ≤ n) × (n ≤ run_length) × (block.rendered + n ≤ block.frames)
  turn_inside = (omega (arith, N, a.more), omega (arith, N, a.more), omega (arith, N, a.more))

  pub turn_asks : (target threshold margin : Float) → target ≡ target_of threshold margin → RunAsked m.limiter format target block.frames block.rendered n m.stores bytes run
  turn_asks target threshold margin T = record {
    ready = record { set_up = a.ready.set_up; lengths = a.ready.lengths; order = a.ready.order; room = omega (arith, a.ready.room, turn_inside.2) };
    lends = a.lends;
    run_fit = a.run_fit;
    unit = rw T (target_unit threshold margin);
    some = turn_inside.0;
    short = turn_inside.1;
    inside = turn_inside.2;
  }

  module _ (b : SmootherBank) (cursor : ℕ) (B : latched_at b cursor words ≡ before_run (stands_at block) block.rendered (waiting_at words block.latched) m.bank) (few : cursor ≤ length words / 3)
      (target : Float) (T : target ≡ target_of (threshold_of b).cur m.limiter.settings.true_peak_margin_db) (after : Limiter) (stores : Stores) (bytes' : List ℕ) (run' : List Float) (highest : Highest)
      (r : RunGiven m.limiter format target block.frames block.rendered n m.stores bytes run after stores bytes' run' block.highest highest) where
    abbrev now : SmootherBank
    now = (before_run (stands_at block) block.rendered (waiting_at words block.latched) m.bank).bank

    bank_is : b ≡ now
    bank_is = ap (λ (x : Latched). x.bank) B

    abbrev due : Float
    due = target_of (threshold_of now).cur m.limiter.settings.true_peak_margin_db

    target_is : target ≡ due
    target_is = T ∙ ap (λ (x : SmootherBank). target_of (threshold_of x).cur m.limiter.settings.true_peak_margin_db) bank_is

    abbrev frames : ℕ → List (List Float)
    frames i = frames_at nan block.frames m.limiter.channels block.rendered i (samples_of format bytes)

    abbrev Out : ℕ → Float → Type 0
    Out i x = Placed format m.limiter.channels i block.frames block.rendered (outputs_of (rendered_in format m m.limiter m.stores x (frames i)).frames) bytes bytes'

    abbrev RunOut : ℕ → Float → Type 0
    RunOut i x = run' ≡ written_in m.limiter.channels i run (outputs_of (rendered_in format m m.limiter m.stores x (frames i)).frames)

    abbrev High : ℕ → Float → Type 0
    High i x = highest ≡ highest_from block.rendered block.highest (peaks_of_frames (rendered_in format m m.limiter m.stores x (frames i)).frames)

    pub turn_given : TurnGiven m block format words bytes run (machine_of after b stores) (record { position = block.position; frames = block.frames; rendered = block.rendered + n; latched = cursor; highest = highest }) bytes' run'
    turn_given = record {
      machine_is = rw (r.limiter_is, r.stores_are, target_is, bank_is, N) refl;
      waiting_is = ap (λ (x : Latched). x.waiting) B;
      events_left = few;
      position-is = refl;
      frames_is = refl;
      rendered_is = ap (λ (i : ℕ). block.rendered + i) N;
      highest_is = subst (λ (i : ℕ). High i due) N (subst (λ (x : Float). High n x) target_is r.highest_is);
      audio_is = subst (λ (i : ℕ). Out i due) N (subst (λ (x : Float). Out n x) target_is r.audio_is);
      run_is = subst (λ (i : ℕ). RunOut i due) N (subst (λ (x : Float). RunOut n x) target_is r.run_is);
      ready = r.still (block.frames - (block.rendered + n)) (omega (arith, a.ready.room, turn_inside.2));
    }
