-- A block of what a state's bytes keep, step by step: no state, refused, or rendered.
use mathlib.Core.Path.{◌≡◌, refl, sym, ap, ◌∙◌}
use mathlib.Core.Bool.{Bool, true, false, not}
use mathlib.Core.List.{List, [], ◌∷◌}
use Prim.Native.Nat.{ℕ}
use native.Mathlib.Omega.{arith}
use lib.Dec.{eqb}
use lib.ListN.{length}
use Rattle.std.proofs.Common.{Option}
use borrow.Author.Tests.{eqb-true}
use Rattle.arithmetic.specs.Reply.{Reply, numbered}
use Rattle.audio.specs.Format.{size_of}
use Rattle.audio.specs.declared.format.Format.{Format}
use Rattle.audio.specs.Bytes.{words_in}
use Rattle.frame.specs.Run.{peaks_of_frames}
use Rattle.frame.specs.Seat.{PeakAt}
use Rattle.frame.specs.Place.{Place, place_found_at, place_of, place_told}
use Rattle.frame.specs.declared.highest.Seat.{Seat}
use Rattle.limiter.specs.State.{not_set_up}
use Rattle.limiter.specs.Stores.{Stores}
use Rattle.limiter.specs.declared.state.Limiter.{Limiter}
use Rattle.limiter.proofs.Ready.{not_prepared}
use Rattle.bank.specs.Bank.{unset}
use Rattle.bank.specs.declared.smoother_bank.SmootherBank.{SmootherBank}
use Rattle.turns.specs.Machine.{Machine, machine_of, prepared, ready_refusal}
use Rattle.turns.specs.Events.{events_of}
use Rattle.turns.specs.Block.{call_reply, block_reply, placed, place_reply, Outcome, block_of}
use Rattle.turns.specs.Inner.{BlockAsked, driven}
use Rattle.turns.proofs.Told.{place_finished}
use Rattle.driver.specs.Answers.{machine_at, seen}
use Rattle.driver.specs.Parts.{shown_of, bank_with}
use Rattle.driver.specs.declared.state.KernelProcessor.{KernelProcessor}
use Rattle.driver.specs.declared.state.Threshold.{Threshold}
use Rattle.driver.proofs.Judged.{not_set_up_lem}
use Rattle.driver.proofs.Refusing.{first_refused, block_left, block_asks, block_finished}
use Rattle.state_bytes.specs.State.{state_words, is_state, limiter_in, bank_in, processor_of, never, processor_in, state_out}
use Rattle.state_bytes.specs.Shown.{Showing, showing, rendered_at}
use Rattle.state_bytes.specs.declared.block.RenderedBlock.{RenderedBlock}
use Rattle.state_bytes.proofs.Stored.{read_other, read_parts}
use Rattle.host.specs.Answer.{reply_words, answered, answered_by}
use Rattle.host.specs.Host.{returned_at, returned_with, audio_by}
use Rattle.host.proofs.Through.{rendered}

-- a limiter that was never set up answers 18
never_prepared : prepared not_set_up unset ≡ false
unfolding prepared
never_prepared = rw not_prepared refl

-- who lends no word is told nothing, and need not ask
nothing_told : (old : List ℕ) → length old ≡ 0 → (p q : Reply) → answered_by old p ≡ answered_by old q
unfolding answered
nothing_told [] h p q = refl
nothing_told (x ∷ xs) h p q = absurd (omega (arith, h))

place_told_lem : (old : List ℕ) (i : ℕ) (seat : Option Seat) (ps : List PeakAt) → place_found_at i seat ≡ place_told (not (eqb (length old) 0)) ps → answered_by old (placed i seat) ≡ answered_by old (place_reply (place_of ps))
place_told_lem old i seat ps = go (eqb (length old) 0) refl
  where
    go : (b : Bool) → eqb (length old) 0 ≡ b → place_found_at i seat ≡ place_told (not b) ps → answered_by old (placed i seat) ≡ answered_by old (place_reply (place_of ps))
    go true e h = nothing_told old (eqb-true (length old) 0 e) (placed i seat) (place_reply (place_of ps))
    go false e h = ap (λ (p : Place). answered_by old (place_reply p)) h

module _ (format : Format) (answer state : List ℕ) (position frames : ℕ) (words bytes : List ℕ) (stores : Stores) where
  abbrev call : Machine → List ℕ → Outcome
  call m bytes = block_of format m position frames (events_of words) bytes

  -- what is left, from what a caller of the driver sees
  module _ (q : KernelProcessor) (e : q ≡ processor_in state) (r : ℕ) (after : List ℕ) where
    told : (reply : Reply) → record { reply = reply; machine = machine_at q stores; bytes = bytes } ≡ seen (call (machine_at q stores) bytes) → eqb reply.number 0 ≡ false → r ≡ reply.number
        → after ≡ answered_by answer reply → returned_with (returned_at r after state stores) bytes ≡ audio_by call answer state stores bytes
    told reply o z R A = rendered answer state q e reply q stores (reply_words reply) r after state refl R A (sym (rw z refl)) call stores bytes bytes o

    kept : (p : Place) (m : Machine) (bytes' : List ℕ) → record { reply = place_reply p; machine = m; bytes = bytes' } ≡ seen (call (machine_at q stores) bytes) → r ≡ 0 → after ≡ answered_by answer (place_reply p)
        → (next : List ℕ) → next ≡ state_out (processor_of m) → returned_with (returned_at r after next m.stores) bytes' ≡ audio_by call answer state stores bytes
    kept p m bytes' o R A next N =
        let z = place_finished p in
        rendered answer state q e (place_reply p) (processor_of m) m.stores (reply_words (place_reply p)) r after next refl (R ∙ sym z) A (N ∙ sym (rw z refl)) call stores bytes bytes' o

  -- ---- a buffer that is no state
  never_told : (size : ℕ) → numbered 18 ≡ block_reply (machine_at never stores) position frames (events_of words) size
  unfolding block_reply
  never_told size =
      let m = machine_at never stores in
      first_refused (numbered 18) (numbered (ready_refusal m)) (call_reply m position frames (events_of words) size) (not_set_up_lem m never_prepared) false refl refl

  pub no_state : is_state state ≡ false → (r : ℕ) → r ≡ 18 → (after : List ℕ) → after ≡ answered_by answer (numbered 18) → returned_with (returned_at r after state stores) bytes ≡ audio_by call answer state stores bytes
  no_state h r R after A =
      told never (sym (read_other state h)) r after (numbered 18)
      (block_left format (machine_at never stores) position frames (events_of words) bytes (size_of format bytes) refl (numbered 18) (never_told (size_of format bytes)) false refl refl) refl R A

  -- ---- a state: its limiter, and what its bank shows, judged
  module _ (h : is_state state ≡ true) (l : Limiter) (L : l ≡ limiter_in (words_in 8 state_words state)) (t : Threshold) (T : t ≡ shown_of (bank_in (words_in 8 state_words state))) (size : ℕ) (S : size ≡ size_of format bytes) (reply : Reply)
      (J : (b : SmootherBank) → shown_of b ≡ t → reply ≡ block_reply (machine_of l b stores) position frames (events_of words) size) (f : Bool) (F : f ≡ eqb reply.number 0) where
    abbrev q : KernelProcessor
    q = record { limiter = l; bank = bank_with t }

    held : q ≡ processor_in state
    held = read_parts state h l L t T (bank_with t) refl

    pub refused_block : f ≡ false → (r : ℕ) → r ≡ reply.number → (after : List ℕ) → after ≡ answered_by answer reply → returned_with (returned_at r after state stores) bytes ≡ audio_by call answer state stores bytes
    refused_block z r R after A =
        told q held r after reply (block_left format (machine_at q stores) position frames (events_of words) bytes size S reply (J (bank_with t) refl) f F z) (sym F ∙ z) R A

    pub block_may : f ≡ true → BlockAsked (machine_of l (bank_with t) stores) format position frames bytes
    block_may z = block_asks format (machine_at q stores) position frames (events_of words) bytes size S reply (J (bank_with t) refl) f F z

    pub rendered_block : f ≡ true → (done : RenderedBlock) (later : Stores) (bytes' : List ℕ)
        → (let o = driven format (machine_of l (bank_with t) stores) position frames words bytes in rendered_at done later ≡ showing o.machine → bytes' ≡ o.bytes → place_found_at done.frame done.seat ≡ place_told (not (eqb (length answer) 0)) (peaks_of_frames o.frames)
        → (r : ℕ) → r ≡ 0 → (after : List ℕ) → after ≡ answered_by answer (placed done.frame done.seat) → (next : List ℕ) → ((b : SmootherBank) → shown_of b ≡ done.threshold → next ≡ state_out (record { limiter = done.limiter; bank = b }))
        → returned_with (returned_at r after next later) bytes' ≡ audio_by call answer state stores bytes)
    rendered_block z done later bytes' D B P r R after A next N =
        let o = driven format (machine_of l (bank_with t) stores) position frames words bytes in
        let m = o.machine in
        let p = place_of (peaks_of_frames o.frames) in
        ap (λ (s : Showing). returned_with (returned_at r after next s.stores) bytes') D
        ∙ kept q held r after p m bytes' (block_finished format (machine_at q stores) position frames (events_of words) bytes size S reply (J (bank_with t) refl) f F (place_reply p) m bytes' z refl refl B) R (A ∙ place_told_lem answer done.frame done.seat (peaks_of_frames o.frames) P) next
        (N m.bank (ap (λ (s : Showing). s.threshold) (sym D)) ∙ ap (λ (s : Showing). state_out (record { limiter = s.limiter; bank = m.bank })) D)
