-- A block of what a state's bytes keep, by what judging it answers, a refusal or none: the laws of any reply (`Blocks`), for the reply of such an answer, from a buffer that is the state.
use mathlib.Core.Path.{◌≡◌, refl, sym, ap, ◌∙◌}
use mathlib.Core.Bool.{true, false, not}
use mathlib.Core.List.{List, []}
use Prim.Native.Nat.{ℕ}
use lib.Dec.{eqb}
use lib.ListN.{length}
use Rattle.std.proofs.Common.{Result, Ok, Err}
use Rattle.arithmetic.specs.Reply.{finished}
use Rattle.audio.specs.Format.{size_of}
use Rattle.audio.specs.declared.format.Format.{Format}
use Rattle.audio.specs.Bytes.{words_in}
use Rattle.frame.specs.Run.{peaks_of_frames}
use Rattle.frame.specs.Place.{place_found_at, place_told}
use Rattle.limiter.specs.Stores.{Stores}
use Rattle.limiter.specs.declared.state.Limiter.{Limiter}
use Rattle.bank.specs.declared.smoother_bank.SmootherBank.{SmootherBank}
use Rattle.turns.specs.Machine.{Machine, machine_of}
use Rattle.turns.specs.Events.{events_of}
use Rattle.turns.specs.Block.{block_reply, placed, Outcome, block_of}
use Rattle.turns.specs.Inner.{BlockAsked, driven}
use Rattle.driver.specs.Answers.{refused_by, answer_reply}
use Rattle.driver.specs.Parts.{shown_of, bank_with}
use Rattle.driver.specs.declared.answers.Refusal.{Refusal}
use Rattle.driver.specs.declared.state.Threshold.{Threshold}
use Rattle.driver.proofs.Answered.{refusal_is, none_is}
use Rattle.driver.proofs.Refusing.{refused_some}
use Rattle.state_bytes.specs.State.{state_words, is_state, limiter_in, bank_in, state_out}
use Rattle.state_bytes.specs.Shown.{showing, rendered_at}
use Rattle.state_bytes.specs.declared.block.RenderedBlock.{RenderedBlock}
use Rattle.host.specs.Answer.{answered_by}
use Rattle.host.specs.Host.{returned_at, returned_with, audio_by}
use Rattle.host.proofs.Blocks

module _ (format : Format) (answer state : List ℕ) (position frames : ℕ) (words bytes : List ℕ) (stores : Stores)
    (buffer : List ℕ) (same : buffer ≡ state) (h : is_state state ≡ true) (l : Limiter) (L : l ≡ limiter_in (words_in 8 state_words buffer)) (t : Threshold) (T : t ≡ shown_of (bank_in (words_in 8 state_words buffer))) (size : ℕ) (S : size ≡ size_of format bytes) (judged : Result (Unit {0}) Refusal)
    (J : (b : SmootherBank) → shown_of b ≡ t → answer_reply judged ≡ block_reply (machine_of l b stores) position frames (events_of words) size)
  where
    abbrev call : Machine → List ℕ → Outcome
    call m bytes = block_of format m position frames (events_of words) bytes

    limiter_is : l ≡ limiter_in (words_in 8 state_words state)
    limiter_is = L ∙ ap (λ (b : List ℕ). limiter_in (words_in 8 state_words b)) same

    shown_is : t ≡ shown_of (bank_in (words_in 8 state_words state))
    shown_is = T ∙ ap (λ (b : List ℕ). shown_of (bank_in (words_in 8 state_words b))) same

    pub refused_block : (why : Refusal) → judged ≡ Err why → (r : ℕ) → r ≡ (refused_by why).number → (after : List ℕ) → after ≡ answered_by answer (refused_by why) → returned_with (returned_at r after state stores) bytes ≡ audio_by call answer state stores bytes
    refused_block why E =
        Blocks.refused_block format answer state position frames words bytes stores h l limiter_is t shown_is size S (refused_by why) (λ b e. refusal_is judged _ (J b e) why E) false (sym (refused_some why)) refl

    module _ (u : Unit {0}) (F : judged ≡ Ok u) where
      none : (b : SmootherBank) → shown_of b ≡ t → finished [] ≡ block_reply (machine_of l b stores) position frames (events_of words) size
      none b e = none_is judged _ (J b e) u F

      pub block_may : BlockAsked (machine_of l (bank_with t) stores) format position frames bytes
      block_may = Blocks.block_may format answer state position frames words bytes stores h l limiter_is t shown_is size S (finished []) none true refl refl

      pub rendered_block : (done : RenderedBlock) (later : Stores) (bytes' : List ℕ)
          → (let o = driven format (machine_of l (bank_with t) stores) position frames words bytes in rendered_at done later ≡ showing o.machine → bytes' ≡ o.bytes → place_found_at done.frame done.seat ≡ place_told (not (eqb (length answer) 0)) (peaks_of_frames o.frames)
          → (r : ℕ) → r ≡ 0 → (after : List ℕ) → after ≡ answered_by answer (placed done.frame done.seat) → (next : List ℕ) → ((b : SmootherBank) → shown_of b ≡ done.threshold → next ≡ state_out (record { limiter = done.limiter; bank = b }))
          → returned_with (returned_at r after next later) bytes' ≡ audio_by call answer state stores bytes)
      rendered_block = Blocks.rendered_block format answer state position frames words bytes stores h l limiter_is t shown_is size S (finished []) none true refl refl
