-- What a call answers that is refused or has one channel, and what the others rearrange.
use mathlib.Core.Path.{◌≡◌, sym, ap, subst, ◌∙◌}
use mathlib.Core.List.{List}
use Prim.Native.Nat.{ℕ, ◌*◌, ◌/◌, ◌<◌}
use native.Mathlib.Nat.{mul-div_cancel_left}
use native.Mathlib.Omega.{arith}
use lib.ListN.{length}
use Rattle.std.specs.Prelude.{Ok, Err}
use Rattle.arithmetic.specs.Reply.{Reply, numbered}
use Rattle.audio.specs.Format.{sample_bytes, size_of}
use Rattle.audio.specs.declared.format.Format.{Format}
use Rattle.interleaving.specs.Calls.{refused_by, refusal, frames_in, outcome, rearrange_of}
use Rattle.interleaving.specs.Inner.{Transposed, rows_in, columns_in, frames_of, Fills, Taken, Shaped}
use Rattle.interleaving.specs.declared.shape.Shape.{Shape}
use Rattle.interleaving.specs.declared.calls.Direction.{Direction}
use Rattle.interleaving.specs.declared.calls.RearrangeRefusal.{RearrangeRefusal}
use Rattle.interleaving.specs.declared.calls.RearrangeRefusal.TheVariants.{Channels, Length}
use Rattle.interleaving.proofs.Facts.{taken, refused_same, one_channel, call_transposed}

-- a refusal's number is none of finished work
refused_some : (why : RearrangeRefusal) → refused_by why ≡ 0 → ⊥
refused_some Channels e = omega (arith, e)
refused_some Length e = omega (arith, e)

module _ (direction : Direction) (format : Format) (channels : ℕ) (bytes : List ℕ) where
  -- refused
  pub answer_refused : (why : RearrangeRefusal) → numbered (refused_by why) ≡ numbered (refusal format channels bytes) → outcome (Err why) bytes ≡ rearrange_of direction format channels bytes
  unfolding rearrange_of
  answer_refused why said =
      let e : refused_by why ≡ refusal format channels bytes = ap (λ (r : Reply). r.number) said in
      let same = refused_same direction format channels bytes (λ z. refused_some why (e ∙ z)) in
      λ i. record { reply = said i; bytes = sym same i }

  -- not refused
  module _ (said : numbered 0 ≡ numbered (refusal format channels bytes)) where
    ok : refusal format channels bytes ≡ 0
    ok = sym (ap (λ (r : Reply). r.number) said)

    pub answer_single : channels ≡ 1 → outcome (Ok tt) bytes ≡ rearrange_of direction format channels bytes
    unfolding rearrange_of
    answer_single e =
        let same : (rearrange_of direction format channels bytes).bytes ≡ bytes = subst (λ (n : ℕ). (rearrange_of direction format n bytes).bytes ≡ bytes) (sym e) (one_channel direction format bytes) in
        λ i. record { reply = said i; bytes = sym same i }

    module _ (shape : Shape) (is : Shaped format channels (size_of format bytes) shape) where
      -- the shape's frames are the call's
      frames_are : frames_of shape ≡ frames_in format channels bytes
      frames_are =
          let some : 0 < shape.channels = omega (arith, (taken format channels bytes ok).some, is.channels_same) in
          sym (ap (λ (n : ℕ). n / channels) (sym is.whole) ∙ ap (λ (n : ℕ). shape.channels * frames_of shape / n) (sym is.channels_same) ∙ mul-div_cancel_left (frames_of shape) some)

      -- its bytes too
      pub answer_taken : Taken shape.format shape.channels (frames_of shape) (length bytes)
      answer_taken = rw (frames_are, is.format_same, is.channels_same) (taken format channels bytes ok)

      pub answer_fills : Fills shape bytes
      answer_fills = answer_taken.long

      pub answer_moved : (after : List ℕ) → length after ≡ length bytes
          → Transposed (sample_bytes shape.format) (rows_in direction shape.channels (frames_of shape)) (columns_in direction shape.channels (frames_of shape)) bytes after
          → outcome (Ok tt) after ≡ rearrange_of direction format channels bytes
      answer_moved after same moved = call_transposed direction format channels bytes ok after same (rw (← frames_are, ← is.format_same, ← is.channels_same) moved)
