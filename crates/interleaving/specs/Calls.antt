-- A call on a lent slice, in either direction: what it replies, and the bytes afterwards, for all inputs.
use Rattle.std.specs.Prelude.{ℕ, ◌/◌, ◌%◌, cond, ◌&&◌, List, [], eqb, leb, Result, Ok, Err}
use Rattle.arithmetic.specs.Reply.{Reply, numbered, unless}
use Rattle.audio.specs.Bytes.{joined}
use Rattle.audio.specs.Format.{size_of, places_of}
use Rattle.audio.specs.declared.format.Format.{Format}
use Rattle.interleaving.specs.Interleaved.{rearranged}
use Rattle.interleaving.specs.declared.calls.RearrangeRefusal.{RearrangeRefusal}
use Rattle.interleaving.specs.declared.calls.RearrangeRefusal.TheVariants.{Channels, Length}
use Rattle.interleaving.specs.declared.calls.Direction.{Direction}
use Rattle.interleaving.specs.declared.calls.Direction.TheVariants.{Deinterleave, Interleave}

-- the number of each refusal, and of each answer
abbrev pub refused_by : RearrangeRefusal → ℕ
refused_by Channels = 27
refused_by Length = 28

abbrev pub rearranged_reply : {A : Type 0} → Result A RearrangeRefusal → Reply
rearranged_reply (Ok done) = numbered 0
rearranged_reply (Err why) = numbered (refused_by why)

-- "27 when the channels aren't 1 to 8, checked first. 28 when the length is over 524,288 or isn't a multiple of the channels, checked second." The length is in samples (`size_of`); bytes that are no whole
-- number of samples have one that is over every limit.
unfoldable pub refusal : Format → ℕ → List ℕ → ℕ
refusal format channels bytes =
    unless (leb 1 channels && leb channels 8) 27
    (unless (leb (size_of format bytes) 524288 && eqb (size_of format bytes % channels) 0) 28 0)

-- the frames of a call
abbrev pub frames_in : Format → ℕ → List ℕ → ℕ
frames_in format channels bytes = size_of format bytes / channels

-- a call's reply, and the bytes afterwards
pub record Outcome : Type 0 where
  pub reply : Reply
  pub bytes : List ℕ

abbrev pub outcome : Result Unit RearrangeRefusal → List ℕ → Outcome
outcome answer after = record { reply = rearranged_reply answer; bytes = after }

-- a refused call changes nothing
abbrev pub unless_refused : ℕ → List ℕ → List ℕ → Outcome
unless_refused number before after = record { reply = numbered number; bytes = cond (eqb number 0) after before }

-- each sample's bytes, in their new order
unfoldable pub rearrange_of : Direction → Format → ℕ → List ℕ → Outcome
rearrange_of direction format channels bytes =
    unless_refused (refusal format channels bytes) bytes (joined (rearranged [] direction channels (frames_in format channels bytes) (places_of format bytes)))

abbrev pub deinterleave_of : Format → ℕ → List ℕ → Outcome
deinterleave_of format channels bytes = rearrange_of Deinterleave format channels bytes

abbrev pub interleave_of : Format → ℕ → List ℕ → Outcome
interleave_of format channels bytes = rearrange_of Interleave format channels bytes
