-- Inputs at which wrong programs would answer otherwise: each row computes what the definition answers there, and its comment names the wrong program.
use Prim.Native.Nat.{ℕ}
use mathlib.Core.Path.{◌≡◌, refl}
use mathlib.Core.List.{List, [], ◌∷◌}
use lib.ListN.{replicate}
use Rattle.arithmetic.specs.Reply.{numbered}
use Rattle.audio.specs.Bytes.{cut, joined}
use Rattle.audio.specs.Format.{size_of, places_of}
use Rattle.audio.specs.declared.format.Format.{Format}
use Rattle.audio.specs.declared.format.Format.TheVariants.{F64, F32}
use Rattle.interleaving.specs.Interleaved.{every, columns_from, deinterleaved, interleaved}
use Rattle.interleaving.specs.Calls.{refusal, rearrange_of, deinterleave_of, interleave_of}

-- three frames of two channels
abbrev file : List ℕ
file = 1 ∷ 10 ∷ 2 ∷ 20 ∷ 3 ∷ 30 ∷ []

abbrev planes : List ℕ
planes = 1 ∷ 2 ∷ 3 ∷ 10 ∷ 20 ∷ 30 ∷ []

-- channels and frames exchanged: 1 20 10 3 2 30; the last frame left where it was: 1 2 10 20 3 30; channels in reverse: 10 20 30 1 2 3
pub channel_after_channel : deinterleaved 0 2 3 file ≡ planes
unfolding every columns_from
channel_after_channel = refl

-- the same rearrangement again in place of its inverse: 1 3 20 2 10 30
pub frame_after_frame : interleaved 0 2 3 planes ≡ file
unfolding every columns_from
frame_after_frame = refl

-- two frames of two f32: bytes moved in place of samples, 1 3 5 7 9 .., or the other type's eight bytes, nothing moved; a sample's bytes in reverse, 4 3 2 1 12 ..
pub samples_whole : deinterleave_of F32 2 (1 ∷ 2 ∷ 3 ∷ 4 ∷ 5 ∷ 6 ∷ 7 ∷ 8 ∷ 9 ∷ 10 ∷ 11 ∷ 12 ∷ 13 ∷ 14 ∷ 15 ∷ 16 ∷ [])
    ≡ record { reply = numbered 0; bytes = 1 ∷ 2 ∷ 3 ∷ 4 ∷ 9 ∷ 10 ∷ 11 ∷ 12 ∷ 5 ∷ 6 ∷ 7 ∷ 8 ∷ 13 ∷ 14 ∷ 15 ∷ 16 ∷ [] }
unfolding every columns_from cut joined size_of places_of refusal rearrange_of
samples_whole = refl

-- two frames of two: the signalling bit of a NaN set, as a float that is loaded and stored may come back, byte 2 of the first sample 0xe0
pub payload_kept : (interleave_of F32 2 (1 ∷ 0 ∷ 0xa0 ∷ 0x7f ∷ 2 ∷ 0 ∷ 0xa0 ∷ 0x7f ∷ 3 ∷ 0 ∷ 0xa0 ∷ 0xff ∷ 4 ∷ 0 ∷ 0xa0 ∷ 0xff ∷ [])).bytes
    ≡ 1 ∷ 0 ∷ 0xa0 ∷ 0x7f ∷ 3 ∷ 0 ∷ 0xa0 ∷ 0xff ∷ 2 ∷ 0 ∷ 0xa0 ∷ 0x7f ∷ 4 ∷ 0 ∷ 0xa0 ∷ 0xff ∷ []
unfolding every columns_from cut joined size_of places_of refusal rearrange_of
payload_kept = refl

-- 28 judged first: 28, 28; no channels taken for any length's divisor
pub channels_first : (refusal F64 0 (replicate 7 0) ≡ 27) × (refusal F64 9 (replicate 7 0) ≡ 27) × (refusal F64 0 [] ≡ 27)
unfolding size_of refusal
channels_first = (refl, refl, refl)

-- a part of a sample, or of a frame, at the end left out of account: 0
pub whole_frames : (refusal F64 1 (replicate 7 0) ≡ 28) × (refusal F32 1 (replicate 7 0) ≡ 28) × (refusal F32 2 (replicate 12 0) ≡ 28)
unfolding size_of refusal
whole_frames = (refl, refl, refl)

-- no audio refused: 28
pub nothing_taken : refusal F32 8 [] ≡ 0
unfolding size_of refusal
nothing_taken = refl

-- 524,288 samples of 8 channels and of 1: the limit one sample too low, or in bytes, 28, 28; 65,536 frames the most, 28 of 1
pub limit_taken : (format : Format) (bytes : List ℕ) → size_of format bytes ≡ 524288 → (refusal format 8 bytes ≡ 0) × (refusal format 1 bytes ≡ 0)
unfolding refusal
limit_taken format bytes e = (rw e refl, rw e refl)

-- one sample more, and one frame of 8: the limit one too high, 0 of the first; 524,288 frames the most, 0 of the second
pub limit_passed : (format : Format) (bytes : List ℕ) → (size_of format bytes ≡ 524289 → refusal format 1 bytes ≡ 28) × (size_of format bytes ≡ 524296 → refusal format 8 bytes ≡ 28)
unfolding refusal
limit_passed format bytes = (λ e. rw e refl, λ e. rw e refl)

-- a refused call that moves the frames that are whole
pub refused_left : (deinterleave_of F32 2 (1 ∷ 2 ∷ 3 ∷ 4 ∷ 5 ∷ 6 ∷ 7 ∷ 8 ∷ 9 ∷ 10 ∷ 11 ∷ 12 ∷ [])).bytes ≡ 1 ∷ 2 ∷ 3 ∷ 4 ∷ 5 ∷ 6 ∷ 7 ∷ 8 ∷ 9 ∷ 10 ∷ 11 ∷ 12 ∷ []
unfolding size_of refusal rearrange_of
refused_left = refl
