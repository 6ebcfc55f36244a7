-- Inputs at which the wrong programs of ARCHITECTURE.md's table would answer otherwise: each row computes what the definition answers there, and its comment names the wrong program.
use Prim.Native.Nat.{ℕ}
use mathlib.Core.Path.{◌≡◌, refl, ap}
use mathlib.Core.List.{List, [], ◌∷◌, ◌++◌}
use lib.ListN.{get_or, replicate}
use lib.Ieee.{binary64, of_bits, to_bits}
use borrow.Author.Tests.{eqb-false}
use native.Mathlib.Omega.{arith}
use Rattle.arithmetic.specs.Number.{one, largest}
use Rattle.audio.specs.Bytes.{word_of, bytes_of, cut}
use Rattle.audio.specs.Planar.{frame_at, frames_at}
use Rattle.audio.specs.Format.{sample_bytes, sample_of, bytes_for, size_of, places_of}
use Rattle.audio.specs.Inner.{PlacesCarried, Placed, put}
use Rattle.audio.specs.declared.format.Format.TheVariants.{F64, F32}

-- ---- numbers in bytes
-- the high byte first: 258, and 2 before 1
pub low_byte_first : (word_of (1 ∷ 2 ∷ []) ≡ 513) × (bytes_of 2 513 ≡ 1 ∷ 2 ∷ [])
unfolding word_of bytes_of
low_byte_first = (refl, refl)

-- a number put over its neighbours too
pub neighbours_left : put (7 ∷ 7 ∷ 7 ∷ []) 1 (5 ∷ []) ≡ 7 ∷ 5 ∷ 7 ∷ []
neighbours_left = refl

-- ---- the length of a call's audio
-- the other type's bytes: 4 and 8
pub sample_sizes : (sample_bytes F64 ≡ 8) × (sample_bytes F32 ≡ 4)
sample_sizes = (refl, refl)

-- nine bytes: the one past the last whole sample unjudged, a length of 1, of f32 2; a part of a sample rounded up, a length of 2, of f32 3
pub nine_bytes : (size_of F64 (replicate 9 0) ≡ largest) × (size_of F32 (replicate 9 0) ≡ largest)
unfolding size_of
nine_bytes = (refl, refl)

-- ---- the value of a sample's bytes
-- an f32's 32 bits taken for the upper half of an f64's: 1.0 would be 0.0078125; a subnormal f32 read as 0.0: 2^-149 is 36a0000000000000
pub widened_exactly : (to_bits binary64 (sample_of F32 (0 ∷ 0 ∷ 0x80 ∷ 0x3f ∷ [])) ≡ 0x3ff0_0000_0000_0000) × (to_bits binary64 (sample_of F32 (1 ∷ 0 ∷ 0 ∷ 0 ∷ [])) ≡ 0x36a0_0000_0000_0000)
unfolding sample_of word_of of_bits to_bits
widened_exactly = (refl, refl)

-- ---- planar audio
-- interleaved audio: of 2 channels of 4 frames, from frame 2 on, it would be 4 with 5, and 6 with 7
pub planar : frames_at {A = ℕ} 0 4 2 2 2 (0 ∷ 1 ∷ 2 ∷ 3 ∷ 4 ∷ 5 ∷ 6 ∷ 7 ∷ []) ≡ (2 ∷ 6 ∷ []) ∷ (3 ∷ 7 ∷ []) ∷ []
unfolding frames_at frame_at
planar = refl

-- every run reads the call's first frames: frame 2 is asked for, and frame 0 is there
pub first_frame_gathered : PlacesCarried {A = ℕ} 0 1 1 4 2 (10 ∷ 11 ∷ 12 ∷ 13 ∷ []) 32 0 (replicate 32 0) (10 ∷ replicate 31 0) → ⊥
first_frame_gathered p = eqb-false 10 12 refl (p.there 0 0 (omega arith) (omega arith))

-- every run goes to the call's first frames: 1.0 is to go to frame 1 of two, and is in frame 0; the last byte of frame 1 is not that of 1.0
pub scattered_to_first_frame : Placed F64 1 1 2 1 ((one ∷ []) ∷ []) (replicate 16 0) (bytes_for F64 one ++ replicate 8 0) → ⊥
unfolding places_of cut bytes_for bytes_of to_bits
scattered_to_first_frame p = eqb-false 0 0x3f refl (ap (λ (place : List ℕ). get_or place 7 0) (p.there 0 0 (omega arith) (omega arith)))
