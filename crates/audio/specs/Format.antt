-- The sample type of a call: how many bytes a sample has, what it is worth, and what bytes an output becomes.
use Rattle.std.specs.Prelude.{ℕ, ◌/◌, ◌%◌, cond, List, map, eqb, length, Float}
use Rattle.std.specs.Float.Ieee
use Rattle.std.specs.Float.{nan, binary32, binary64}
use Rattle.std.specs.Float.Ieee.{of_bits, to_bits}
use Rattle.arithmetic.specs.Number.{largest}
use Rattle.arithmetic.specs.Sanitize.{finite_or_zero}
use Rattle.audio.specs.Bytes.{word_of, bytes_of, cut, joined}
use Rattle.audio.specs.Planar.{written}
use Rattle.audio.specs.declared.format.Format.{Format}
use Rattle.audio.specs.declared.format.Format.TheVariants.{F64, F32}

-- IEEE 754's format of a sample type
abbrev pub binary_of : Format → Ieee.Format
binary_of F64 = binary64
binary_of F32 = binary32

-- "a sample being 8 bytes, low byte first"; Change 1: "an f32 crosses as 4 bytes, low byte first"
abbrev pub sample_bytes : Format → ℕ
sample_bytes F64 = 8
sample_bytes F32 = 4

-- the value of a sample's bytes: an f32 is "widened exactly"
unfoldable pub sample_of : Format → List ℕ → Float
sample_of format place = of_bits (binary_of format) (word_of place)

-- the bytes of an output, which is a value of the sample type
unfoldable pub bytes_for : Format → Float → List ℕ
bytes_for format x = bytes_of (sample_bytes format) (to_bits (binary_of format) x)

-- ---- a call's audio
-- the audio length that 20 judges, in samples; bytes that are no whole number of samples have a length that no call asks for
unfoldable pub size_of : Format → List ℕ → ℕ
size_of format bytes = cond (eqb (length bytes % sample_bytes format) 0) (length bytes / sample_bytes format) largest

-- the bytes of each sample
unfoldable pub places_of : Format → List ℕ → List (List ℕ)
places_of format bytes = cut (sample_bytes format) (length bytes / sample_bytes format) bytes

abbrev pub samples_of : Format → List ℕ → List Float
samples_of format bytes = map (sample_of format) (places_of format bytes)

-- the same as a run reads them: sanitized
abbrev pub sounds_of : Format → List ℕ → List Float
sounds_of format bytes = map finite_or_zero (samples_of format bytes)

-- the bytes with the outputs of the first n frames in their samples' places, and every other byte as it was; an output that is missing is a NaN
unfoldable pub written_bytes : Format → ℕ → ℕ → ℕ → List ℕ → List (List Float) → List ℕ
written_bytes format width channels n bytes outputs =
    joined (written (bytes_for format nan) width channels n (places_of format bytes) (map (map (bytes_for format)) outputs))
