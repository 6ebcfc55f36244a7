-- Pieces of bytes moved from place to place: what the inner functions promise. A piece is a sample, or a row of samples.
use Rattle.std.specs.Prelude.{ℕ, ◌+◌, ◌*◌, ◌/◌, ◌%◌, ◌^◌, ◌≤◌, ◌<◌, ◌≡◌, Bool, List, eqb, length, get_or, take, drop}
use Rattle.audio.specs.Format.{sample_bytes}
use Rattle.audio.specs.Inner.{put}
use Rattle.audio.specs.declared.format.Format.{Format}
use Rattle.interleaving.specs.declared.shape.Shape.{Shape}
use Rattle.interleaving.specs.declared.calls.Direction.{Direction}
use Rattle.interleaving.specs.declared.calls.Direction.TheVariants.{Deinterleave, Interleave}

-- piece k of bytes cut into pieces of one size
unfoldable pub piece : ℕ → ℕ → List ℕ → List ℕ
piece size k bytes = take size (drop (size * k) bytes)

-- n pieces of a source, each `step` after the one before, one after the other from a place on; all others as before
pub record Spaced (size n from step : ℕ) (source : List ℕ) (to : ℕ) (before after : List ℕ) : Type 0 where
  pub there : (k : ℕ) → k < n → piece size (to + k) after ≡ piece size (from + k * step) source
  pub elsewhere : (p : ℕ) → (to ≤ p → to + n ≤ p) → piece size p after ≡ piece size p before

-- a table of pieces that was stored row after row, now stored column after column: row r, column c comes from place r × columns + c to place c × rows + r
abbrev pub Transposed : ℕ → ℕ → ℕ → List ℕ → List ℕ → Type 0
Transposed size rows columns before after = (r c : ℕ) → r < rows → c < columns → piece size (c * rows + r) after ≡ piece size (r * columns + c) before

-- the table that a rearrangement transposes: a file's rows are its frames, those of planar audio its channels
abbrev pub rows_in : Direction → ℕ → ℕ → ℕ
rows_in Deinterleave channels frames = frames
rows_in Interleave channels frames = channels

abbrev pub columns_in : Direction → ℕ → ℕ → ℕ
columns_in Deinterleave channels frames = channels
columns_in Interleave channels frames = frames

-- tables one after the other, each transposed; all else as before
pub record TransposedEach (size rows columns tables : ℕ) (before after : List ℕ) : Type 0 where
  pub there : (t r c : ℕ) → t < tables → r < rows → c < columns
      → piece size (t * (rows * columns) + (c * rows + r)) after ≡ piece size (t * (rows * columns) + (r * columns + c)) before
  pub beyond : (p : ℕ) → tables * (rows * columns) ≤ p → piece size p after ≡ piece size p before

-- a table at the start, transposed; all else as before
pub record TransposedFirst (size rows columns : ℕ) (before after : List ℕ) : Type 0 where
  pub there : Transposed size rows columns before after
  pub beyond : drop (size * (rows * columns)) after ≡ drop (size * (rows * columns)) before

-- bit k of bytes
unfoldable pub bit_at : List ℕ → ℕ → Bool
bit_at bytes k = eqb (get_or bytes (k / 8) 0 / 2 ^ (k % 8) % 2) 1

-- n pieces of bytes, from a place on
abbrev pub run : ℕ → ℕ → ℕ → List ℕ → List ℕ
run size n from bytes = take (size * n) (drop (size * from) bytes)

-- the bytes with these at another place
abbrev pub slid : ℕ → ℕ → ℕ → ℕ → List ℕ → List ℕ
slid size n from to bytes = put bytes (size * to) (run size n from bytes)

-- the lengths of audio of so many tiles of 64 frames, and fewer frames than a tile left
pub record Lengths (format : Format) (channels tiles left bytes : ℕ) : Type 0 where
  pub few : channels ≤ 8
  pub short : left < 64
  pub bounded : tiles ≤ 8192
  pub exact : bytes ≡ sample_bytes format * (channels * (64 * tiles + left))

-- the same audio twice. Apart: channel after channel, but for the last `left` frames, which stand behind them all, frame after frame. Together: planar audio, the samples of channel c from c × (whole + left) on
pub record Spread (size channels whole left : ℕ) (apart together : List ℕ) : Type 0 where
  pub wholes : (c i : ℕ) → c < channels → i < whole → piece size (c * (whole + left) + i) together ≡ piece size (c * whole + i) apart
  pub lefts : (c j : ℕ) → c < channels → j < left → piece size (c * (whole + left) + (whole + j)) together ≡ piece size (channels * whole + (j * channels + c)) apart

-- ---- a shape
-- its frames
abbrev pub frames_of : Shape → ℕ
frames_of shape = 64 * shape.tiles + shape.left

-- its bytes
abbrev pub Fills : Shape → List ℕ → Type 0
Fills shape bytes = length bytes ≡ sample_bytes shape.format * (shape.channels * frames_of shape)

-- ---- a call that is not refused
-- so many frames, in so many bytes
pub record Taken (format : Format) (channels frames bytes : ℕ) : Type 0 where
  pub some : 1 ≤ channels
  pub few : channels ≤ 8
  pub short : channels * frames ≤ 524288
  pub long : bytes ≡ sample_bytes format * (channels * frames)

-- what so many samples of so many channels are
pub record Shaped (format : Format) (channels samples : ℕ) (shape : Shape) : Type 0 where
  pub format_same : shape.format ≡ format
  pub channels_same : shape.channels ≡ channels
  pub whole : shape.channels * frames_of shape ≡ samples
