-- Samples in bytes, in a transposed order.
use mathlib.Core.Path.{◌≡◌, sym, ap, ◌∙◌}
use mathlib.Core.List.{List, [], map}
use Prim.Native.Nat.{ℕ, ◌+◌, ◌*◌, ◌/◌, ◌<◌}
use native.Mathlib.Nat.{mul_comm, mul-div_cancel_left}
use native.Mathlib.Omega.{arith}
use lib.ListN.{length, get_or}
use lib.Ieee.{nan}
use Rattle.audio.specs.Bytes.{joined}
use Rattle.audio.specs.Format.{sample_bytes, sample_of, places_of, samples_of}
use Rattle.audio.specs.declared.format.Format.{Format}
use Rattle.audio.proofs.Carry.{places-end}
use Rattle.audio.proofs.Numbers.{joined_cut}
use Rattle.audio.proofs.Places.{Sized, sample_some, joined_length, places_count, samples_count, places_sized, places_joined, place_at}
use Rattle.interleaving.specs.Inner.{piece, Transposed}
use Rattle.interleaving.specs.Interleaved.{transposed}
use Rattle.interleaving.proofs.Tables.{transposed_length, transposed_is, transposed_back, transposed_map, transposed_each}

module _ (format : Format) where
  -- n samples
  module _ (n : ℕ) (bytes : List ℕ) (whole : length bytes ≡ sample_bytes format * n) where
    many : length bytes / sample_bytes format ≡ n
    many = ap (λ (m : ℕ). m / sample_bytes format) whole ∙ mul-div_cancel_left n (omega (arith, sample_some format))

    -- in places, as read, and as a run hears them
    pub samples_many : length (places_of format bytes) ≡ n
    samples_many = places_count format bytes ∙ many

    pub samples_length : length (samples_of format bytes) ≡ n
    samples_length = samples_count format bytes ∙ samples_many

    -- joined they are the bytes
    pub samples_joined : joined (places_of format bytes) ≡ bytes
    unfolding places_of
    samples_joined = joined_cut (sample_bytes format) (length bytes / sample_bytes format) bytes (rw many whole)

    -- each is a piece
    pub sample_piece : (k : ℕ) → k < n → get_or (places_of format bytes) k [] ≡ piece (sample_bytes format) k bytes
    unfolding piece
    sample_piece k h = place_at format bytes k (rw samples_many h) []

  -- a table of samples whose pieces are transposed
  pub transposed_bytes : (rows columns : ℕ) (bytes after : List ℕ) → length bytes ≡ sample_bytes format * (rows * columns) → length after ≡ length bytes
      → Transposed (sample_bytes format) rows columns bytes after → after ≡ joined (transposed [] rows columns (places_of format bytes))
  transposed_bytes rows columns bytes after whole same moved =
      let n = rows * columns in
      let all = same ∙ whole in
      let swap = mul_comm rows columns in
      sym (samples_joined n after all)
      ∙ ap joined (transposed_is [] rows columns (places_of format bytes) (places_of format after) (samples_many n after all ∙ swap) (λ r c h g.
      sample_piece n after all (c * rows + r) (omega (arith, places-end c columns rows g, swap))
      ∙ moved r c h g
      ∙ sym (sample_piece n bytes whole (r * columns + c) (omega (arith, places-end r rows columns h)))))

  -- ---- what the definitions of the calls write
  module _ (rows columns : ℕ) (bytes : List ℕ) (whole : length bytes ≡ sample_bytes format * (rows * columns)) where
    abbrev after : List (List ℕ)
    after = transposed [] rows columns (places_of format bytes)

    sized : Sized (sample_bytes format) after
    sized = transposed_each (λ (place : List ℕ). length place ≡ sample_bytes format) [] rows columns (places_of format bytes) (samples_many (rows * columns) bytes whole) (places_sized format bytes)

    -- as long as before
    pub transposed_bytes_length : length (joined after) ≡ length bytes
    transposed_bytes_length =
        joined_length (sample_bytes format) after sized ∙ ap (λ (n : ℕ). sample_bytes format * n) (transposed_length [] rows columns (places_of format bytes) ∙ mul_comm columns rows) ∙ sym whole

    -- its samples
    pub transposed_bytes_places : places_of format (joined after) ≡ after
    transposed_bytes_places = places_joined format after sized

    -- transposed twice they are as before
    pub transposed_bytes_back : joined (transposed [] columns rows (places_of format (joined after))) ≡ bytes
    transposed_bytes_back =
        ap (λ (l : List (List ℕ)). joined (transposed [] columns rows l)) transposed_bytes_places
        ∙ ap joined (transposed_back [] rows columns (places_of format bytes) (samples_many (rows * columns) bytes whole))
        ∙ samples_joined (rows * columns) bytes whole

    -- and what they are worth, as read and as a run hears them
    pub transposed_bytes_samples : samples_of format (joined after) ≡ transposed nan rows columns (samples_of format bytes)
    transposed_bytes_samples =
        ap (map (sample_of format)) transposed_bytes_places ∙ sym (transposed_map (sample_of format) [] nan rows columns (places_of format bytes) (samples_many (rows * columns) bytes whole))
