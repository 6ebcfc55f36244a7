-- What stands where once a call is done, and what a block reads of it: the frames of the planar audio are those of the file.
use mathlib.Core.Path.{◌≡◌, ap, ◌∙◌}
use mathlib.Core.List.{List, []}
use Prim.Native.Nat.{ℕ, ◌+◌, ◌*◌, ◌<◌}
use lib.ListN.{get_or}
use lib.Ieee.{nan}
use Rattle.audio.specs.Bytes.{cut}
use Rattle.audio.specs.Planar.{frames_at}
use Rattle.audio.specs.Format.{size_of, places_of, samples_of}
use Rattle.audio.specs.declared.format.Format.{Format}
use Rattle.interleaving.specs.Interleaved.{deinterleaved, interleaved}
use Rattle.interleaving.specs.Calls.{refusal, frames_in, deinterleave_of, interleave_of}
use Rattle.interleaving.specs.declared.calls.Direction.TheVariants.{Deinterleave, Interleave}
use Rattle.interleaving.proofs.Tables.{transposed_at}
use Rattle.interleaving.proofs.Frames.{frames_deinterleaved, frames_interleaved}
use Rattle.interleaving.proofs.Samples.{samples_length, transposed_bytes_places, transposed_bytes_samples}
use Rattle.interleaving.proofs.Facts.{frames_whole, table_whole, done, same_size}

module _ (format : Format) (channels : ℕ) (bytes : List ℕ) where
  abbrev frames : ℕ
  frames = frames_in format channels bytes

  -- what a call leaves
  abbrev planar : List ℕ
  planar = (deinterleave_of format channels bytes).bytes

  abbrev file : List ℕ
  file = (interleave_of format channels bytes).bytes

  module _ (ok : refusal format channels bytes ≡ 0) where
    -- ---- a file as planar audio
    -- the size that a block asks for
    pub planar_size : size_of format planar ≡ channels * frames
    planar_size = same_size Deinterleave format channels bytes ∙ frames_whole format channels bytes ok

    -- its places
    pub planar_places : places_of format planar ≡ deinterleaved [] channels frames (places_of format bytes)
    planar_places = ap (places_of format) (done Deinterleave format channels bytes ok) ∙ transposed_bytes_places format frames channels bytes (table_whole format channels bytes ok Deinterleave)

    -- frame i of channel c, byte for byte
    pub planar_at : (i c : ℕ) → i < frames → c < channels → get_or (places_of format planar) (c * frames + i) [] ≡ get_or (places_of format bytes) (i * channels + c) []
    planar_at i c h g = rw planar_places (transposed_at [] frames channels i c (places_of format bytes) h g)

    -- its frames, as a block takes them, are those of the file
    pub planar_samples : frames_at nan frames channels 0 frames (samples_of format planar) ≡ cut channels frames (samples_of format bytes)
    planar_samples =
        let whole = table_whole format channels bytes ok Deinterleave in
        rw (done Deinterleave format channels bytes ok, transposed_bytes_samples format frames channels bytes whole)
        (frames_deinterleaved nan channels frames (samples_of format bytes) (samples_length format (frames * channels) bytes whole))

    -- ---- planar audio as a file
    -- as many samples as before
    pub file_size : size_of format file ≡ channels * frames
    file_size = same_size Interleave format channels bytes ∙ frames_whole format channels bytes ok

    -- its places
    pub file_places : places_of format file ≡ interleaved [] channels frames (places_of format bytes)
    file_places = ap (places_of format) (done Interleave format channels bytes ok) ∙ transposed_bytes_places format channels frames bytes (table_whole format channels bytes ok Interleave)

    -- frame i of channel c, byte for byte
    pub file_at : (i c : ℕ) → i < frames → c < channels → get_or (places_of format file) (i * channels + c) [] ≡ get_or (places_of format bytes) (c * frames + i) []
    file_at i c h g = rw file_places (transposed_at [] channels frames c i (places_of format bytes) g h)

    -- its frames are those of the planar audio
    pub file_samples : cut channels frames (samples_of format file) ≡ frames_at nan frames channels 0 frames (samples_of format bytes)
    file_samples =
        let whole = table_whole format channels bytes ok Interleave in
        rw (done Interleave format channels bytes ok, transposed_bytes_samples format channels frames bytes whole)
        (frames_interleaved nan channels frames (samples_of format bytes) (samples_length format (channels * frames) bytes whole))
