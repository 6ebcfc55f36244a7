-- The audio that a call gives out: the outputs of its frames in their samples' places, and nothing else changed. The laws of written audio say it place by place.
use mathlib.Core.Path.{◌≡◌, sym, ap, ◌∙◌}
use mathlib.Core.List.{List, [], ◌∷◌, map}
use Prim.Native.Nat.{ℕ, zero, suc, ◌+◌, ◌*◌, ◌≤◌, ◌<◌}
use native.Mathlib.Omega.{arith}
use lib.ListN.{length, get_or, length-map, get_or-map}
use lib.Ieee.{Float, nan, binary64, mul}
use lib.Ieee.Fits.{nan-fits}
use Rattle.arithmetic.specs.Number.{largest}
use Rattle.audio.specs.Planar.{written}
use Rattle.audio.specs.Format.{binary_of, sample_of, bytes_for, size_of, places_of, written_bytes}
use Rattle.audio.specs.declared.format.Format.{Format}
use Rattle.audio.proofs.Carry.{places-end}
use Rattle.audio.proofs.Places.{places_fit, place_at, sample_back}
use Rattle.audio.proofs.Planes.{written_there, written_past}
use Rattle.audio.proofs.Written.{places_written, written_bytes_length, written_bytes_size, sample_there}
use Rattle.settings.specs.declared.LimiterSettings.{LimiterSettings}
use Rattle.frame.specs.Rules.{leaves_by, rules_of}
use Rattle.frame.specs.Frame.{Framed}
use Rattle.frame.proofs.Held.{leaves_fits}
use Rattle.turns.specs.Block.{outputs_of}
use Rattle.claims.specs.Book.{Joined, earlier, leaving_from}
use Rattle.claims.specs.Claim.{FramesHold, Given}

-- ---- an output is had back from its bytes
abbrev Back : Format → Float → Type 0
Back format x = sample_of format (bytes_for format x) ≡ x

abbrev AllBack : Format → List (List Float) → Type 0
AllBack format outputs = (i c : ℕ) → Back format (get_or (get_or outputs i []) c nan)

-- what the output rule of a sample type makes of a product
leaves_back : (format : Format) (d gain : Float) → Back format (leaves_by format (mul binary64 d gain))
leaves_back format d gain = sample_back format (leaves_by format (mul binary64 d gain)) (leaves_fits format d gain)

-- what stands for an output that is missing
nan_back : (format : Format) → Back format nan
nan_back format = sample_back format nan (nan-fits (binary_of format))

module _ (s : LimiterSettings) (format : Format) (look channels : ℕ) where
  leaving_back : (gain : Float) (fs : List Joined) (first k c : ℕ) → Back format (get_or (leaving_from (rules_of s format) look gain first k fs) c nan)
  unfolding leaving_from
  leaving_back gain fs first zero c = nan_back format
  leaving_back gain fs first (suc k) zero = leaves_back format (earlier look first fs) gain
  leaving_back gain fs first (suc k) (suc c) = leaving_back gain fs (first + 1) k c

  -- so is every output of frames of which the claim holds
  pub outputs_back : (weights : List Float) (coeff : Float) (drops : ℕ) (fs js : List Joined) (shown : List Framed) → FramesHold (rules_of s format) look channels weights coeff drops fs js shown → AllBack format (outputs_of shown)
  outputs_back weights coeff drops fs [] [] h i c = nan_back format
  outputs_back weights coeff drops fs (j ∷ js) (f ∷ shown) h zero c = rw h.0.outputs (leaving_back f.gain (j ∷ fs) 0 channels c)
  outputs_back weights coeff drops fs (j ∷ js) (f ∷ shown) h (suc i) c = outputs_back weights coeff (drops + f.dropped) (j ∷ fs) js shown h.1 i c
  outputs_back weights coeff drops fs [] (f ∷ shown) none_here i c = elim none_here [ ]
  outputs_back weights coeff drops fs (j ∷ js) [] none_here i c = elim none_here [ ]

-- ---- outputs in their samples' places
module _ (format : Format) (width channels n : ℕ) (bytes : List ℕ) (outputs : List (List Float)) (m : length outputs ≡ n) (short : n ≤ width) (fit : size_of format bytes ≡ channels * width)
    (small : channels * width < largest) (back : AllBack format outputs) where
  abbrev none : List ℕ
  none = bytes_for format nan

  abbrev after : List ℕ
  after = written_bytes format width channels n bytes outputs

  abbrev held_in_bytes : List (List (List ℕ))
  held_in_bytes = map (map (bytes_for format)) outputs

  many : length held_in_bytes ≡ n
  many = length-map outputs (map (bytes_for format)) ∙ m

  enough : channels * width ≤ length (places_of format bytes)
  enough = omega (arith, places_fit format bytes (channels * width) fit small)

  -- what stands past the end does not matter at a place inside
  inside : (audio : List ℕ) → size_of format audio ≡ channels * width → (c i : ℕ) → c < channels → i < width → get_or (places_of format audio) (c * width + i) [] ≡ get_or (places_of format audio) (c * width + i) none
  inside audio size c i h g =
      let p : c * width + i < length (places_of format audio) = omega (arith, places-end c channels width h, places_fit format audio (channels * width) size small) in
      place_at format audio (c * width + i) p [] ∙ sym (place_at format audio (c * width + i) p none)

  -- a place of the written bytes
  place_of : (c i : ℕ) → c < channels → i < width → get_or (places_of format after) (c * width + i) [] ≡ get_or (written none width channels n (places_of format bytes) held_in_bytes) (c * width + i) none
  place_of c i h g =
      inside after (written_bytes_size format width channels bytes fit small n outputs short m) c i h g
      ∙ ap (λ (l : List (List ℕ)). get_or l (c * width + i) none) (places_written format width channels n bytes outputs)

  pub given : Given format channels width n outputs bytes after
  given = record {
    as_long = written_bytes_length format width channels bytes fit small n outputs short m;
    placed = λ c i h l.
        place_of c i h (omega arith)
        ∙ written_there none width n short channels c i (places_of format bytes) held_in_bytes many enough h l
        ∙ ap (λ (f : List (List ℕ)). get_or f c none) (get_or-map (map (bytes_for format)) outputs i [])
        ∙ get_or-map (bytes_for format) (get_or outputs i []) c nan;
    worth = λ c i h l. sample_there format width channels bytes fit small n outputs short m c i h (omega arith) l ∙ back i c;
    others = λ c i h l w.
        place_of c i h w ∙ written_past none width n short channels c i (places_of format bytes) held_in_bytes many enough h l w ∙ sym (inside bytes fit c i h w);
  }
