-- The bytes of each sample. Only `sample_some` and `patterns` look at the sample type.
use mathlib.Core.Path.{◌≡◌, refl, sym, ap, subst, ◌∙◌}
use mathlib.Core.Bool.{Bool, true, false}
use mathlib.Core.List.{List, [], ◌∷◌, ◌++◌, map}
use Prim.Native.Nat.{ℕ, zero, suc, ◌+◌, ◌*◌, ◌/◌, ◌%◌, ◌^◌, ◌≤◌, ◌<◌}
use native.Mathlib.Nat.{mul-zero, mul-suc, mul-div-le, div-le_self, mul-le-mul_left, mul-div_cancel_left, mod-add-div}
use native.Mathlib.Omega.{arith}
use lib.Dec.{T, eqb}
use lib.ListN.{length, get_or, set, take, drop, length-append, length-drop, length-map}
use lib.Seq.{take_at, drop_at, length-take-le}
use lib.Ieee.{Float, nan, top, of_bits, to_bits, fits}
use lib.Ieee.Bits.{of_bits-to_bits, to_bits-lt}
use borrow.Author.Tests.{eqb-true}
use Rattle.arithmetic.specs.Number.{largest}
use Rattle.arithmetic.specs.Sanitize.{finite_or_zero}
use Rattle.audio.specs.Bytes.{cut, joined}
use Rattle.audio.specs.Planar.{first_of, others_of, written}
use Rattle.audio.specs.Format.{binary_of, sample_bytes, sample_of, bytes_for, size_of, places_of, samples_of, sounds_of}
use Rattle.audio.specs.Inner.{put}
use Rattle.audio.specs.declared.format.Format.{Format}
use Rattle.audio.specs.declared.format.Format.TheVariants.{F64, F32}
use Rattle.audio.proofs.Numbers.{bytes_length, word_of_bytes, put_length, cut-length, cut_at, joined_cut, cut_put}

-- ---- what holds of each in a list
abbrev pub Each : {A : Type 0} → (A → Type 0) → List A → Type 0
Each P [] = Unit {0}
Each P (x ∷ l) = P x × Each P l

module _ {A : Type 0} (P : A → Type 0) where
  each_append : (a b : List A) → Each P a → Each P b → Each P (a ++ b)
  each_append [] b h g = g
  each_append (x ∷ a) b h g = (h.0, each_append a b h.1 g)

  each_take : (n : ℕ) (l : List A) → Each P l → Each P (take n l)
  each_take zero l h = tt
  each_take (suc n) [] h = tt
  each_take (suc n) (x ∷ l) h = (h.0, each_take n l h.1)

  each-drop : (n : ℕ) (l : List A) → Each P l → Each P (drop n l)
  each-drop zero l h = h
  each-drop (suc n) [] h = tt
  each-drop (suc n) (x ∷ l) h = each-drop n l h.1

  pub each_map : {B : Type 0} (f : B → A) → ((x : B) → P (f x)) → (l : List B) → Each P (map f l)
  each_map f h [] = tt
  each_map f h (x ∷ l) = (h x, each_map f h l)

  -- written audio has what audio, outputs and `none` have
  module _ (none : A) (h : P none) where
    first_each : (f : List A) → Each P f → P (first_of none f)
    first_each [] g = h
    first_each (x ∷ f) g = g.0

    firsts_each : (l : List (List A)) → Each (Each P) l → Each P (map (λ (f : List A). first_of none f) l)
    firsts_each [] g = tt
    firsts_each (f ∷ l) g = (first_each f g.0, firsts_each l g.1)

    others_each : (l : List (List A)) → Each (Each P) l → Each (Each P) (map (λ (f : List A). others_of f) l)
    others_each [] g = tt
    others_each (f ∷ l) g = (each-drop 1 f g.0, others_each l g.1)

    pub written_each : (w k n : ℕ) (audio : List A) (outputs : List (List A)) → Each P audio → Each (Each P) outputs → Each P (written none w k n audio outputs)
    unfolding written
    written_each w zero n audio outputs a o = a
    written_each w (suc k) n audio outputs a o =
        each_append (map (λ (f : List A). first_of none f) outputs) (drop n (take w audio) ++ written none w k n (drop w audio) (map (λ (f : List A). others_of f) outputs))
        (firsts_each outputs o)
        (each_append (drop n (take w audio)) (written none w k n (drop w audio) (map (λ (f : List A). others_of f) outputs))
        (each-drop n (take w audio) (each_take w audio a))
        (written_each w k n (drop w audio) (map (λ (f : List A). others_of f) outputs) (each-drop w audio a) (others_each outputs o)))

-- ---- places of so many bytes each
abbrev pub Sized : ℕ → List (List ℕ) → Type 0
Sized size places = Each (λ (place : List ℕ). length place ≡ size) places

module _ (size : ℕ) where
  cut_sized : (n : ℕ) (bytes : List ℕ) → size * n ≤ length bytes → Sized size (cut size n bytes)
  unfolding cut
  cut_sized zero bytes h = tt
  cut_sized (suc n) bytes h =
      let m = mul-suc size n in
      (length-take-le size bytes (omega arith), cut_sized n (drop size bytes) (rw (length-drop size bytes) (omega arith)))

  pub joined_length : (places : List (List ℕ)) → Sized size places → length (joined places) ≡ size * length places
  unfolding joined
  joined_length [] h = sym (mul-zero size)
  joined_length (place ∷ places) h =
      let m = mul-suc size (length places) in
      length-append place (joined places) ∙ rw (h.0, joined_length places h.1) (omega arith)

  cut_joined : (places : List (List ℕ)) → Sized size places → cut size (length places) (joined places) ≡ places
  unfolding cut joined
  cut_joined [] h = refl
  cut_joined (place ∷ places) h = rw (take_at place (joined places) size h.0, drop_at place (joined places) size h.0, cut_joined places h.1) refl

-- inside a list, whatever stands past its end
pub get_d_map : {A B : Type 0} (f : A → B) (l : List A) (i : ℕ) (d : A) (d' : B) → i < length l → get_or (map f l) i d' ≡ f (get_or l i d)
get_d_map f [] i d d' h = absurd (omega arith)
get_d_map f (x ∷ l) zero d d' h = refl
get_d_map f (x ∷ l) (suc i) d d' h = get_d_map f l i d d' (omega arith)

-- ---- the sample type
pub sample_some : (format : Format) → 1 ≤ sample_bytes format
sample_some F64 = omega arith
sample_some F32 = omega arith

-- its patterns are the numbers of its bytes
patterns : (format : Format) → 2 * top (binary_of format) ≡ 256 ^ sample_bytes format
patterns F64 = refl
patterns F32 = refl

pub bytes_for_length : (format : Format) (x : Float) → length (bytes_for format x) ≡ sample_bytes format
unfolding bytes_for
bytes_for_length format x = bytes_length (sample_bytes format) (to_bits (binary_of format) x)

-- ---- the places of bytes
module _ (format : Format) where
  pub places_count : (bytes : List ℕ) → length (places_of format bytes) ≡ length bytes / sample_bytes format
  unfolding places_of
  places_count bytes = cut-length (sample_bytes format) (length bytes / sample_bytes format) bytes

  pub places_few : (bytes : List ℕ) → length (places_of format bytes) ≤ length bytes
  places_few bytes = rw (places_count bytes) (div-le_self (length bytes) (sample_bytes format))

  pub samples_count : (bytes : List ℕ) → length (samples_of format bytes) ≡ length (places_of format bytes)
  samples_count bytes = length-map (places_of format bytes) (sample_of format)

  pub places_sized : (bytes : List ℕ) → Sized (sample_bytes format) (places_of format bytes)
  unfolding places_of
  places_sized bytes = cut_sized (sample_bytes format) (length bytes / sample_bytes format) bytes (mul-div-le (length bytes) (sample_bytes format))

  pub places_joined : (places : List (List ℕ)) → Sized (sample_bytes format) places → places_of format (joined places) ≡ places
  unfolding places_of
  places_joined places h =
      let e : length (joined places) / sample_bytes format ≡ length places =
      ap (λ (n : ℕ). n / sample_bytes format) (joined_length (sample_bytes format) places h) ∙ mul-div_cancel_left (length places) (omega (arith, sample_some format))
      in
      rw e (cut_joined (sample_bytes format) places h)

  -- a place lies in the bytes
  module _ (bytes : List ℕ) (i : ℕ) (h : i < length (places_of format bytes)) where
    abbrev s : ℕ
    s = sample_bytes format

    inside : i < length bytes / s
    inside = omega (arith, h, places_count bytes)

    pub place_room : s * i + s ≤ length bytes
    place_room =
        let a = mul-le-mul_left {m = suc i} {n = length bytes / s} s (omega (arith, inside)) in
        let b = mul-div-le (length bytes) s in
        let c = mul-suc s i in
        omega (arith, a, b, c)

    pub place_at : (none : List ℕ) → get_or (places_of format bytes) i none ≡ take s (drop (s * i) bytes)
    unfolding places_of
    place_at none = cut_at s (length bytes / s) i bytes none inside

    pub place_put : (new : List ℕ) → length new ≡ s → places_of format (put bytes (s * i) new) ≡ set (places_of format bytes) i new
    unfolding places_of
    place_put new l =
        let e : length (put bytes (s * i) new) ≡ length bytes = put_length bytes (s * i) new (omega (arith, l, place_room)) in
        ap (λ (n : ℕ). cut s (n / s) (put bytes (s * i) new)) e ∙ cut_put s (length bytes / s) i bytes new l inside (mul-div-le (length bytes) s)

    -- its sample
    pub sample_at : (none : List ℕ) → get_or (samples_of format bytes) i nan ≡ sample_of format (get_or (places_of format bytes) i none)
    sample_at none = get_d_map (sample_of format) (places_of format bytes) i none nan h

    pub sound_at : get_or (sounds_of format bytes) i nan ≡ finite_or_zero (get_or (samples_of format bytes) i nan)
    sound_at = get_d_map finite_or_zero (samples_of format bytes) i nan nan (rw (samples_count bytes) h)

    -- the same in an arm that knows the sample type
    pub room_of : (known : Format) → format ≡ known → sample_bytes known * i + sample_bytes known ≤ length bytes
    room_of known e = subst (λ (f : Format). sample_bytes f * i + sample_bytes f ≤ length bytes) e place_room

  -- ---- bytes that are whole samples: their size is no `largest`
  module _ (bytes : List ℕ) (size : ℕ) (fit : size_of format bytes ≡ size) (small : size < largest) where
    pub whole : (length bytes % sample_bytes format ≡ 0) × (length bytes / sample_bytes format ≡ size)
    unfolding size_of
    whole = go (eqb (length bytes % sample_bytes format) 0) refl
      where
        go : (b : Bool) → eqb (length bytes % sample_bytes format) 0 ≡ b → (length bytes % sample_bytes format ≡ 0) × (length bytes / sample_bytes format ≡ size)
        go true e = (eqb-true (length bytes % sample_bytes format) 0 e, rw e at fit)
        go false e = let f : largest ≡ size = rw e at fit in absurd (omega (arith, f, small))

    pub bytes_count : length bytes ≡ sample_bytes format * size
    bytes_count = sym (mod-add-div (length bytes) (sample_bytes format)) ∙ rw (whole.0, whole.1) (omega arith)

    pub places_fit : length (places_of format bytes) ≡ size
    places_fit = places_count bytes ∙ whole.1

    pub joined_places : joined (places_of format bytes) ≡ bytes
    unfolding places_of
    joined_places = joined_cut (sample_bytes format) (length bytes / sample_bytes format) bytes (rw whole.1 bytes_count)

  pub size_same : (a b : List ℕ) → length a ≡ length b → size_of format a ≡ size_of format b
  unfolding size_of
  size_same a b e = rw e refl

-- ---- a value of the sample type is had back from its bytes
pub sample_back : (format : Format) (x : Float) → T (fits (binary_of format) x) → sample_of format (bytes_for format x) ≡ x
unfolding sample_of bytes_for
sample_back format x h =
    let f = binary_of format in
    ap (of_bits f) (word_of_bytes (sample_bytes format) (to_bits f x) (subst (λ (n : ℕ). to_bits f x < n) (patterns format) (to_bits-lt f x h))) ∙ of_bits-to_bits f x h
