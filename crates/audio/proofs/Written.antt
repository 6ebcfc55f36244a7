-- A call's bytes with outputs written into them: by the laws of planar audio, over the bytes of each sample.
use mathlib.Core.Path.{◌≡◌, refl, sym, ap, subst, ◌∙◌}
use mathlib.Core.Bool.{Bool, true, false}
use mathlib.Core.List.{List, [], ◌∷◌, ◌++◌, map, map-append}
use Prim.Native.Nat.{ℕ, zero, suc, ◌+◌, ◌-◌, ◌*◌, ◌≤◌, ◌<◌}
use native.Mathlib.Nat.{mul-le-mul}
use native.Mathlib.Omega.{arith}
use lib.Dec.{ltb}
use lib.ListN.{length, get_or, replicate, length-append, length-map, length-replicate, get_or-append, get_or-map}
use lib.Seq.{get_or-append-add}
use lib.Ieee.{Float, nan}
use borrow.Author.Tests.{ltb-true, ltb-false}
use Rattle.arithmetic.specs.Number.{largest}
use Rattle.arithmetic.specs.Sanitize.{finite_or_zero}
use Rattle.arithmetic.proofs.Cases.{sanitized_again}
use Rattle.audio.specs.Bytes.{joined}
use Rattle.audio.specs.Planar.{frames_at, written}
use Rattle.audio.specs.Format.{sample_bytes, sample_of, bytes_for, size_of, places_of, samples_of, sounds_of, written_bytes}
use Rattle.audio.specs.Inner.{PlacesCarried, Placed}
use Rattle.audio.specs.declared.format.Format.{Format}
use Rattle.audio.proofs.Carry.{places-end}
use Rattle.audio.proofs.Planes.{frames_map, frames_at_length, frames_place, frames_same, written_length, written_none, written_there, written_past, written_same, scattered}
use Rattle.audio.proofs.Places.{Each, Sized, each_map, written_each, joined_length, bytes_for_length, places_sized, places_joined, sample_at, sound_at, bytes_count, places_fit, joined_places, size_same}

-- a block's size is no `largest`
pub size_small : (k w : ℕ) → k ≤ 8 → w ≤ 65536 → k * w < largest
size_small k w h g = let m = mul-le-mul {n₁ = k} {m₁ = w} {n₂ = 8} {m₂ = 65536} h g in omega (arith, m)

-- of what was sanitized, past the end too
heard_again : (l : List Float) (i : ℕ) → finite_or_zero (get_or (map finite_or_zero l) i nan) ≡ finite_or_zero (get_or l i nan)
heard_again [] i = refl
heard_again (x ∷ l) zero = sanitized_again x
heard_again (x ∷ l) (suc i) = heard_again l i

module _ (format : Format) where
  abbrev none : List ℕ
  none = bytes_for format nan

  abbrev held_in_bytes : List (List Float) → List (List (List ℕ))
  held_in_bytes outputs = map (map (bytes_for format)) outputs

  outputs_sized : (outputs : List (List Float)) → Each (Sized (sample_bytes format)) (held_in_bytes outputs)
  outputs_sized outputs =
      each_map (Sized (sample_bytes format)) (map (bytes_for format)) (λ (f : List Float). each_map (λ (p : List ℕ). length p ≡ sample_bytes format) (bytes_for format) (bytes_for_length format) f) outputs

  written_sized : (w k n : ℕ) (bytes : List ℕ) (outputs : List (List Float)) → Sized (sample_bytes format) (written none w k n (places_of format bytes) (held_in_bytes outputs))
  written_sized w k n bytes outputs =
      written_each (λ (p : List ℕ). length p ≡ sample_bytes format) none (bytes_for_length format nan) w k n (places_of format bytes) (held_in_bytes outputs) (places_sized format bytes) (outputs_sized outputs)

  -- the places of written bytes are written places
  pub places_written : (w k n : ℕ) (bytes : List ℕ) (outputs : List (List Float)) → places_of format (written_bytes format w k n bytes outputs) ≡ written none w k n (places_of format bytes) (held_in_bytes outputs)
  unfolding written_bytes
  places_written w k n bytes outputs = places_joined format (written none w k n (places_of format bytes) (held_in_bytes outputs)) (written_sized w k n bytes outputs)

  -- outputs that agree are written alike
  pub written_bytes_same : (w k n : ℕ) (bytes : List ℕ) (a b : List (List Float)) → length a ≡ length b → ((c i : ℕ) → c < k → i < length a → get_or (get_or a i []) c nan ≡ get_or (get_or b i []) c nan)
      → written_bytes format w k n bytes a ≡ written_bytes format w k n bytes b
  unfolding written_bytes
  written_bytes_same w k n bytes a b l same =
      ap joined (written_same none w k n (places_of format bytes) (held_in_bytes a) (held_in_bytes b) (many a ∙ l ∙ sym (many b)) (λ c i h g. there a c i ∙ ap (bytes_for format) (same c i h (omega (arith, g, many a))) ∙ sym (there b c i)))
    where
      many : (x : List (List Float)) → length (held_in_bytes x) ≡ length x
      many x = length-map x (map (bytes_for format))

      there : (x : List (List Float)) (c i : ℕ) → get_or (get_or (held_in_bytes x) i []) c none ≡ bytes_for format (get_or (get_or x i []) c nan)
      there x c i = ap (λ (f : List (List ℕ)). get_or f c none) (get_or-map (map (bytes_for format)) x i []) ∙ get_or-map (bytes_for format) (get_or x i []) c nan

  -- frames read back out of the audio of a run are as good as its outputs
  pub written_bytes_back : (w k n : ℕ) (bytes : List ℕ) (before : List (List Float)) (w' m : ℕ) (run : List Float) (outputs : List (List Float)) → m ≤ w' → length outputs ≡ m → k * w' ≤ length run
      → written_bytes format w k n bytes (before ++ frames_at nan w' k 0 m (written nan w' k m run outputs)) ≡ written_bytes format w k n bytes (before ++ outputs)
  written_bytes_back w k n bytes before w' m run outputs short l a =
      written_bytes_same w k n bytes (before ++ back) (before ++ outputs) (length-append before back ∙ rw (frames_at_length nan w' k 0 m (written nan w' k m run outputs), ← l) (sym (length-append before outputs)))
      (λ c i h g. go c i h (omega (arith, g, length-append before back, frames_at_length nan w' k 0 m (written nan w' k m run outputs))) (ltb i (length before)) refl)
    where
      back : List (List Float)
      back = frames_at nan w' k 0 m (written nan w' k m run outputs)

      go : (c i : ℕ) → c < k → i < length before + m → (b : Bool) → ltb i (length before) ≡ b → get_or (get_or (before ++ back) i []) c nan ≡ get_or (get_or (before ++ outputs) i []) c nan
      go c i h g true e =
          let q = ltb-true i (length before) e in
          ap (λ (f : List Float). get_or f c nan) (get_or-append before back [] i q ∙ sym (get_or-append before outputs [] i q))
      go c i h g false e =
          let q = ltb-false i (length before) e in
          let j = i - length before in
          let x : i ≡ length before + j = omega (arith, q) in
          let s : j < m = omega (arith, g, q) in
          let y : c * w' + 0 + j ≡ c * w' + j = omega arith in
          ap (λ (p : ℕ). get_or (get_or (before ++ back) p []) c nan) x
          ∙ ap (λ (f : List Float). get_or f c nan) (get_or-append-add before back j [])
          ∙ frames_place nan w' k 0 m c j (written nan w' k m run outputs) h s
          ∙ ap (λ (p : ℕ). get_or (written nan w' k m run outputs) p nan) y
          ∙ written_there nan w' m short k c j run outputs l a h s
          ∙ ap (λ (f : List Float). get_or f c nan) (sym (get_or-append-add before outputs j []))
          ∙ ap (λ (p : ℕ). get_or (get_or (before ++ outputs) p []) c nan) (sym x)

  -- ---- in bytes that are k × w samples
  module _ (w k : ℕ) (bytes : List ℕ) (fit : size_of format bytes ≡ k * w) (small : k * w < largest) where
    places_many : length (places_of format bytes) ≡ k * w
    places_many = places_fit format bytes (k * w) fit small

    pub written_bytes_none : written_bytes format w k 0 bytes [] ≡ bytes
    unfolding written_bytes
    written_bytes_none = ap joined (written_none none w k (places_of format bytes)) ∙ joined_places format bytes (k * w) fit small

    module _ (n : ℕ) (outputs : List (List Float)) (short : n ≤ w) (m : length outputs ≡ n) where
      abbrev after : List ℕ
      after = written_bytes format w k n bytes outputs

      many : length (held_in_bytes outputs) ≡ n
      many = length-map outputs (map (bytes_for format)) ∙ m

      enough : k * w ≤ length (places_of format bytes)
      enough = omega (arith, places_many)

      pub written_bytes_length : length after ≡ length bytes
      unfolding written_bytes
      written_bytes_length =
          joined_length (sample_bytes format) (written none w k n (places_of format bytes) (held_in_bytes outputs)) (written_sized w k n bytes outputs)
          ∙ ap (λ (l : ℕ). sample_bytes format * l) (written_length none w k n (places_of format bytes) (held_in_bytes outputs) short many enough ∙ places_many)
          ∙ sym (bytes_count format bytes (k * w) fit small)

      pub written_bytes_size : size_of format after ≡ k * w
      written_bytes_size = size_same format after bytes written_bytes_length ∙ fit

      -- a sample of the written bytes
      module _ (c i : ℕ) (h : c < k) (g : i < w) where
        place : c * w + i < k * w
        place = omega (arith, places-end c k w h)

        sample_of_lem : get_or (samples_of format after) (c * w + i) nan ≡ sample_of format (get_or (written none w k n (places_of format bytes) (held_in_bytes outputs)) (c * w + i) none)
        sample_of_lem =
            sample_at format after (c * w + i) (rw (places_fit format after (k * w) written_bytes_size small) place) none
            ∙ ap (λ (l : List (List ℕ)). sample_of format (get_or l (c * w + i) none)) (places_written w k n bytes outputs)

        -- is the output, as its bytes tell it
        pub sample_there : i < n → get_or (samples_of format after) (c * w + i) nan ≡ sample_of format (bytes_for format (get_or (get_or outputs i []) c nan))
        sample_there l =
            sample_of_lem
            ∙ ap (sample_of format)
            (written_there none w n short k c i (places_of format bytes) (held_in_bytes outputs) many enough h l
            ∙ ap (λ (f : List (List ℕ)). get_or f c none) (get_or-map (map (bytes_for format)) outputs i [])
            ∙ get_or-map (bytes_for format) (get_or outputs i []) c nan)

        -- or the old one
        pub sample_past : n ≤ i → get_or (samples_of format after) (c * w + i) nan ≡ get_or (samples_of format bytes) (c * w + i) nan
        sample_past l =
            sample_of_lem
            ∙ ap (sample_of format) (written_past none w n short k c i (places_of format bytes) (held_in_bytes outputs) many enough h l g)
            ∙ sym (sample_at format bytes (c * w + i) (rw places_many place) none)

    -- frames that were not written yet are as they were
    pub samples_ahead : (first n : ℕ) (outputs : List (List Float)) → length outputs ≡ first → first + n ≤ w
        → frames_at nan w k first n (samples_of format (written_bytes format w k first bytes outputs)) ≡ frames_at nan w k first n (samples_of format bytes)
    samples_ahead first n outputs m s = frames_same nan w w k first first n (samples_of format (written_bytes format w k first bytes outputs)) (samples_of format bytes) same
      where
        same : (c i : ℕ) → c < k → i < n → get_or (samples_of format (written_bytes format w k first bytes outputs)) (c * w + first + i) nan ≡ get_or (samples_of format bytes) (c * w + first + i) nan
        same c i h g =
            let e : c * w + first + i ≡ c * w + (first + i) = omega arith in
            rw e (sample_past first outputs (omega arith) m c (first + i) h (omega arith) (omega arith))

  -- ---- a run
  -- sanitized, a run's frames are the call's
  pub gathered : (k n w first : ℕ) (bytes : List ℕ) (before after : List Float) → PlacesCarried nan k n w first (sounds_of format bytes) 32 0 before after
      → map (map finite_or_zero) (frames_at nan 32 k 0 n after) ≡ map (map finite_or_zero) (frames_at nan w k first n (samples_of format bytes))
  gathered k n w first bytes before after moved =
      sym (frames_map finite_or_zero nan 32 k 0 n after)
      ∙ frames_same (finite_or_zero nan) 32 w k 0 first n (map finite_or_zero after) (sounds_of format bytes) same
      ∙ frames_map finite_or_zero nan w k first n (samples_of format bytes)
    where
      same : (c i : ℕ) → c < k → i < n → get_or (map finite_or_zero after) (c * 32 + 0 + i) (finite_or_zero nan) ≡ get_or (sounds_of format bytes) (c * w + first + i) (finite_or_zero nan)
      same c i h g =
          get_or-map finite_or_zero after (c * 32 + 0 + i) nan
          ∙ ap finite_or_zero (moved.there c i h g)
          ∙ heard_again (samples_of format bytes) (c * w + first + i)
          ∙ sym (get_or-map finite_or_zero (samples_of format bytes) (c * w + first + i) nan)

  -- and they are sanitized already, where the call has them
  pub gathered_clean : (k n w first : ℕ) (bytes : List ℕ) (before after : List Float) → size_of format bytes ≡ k * w → k * w < largest → first + n ≤ w
      → PlacesCarried nan k n w first (sounds_of format bytes) 32 0 before after
      → (c i : ℕ) → c < k → i < n → finite_or_zero (get_or after (c * 32 + i) nan) ≡ get_or after (c * 32 + i) nan
  gathered_clean k n w first bytes before after fit small s moved c i h g =
      let inside : c * w + first + i < length (places_of format bytes) = omega (arith, places_fit format bytes (k * w) fit small, places-end c k w h) in
      let e : c * 32 + i ≡ c * 32 + 0 + i = omega arith in
      let there = ap (λ (p : ℕ). get_or after p nan) e ∙ moved.there c i h g ∙ sound_at format bytes (c * w + first + i) inside in
      ap finite_or_zero there ∙ sanitized_again (get_or (samples_of format bytes) (c * w + first + i) nan) ∙ sym there

  -- what is carried out of a run places its frames
  pub carried_placed : (k n : ℕ) (run : List Float) (w first : ℕ) (bytes after : List ℕ) → length after ≡ length bytes
      → PlacesCarried none k n 32 0 (map (bytes_for format) run) w first (places_of format bytes) (places_of format after) → Placed format k n w first (frames_at nan 32 k 0 n run) bytes after
  carried_placed k n run w first bytes after same moved = record {
    as_long = same;
    there = λ c i h g. moved.there c i h g ∙ get_or-map (bytes_for format) run (c * 32 + 0 + i) nan ∙ ap (bytes_for format) (sym (frames_place nan 32 k 0 n c i run h g));
    elsewhere = moved.elsewhere;
  }

  -- frames read back out of a run that holds outputs are as good as the outputs
  pub placed_outputs : (k n : ℕ) (run : List Float) (outputs : List (List Float)) (w first : ℕ) (bytes after : List ℕ) → n ≤ 32 → length outputs ≡ n → k * 32 ≤ length run
      → Placed format k n w first (frames_at nan 32 k 0 n (written nan 32 k n run outputs)) bytes after → Placed format k n w first outputs bytes after
  placed_outputs k n run outputs w first bytes after short m room p = record {
    as_long = p.as_long;
    there = λ c i h g. p.there c i h g ∙ ap (bytes_for format) (frames_place nan 32 k 0 n c i (written nan 32 k n run outputs) h g ∙ place c i h g);
    elsewhere = p.elsewhere;
  }
    where
      place : (c i : ℕ) → c < k → i < n → get_or (written nan 32 k n run outputs) (c * 32 + 0 + i) nan ≡ get_or (get_or outputs i []) c nan
      place c i h g =
          let e : c * 32 + 0 + i ≡ c * 32 + i = omega arith in
          rw e (written_there nan 32 n short k c i run outputs m room h g)

  -- outputs that are placed follow those that were written before
  module _ (k n w first : ℕ) (outputs : List (List Float)) (bytes after : List ℕ) (p : Placed format k n w first outputs bytes after) (short : n ≤ 32) (m : length outputs ≡ n)
      (fit : size_of format bytes ≡ k * w) (small : k * w < largest) (s : first + n ≤ w) where
    size : size_of format after ≡ k * w
    size = size_same format after bytes p.as_long ∙ fit

    -- a run that holds them
    abbrev quiet : List Float
    quiet = replicate (k * 32) nan

    room : k * 32 ≤ length quiet
    room = omega (arith, length-replicate (k * 32) nan)

    abbrev run : List Float
    run = written nan 32 k n quiet outputs

    moved : PlacesCarried none k n 32 0 (map (bytes_for format) run) w first (places_of format bytes) (places_of format after)
    moved = record {
      there = λ c i h g.
          p.there c i h g
          ∙ ap (bytes_for format) (sym (written_there nan 32 n short k c i quiet outputs m room h g) ∙ ap (λ (q : ℕ). get_or run q nan) (omega arith))
          ∙ sym (get_or-map (bytes_for format) run (c * 32 + 0 + i) nan);
      elsewhere = p.elsewhere;
    }

    joins_run : (before : List ℕ) (earlier : List (List Float)) → length earlier ≡ first → size_of format before ≡ k * w → bytes ≡ written_bytes format w k first before earlier
        → after ≡ written_bytes format w k (first + n) before (earlier ++ frames_at nan 32 k 0 n run)
    unfolding written_bytes
    joins_run before earlier o f e =
        let moved' = subst (λ (l : List (List ℕ)). PlacesCarried none k n 32 0 (map (bytes_for format) run) w first l (places_of format after)) (ap (places_of format) e ∙ places_written w k first before earlier) moved in
        let all : held_in_bytes earlier ++ frames_at none 32 k 0 n (map (bytes_for format) run) ≡ held_in_bytes (earlier ++ frames_at nan 32 k 0 n run) =
        ap (λ (l : List (List (List ℕ))). held_in_bytes earlier ++ l) (frames_map (bytes_for format) nan 32 k 0 n run) ∙ sym (map-append (map (bytes_for format)) earlier (frames_at nan 32 k 0 n run))
        in
        sym (joined_places format after (k * w) size small)
        ∙ ap joined
        (scattered none w k first n 32 (places_of format before) (held_in_bytes earlier) (map (bytes_for format) run) (places_of format after) (length-map earlier (map (bytes_for format)) ∙ o) (places_fit format before (k * w) f small) s (places_fit format after (k * w) size small) moved'
        ∙ ap (written none w k (first + n) (places_of format before)) all)

    pub placed_joins : (before : List ℕ) (earlier : List (List Float)) → length earlier ≡ first → size_of format before ≡ k * w → bytes ≡ written_bytes format w k first before earlier
        → after ≡ written_bytes format w k (first + n) before (earlier ++ outputs)
    placed_joins before earlier o f e = joins_run before earlier o f e ∙ written_bytes_back w k (first + n) before earlier 32 n quiet outputs short m room
