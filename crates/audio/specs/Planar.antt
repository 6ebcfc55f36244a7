-- "Audio is planar: channel c holds frames c × frames onward": so many places a channel, frame i of channel c at c × width + i. Over samples, or over their bytes; `none` stands past a list's end.
use Rattle.std.specs.Prelude.{ℕ, zero, suc, ◌+◌, List, [], ◌∷◌, ◌++◌, map, get_or, take, drop}

-- frame i: what stands at place i of each channel
unfoldable pub frame_at : {A : Type 0} → A → ℕ → ℕ → ℕ → List A → List A
frame_at none width zero i audio = []
frame_at none width (suc channels) i audio = get_or audio i none ∷ frame_at none width channels i (drop width audio)

-- n frames, from frame i on
unfoldable pub frames_at : {A : Type 0} → A → ℕ → ℕ → ℕ → ℕ → List A → List (List A)
frames_at none width channels i zero audio = []
frames_at none width channels i (suc n) audio = frame_at none width channels i audio ∷ frames_at none width channels (i + 1) n audio

-- the first channel's part of a frame, and the other channels'
abbrev pub first_of : {A : Type 0} → A → List A → A
first_of none f = get_or f 0 none

abbrev pub others_of : {A : Type 0} → List A → List A
others_of f = drop 1 f

-- the audio with the outputs of its first n frames in their samples' places, and everything else as it was
unfoldable pub written : {A : Type 0} → A → ℕ → ℕ → ℕ → List A → List (List A) → List A
written none width zero n audio outputs = audio
written {A} none width (suc channels) n audio outputs =
    map (λ (f : List A). first_of none f) outputs
    ++ (drop n (take width audio) ++ written none width channels n (drop width audio) (map (λ (f : List A). others_of f) outputs))
