-- Places carried between planar lists, and outputs placed in a call's audio: what `gather` and `scatter` promise.
use Rattle.std.specs.Prelude.{ℕ, ◌+◌, ◌*◌, ◌≤◌, ◌<◌, ◌≡◌, List, [], ◌++◌, length, get_or, take, drop, T, Float}
use Rattle.std.specs.Float.{nan}
use Rattle.std.specs.Float.Ieee.{fits}
use Rattle.audio.specs.Format.{binary_of, bytes_for, places_of}
use Rattle.audio.specs.declared.format.Format.{Format}

-- ---- places carried from one planar list to another; `none` stands past a list's end
-- n of them from one place on to another place on, and everything else as it was
pub record PlacesCopied {A : Type 0} (none : A) (n from : ℕ) (source : List A) (to : ℕ) (before after : List A) : Type 0 where
  pub there : (i : ℕ) → i < n → get_or after (to + i) none ≡ get_or source (from + i) none
  pub elsewhere : (p : ℕ) → (to ≤ p → to + n ≤ p) → get_or after p none ≡ get_or before p none

-- n frames from frame `from` of a list of `width` places a channel to frame `to` of a list of `width'` places a channel
pub record PlacesCarried {A : Type 0} (none : A) (channels n width from : ℕ) (source : List A) (width' to : ℕ) (before after : List A) : Type 0 where
  pub there : (c i : ℕ) → c < channels → i < n → get_or after (c * width' + to + i) none ≡ get_or source (c * width + from + i) none
  pub elsewhere : (p : ℕ) → ((c : ℕ) → c < channels → c * width' + to ≤ p → c * width' + to + n ≤ p) → get_or after p none ≡ get_or before p none

-- ---- bytes
-- new ones from a place on, in place of as many
abbrev pub put : List ℕ → ℕ → List ℕ → List ℕ
put bytes at new = take at bytes ++ (new ++ drop (at + length new) bytes)

-- ---- outputs in a call's audio
-- n of them, from a place on, are values of the sample type
abbrev pub Held : Format → ℕ → ℕ → List Float → Type 0
Held format n from run = (i : ℕ) → i < n → T (fits (binary_of format) (get_or run (from + i) nan))

-- so are the first n of each channel of a run
abbrev pub HeldAll : Format → ℕ → ℕ → List Float → Type 0
HeldAll format channels n run = (c : ℕ) → c < channels → Held format n (c * 32) run

-- those of n frames, from frame `first` on: each as its bytes in its sample's place, and every other place as it was
pub record Placed (format : Format) (channels n width first : ℕ) (outputs : List (List Float)) (bytes after : List ℕ) : Type 0 where
  pub as_long : length after ≡ length bytes
  pub there : (c i : ℕ) → c < channels → i < n
      → get_or (places_of format after) (c * width + first + i) (bytes_for format nan) ≡ bytes_for format (get_or (get_or outputs i []) c nan)
  pub elsewhere : (p : ℕ) → ((c : ℕ) → c < channels → c * width + first ≤ p → c * width + first + n ≤ p)
      → get_or (places_of format after) p (bytes_for format nan) ≡ get_or (places_of format bytes) p (bytes_for format nan)
