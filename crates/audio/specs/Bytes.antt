-- Numbers in bytes, low byte first ("a sample being 8 bytes, low byte first"), over any number of bytes each.
use Rattle.std.specs.Prelude.{ℕ, zero, suc, ◌+◌, ◌*◌, ◌/◌, ◌%◌, List, [], ◌∷◌, ◌++◌, map, take, drop}

-- the number of these bytes
unfoldable pub word_of : List ℕ → ℕ
word_of [] = 0
word_of (b ∷ bs) = b + 256 * word_of bs

-- the lowest bytes of a number, so many
unfoldable pub bytes_of : ℕ → ℕ → List ℕ
bytes_of zero w = []
bytes_of (suc size) w = w % 256 ∷ bytes_of size (w / 256)

-- ---- many of them
-- a list cut into n parts of so many elements each: bytes into places, or samples that stand frame after frame into frames
unfoldable pub cut : {A : Type 0} → ℕ → ℕ → List A → List (List A)
cut size zero l = []
cut size (suc n) l = take size l ∷ cut size n (drop size l)

-- and joined again
unfoldable pub joined : List (List ℕ) → List ℕ
joined [] = []
joined (place ∷ places) = place ++ joined places

-- n numbers out of bytes
abbrev pub words_in : ℕ → ℕ → List ℕ → List ℕ
words_in size n bytes = map word_of (cut size n bytes)

-- the bytes of numbers
abbrev pub bytes_out : ℕ → List ℕ → List ℕ
bytes_out size ws = joined (map (bytes_of size) ws)
