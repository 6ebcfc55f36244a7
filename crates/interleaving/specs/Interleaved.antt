-- Change 2: "Our files hold frame after frame, the limiter wants channel after channel." Interleaved, the sample of frame i, channel c stands at i × channels + c; planar, at c × frames + i.
-- Over samples, or over their bytes; `none` stands past a list's end.
use Rattle.std.specs.Prelude.{ℕ, zero, suc, ◌+◌, List, [], ◌∷◌, ◌++◌, get_or}
use Rattle.interleaving.specs.declared.calls.Direction.{Direction}
use Rattle.interleaving.specs.declared.calls.Direction.TheVariants.{Deinterleave, Interleave}

-- n places from place i on, each `step` after the one before
unfoldable pub every : {A : Type 0} → A → ℕ → ℕ → ℕ → List A → List A
every none step i zero l = []
every none step i (suc n) l = get_or l i none ∷ every none step (i + step) n l

-- n such stretches, of `rows` places each, one after the other: the first from place c on, the next from the place after it, and so on
unfoldable pub columns_from : {A : Type 0} → A → ℕ → ℕ → ℕ → ℕ → List A → List A
columns_from none step rows c zero l = []
columns_from none step rows c (suc n) l = every none step c rows l ++ columns_from none step rows (c + 1) n l

-- a table that was stored row after row, now stored column after column
abbrev pub transposed : {A : Type 0} → A → ℕ → ℕ → List A → List A
transposed none rows columns l = columns_from none columns rows 0 columns l

-- frame after frame, as channel after channel: of each channel every channels-th sample
abbrev pub deinterleaved : {A : Type 0} → A → ℕ → ℕ → List A → List A
deinterleaved none channels frames l = transposed none frames channels l

-- "and its inverse": of each frame every frames-th sample
abbrev pub interleaved : {A : Type 0} → A → ℕ → ℕ → List A → List A
interleaved none channels frames l = transposed none channels frames l

-- in either direction
abbrev pub rearranged : {A : Type 0} → A → Direction → ℕ → ℕ → List A → List A
rearranged none Deinterleave channels frames l = deinterleaved none channels frames l
rearranged none Interleave channels frames l = interleaved none channels frames l

-- the other direction
abbrev pub back : Direction → Direction
back Deinterleave = Interleave
back Interleave = Deinterleave
