-- The house weights, document 02, Change 6: "Ship the Rust's weights for 1.5 ms at 44,100, 48,000, 96,000 and 192,000 as one constant table of 526 numbers (55, 61, 133 and 277)."
use Rattle.std.specs.Prelude.{ℕ, Bool, cond, not, ◌&&◌, List, [], ◌∷◌, take, drop, ◌==◌, Float}
use Rattle.settings.specs.Derived.{look_of, row_of}
use Rattle.settings.specs.HouseTable.{house}
use Rattle.settings.specs.declared.LimiterSettings.{LimiterSettings}
use Rattle.settings.specs.declared.ProcessSpec.{ProcessSpec}

-- a stretch of the table: the rate, the look that 1.5 ms have there, and where its L weights begin
pub record Stretch : Type 0 where
  pub rate : ℕ
  pub look : ℕ
  pub start : ℕ

abbrev pub stretch : ℕ → ℕ → ℕ → Stretch
stretch rate look start = record { rate = rate; look = look; start = start }

-- the four, end to end: 55, 61, 133 and 277 weights
abbrev pub stretches : List Stretch
stretches = stretch 44100 66 0 ∷ stretch 48000 72 55 ∷ stretch 96000 144 116 ∷ stretch 192000 288 249 ∷ []

abbrev pub house_end : ℕ
house_end = 526

-- where the stretch of a rate and look begins; the table's end where none of these has them
abbrev pub start_in : List Stretch → ℕ → ℕ → ℕ
start_in [] rate look = house_end
start_in (s ∷ ss) rate look = cond (rate == s.rate && look == s.look) s.start (start_in ss rate look)

unfoldable pub house_start : ℕ → ℕ → ℕ
house_start rate look = start_in stretches rate look

-- "the rate and look fit" one of the four
abbrev pub house_fits : ℕ → ℕ → Bool
house_fits rate look = not (house_start rate look == house_end)

-- the weights of the stretch that fits; none where none does
abbrev pub house_of : ℕ → ℕ → List Float
house_of rate look = take (row_of look) (drop (house_start rate look) house)

-- the weights of a finished setup: "Setup may be asked for a house table; the weights store is then filled from it"; else those that the store held
abbrev pub weights_for : LimiterSettings → ProcessSpec → List Float → List Float
weights_for s spec held = cond spec.house (house_of spec.rate (look_of s.lookahead_ms spec.rate)) held
