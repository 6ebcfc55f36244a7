-- Rows on document 02's Change 6, as the starred rows of document 01 are written. That all of them hold is one claim: `housed`, proofs/HouseRows.antt.
use Rattle.std.specs.Prelude.{ℕ, ◌+◌, ◌≡◌, true, List, [], ◌∷◌, length, replicate, Float, None}
use Rattle.std.specs.Float.{nan}
use Rattle.arithmetic.specs.Number.{bits}
use Rattle.arithmetic.specs.Reply.{finished, numbered}
use Rattle.settings.specs.Settings.{process_spec, defaults}
use Rattle.settings.specs.Derived.{row_of}
use Rattle.settings.specs.Weights.{accepted}
use Rattle.settings.specs.House.{Stretch, stretches, house_of}
use Rattle.settings.specs.declared.LimiterSettings.{LimiterSettings}
use Rattle.settings.specs.declared.ProcessSpec.{ProcessSpec}
use Rattle.limiter.specs.Stores.{Stores}
use Rattle.driver.specs.Calls.{Left, setup_of}
use Rattle.claims.specs.Rows.{stereo, looking, lent}

-- 1.52 ms: look 73 at 48,000
abbrev pub ms1·52 : Float
ms1·52 = bits 0x3ff8_51eb_851e_b852

-- a setup that asks for a house table, stereo, a largest block of 512
abbrev pub asked : ℕ → ProcessSpec
asked rate = process_spec rate 2 512 None true

abbrev pub asking : LimiterSettings → ℕ → Stores → Left
asking s rate stores = setup_of s (asked rate) stores

-- of each stretch
abbrev pub Each : (Stretch → Type 0) → List Stretch → Type 0
Each P [] = Unit {0}
Each P (s ∷ ss) = P s × Each P ss

-- a setup that asks for the house's weights finishes whatever the weights store holds, a store full of NaN among it, and leaves the house's in it, which are accepted. All else in the stores is any one value and
-- any one mark
abbrev pub Fills : Float → ℕ → Stretch → Type 0
Fills x mark s =
    (held : List Float) → length held ≡ row_of s.look
    → (let start = asking defaults s.rate (lent 2 s.look held x mark) in
    (start.reply ≡ finished []) × (start.machine.stores.weights ≡ house_of s.rate s.look) × (accepted start.machine.stores.weights ≡ true))

-- with a store one too short it gives 16
abbrev pub TooShort : Float → ℕ → Stretch → Type 0
TooShort x mark s = (held : List Float) → length held + 1 ≡ row_of s.look → (asking defaults s.rate (lent 2 s.look held x mark)).reply ≡ numbered 16

pub record HouseRows : Type 0 where
  -- each of the four looks (66, 72, 144, 288)
  pub finishes : (x : Float) (mark : ℕ) → Each (Fills x mark) stretches
  -- so too with a store full of NaN: at 48,000, where it computes
  pub finishes_nan : (x : Float) (mark : ℕ) → (asking defaults 48000 (lent 2 72 (replicate 61 nan) x mark)).reply ≡ finished []
  -- 48,000 at look 73 gives 29, whatever the stores
  pub none_fits : (stores : Stores) → (asking (looking ms1·52) 48000 stores).reply ≡ numbered 29
  -- a store one too short gives 16 where 29 does not arise; where it does, `none_fits`
  pub too_short : (x : Float) (mark : ℕ) → Each (TooShort x mark) stretches
  -- asked for nothing, a store full of NaN gives 17
  pub not_asked : (x : Float) (mark : ℕ) → (setup_of defaults (stereo None) (lent 2 72 (replicate 61 nan) x mark)).reply ≡ numbered 17
