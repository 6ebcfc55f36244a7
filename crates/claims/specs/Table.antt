-- DOCUMENT 01's TABLE FOR SETUP, read off it: rows 1 to 17 in its order ("Bank setup", then "Limiter setup, after that"), and document 02's 29 just before 16, each with the condition under which it
-- arises, in the documents' own words, and the values that go with its number. `Claim.setup_answered` holds setup to it.
--
-- It is a definition of its own: it shares no test, count or constant with those that setup is defined by, but for what the table only names, look (`look_of`), L (`row_of`) and the weights rule (`accepted`,
-- document 01's sentence over a list), and IEEE's comparisons (`finite`, `lt`): neither a NaN nor an infinity is finite, and −0.0 is neither negative nor above 0.
use Rattle.std.specs.Prelude.{ℕ, suc, ◌+◌, ◌-◌, ◌*◌, ◌<◌, ◌≡◌, Bool, true, false, cond, not, ◌&&◌, ◌||◌, List, [], ◌∷◌, ◌++◌, map, eqb, ltb, length, take, get_or, Float, Option, Some, None}
use Rattle.std.specs.Float.Ieee.{lt}
use Rattle.std.specs.Float.Ieee.Scale.{finite}
use Rattle.arithmetic.specs.Number
use Rattle.arithmetic.specs.Number.{bits}
use Rattle.arithmetic.specs.Reply.{Value, count, Reply, finished, refused}
use Rattle.settings.specs.Derived.{look_of, row_of}
use Rattle.settings.specs.Weights.{accepted}
use Rattle.settings.specs.declared.LimiterSettings.{LimiterSettings}
use Rattle.settings.specs.declared.ProcessSpec.{ProcessSpec}
use Rattle.limiter.specs.Stores.{Stores}
use Rattle.bank.specs.declared.param.ParamInfo.{ParamInfo}
use Rattle.bank.specs.declared.param.Smoothing.TheVariants.{Linear}

-- ---- a table
pub record Row : Type 0 where
  pub arises : Bool
  pub number : ℕ
  pub values : List Value

abbrev pub row : Bool → ℕ → List Value → Row
row arises number values = record { arises = arises; number = number; values = values }

-- what a call replies by it: the first row that arises; where none does, the work is finished
unfoldable pub first_arising : List Row → Reply
first_arising [] = finished []
first_arising (r ∷ rows) = cond r.arises (refused r.number r.values) (first_arising rows)

-- ---- the floats that it names, by their bits
-- −30
abbrev pub minus30 : Float
minus30 = bits 0xc03e_0000_0000_0000

-- 30
abbrev pub plus30 : Float
plus30 = bits 0x403e_0000_0000_0000

-- 10,000
abbrev pub ten_thousand : Float
ten_thousand = bits 0x40c3_8800_0000_0000

-- 0.01
abbrev pub hundredth : Float
hundredth = bits 0x3f84_7ae1_47ae_147b

-- 5
abbrev pub five : Float
five = bits 0x4014_0000_0000_0000

-- ---- bank setup
-- "by parameter, with its index", from an index on
unfoldable pub parameter_rows : ℕ → List ParamInfo → List Row
parameter_rows index [] = []
parameter_rows index (p ∷ ps) =
    -- "2 id not its index"
    row (not (eqb p.id index)) 2 (count index ∷ [])
    -- "3 range not finite or reversed"
    ∷ row (not (finite p.low) || not (finite p.high) || lt p.high p.low) 3 (count index ∷ [])
    -- "4 default not finite"
    ∷ row (not (finite p.default)) 4 (count index ∷ [])
    -- "5 default outside the range"
    ∷ row (lt p.default p.low || lt p.high p.default) 5 (count index ∷ [])
    -- "6 smoothing time not finite, not above 0, over 10,000 ms"
    ∷ row (not (finite p.smoothing_ms) || not (lt Number.zero p.smoothing_ms) || lt ten_thousand p.smoothing_ms) 6 (count index ∷ [])
    ∷ parameter_rows (suc index) ps

-- n parameters, declared by the first n of these: "1 over 8 parameters; then by parameter"
abbrev pub bank_rows : ℕ → List ParamInfo → List Row
bank_rows n declarations = row (ltb 8 n) 1 [] ∷ parameter_rows 0 (take n declarations)

-- "the limiter's threshold is Linear, 5 ms, −30 to 0", its one parameter, whose default is the settings' threshold. So 4 and 5 judge that, and 1, 2, 3 and 6 cannot arise (`NeverHere`): one is not
-- over 8, id 0 is index 0, −30 to 0 is finite and not reversed, 5 ms is above 0 and not over 10,000.
abbrev pub threshold_declared : LimiterSettings → ParamInfo
threshold_declared s = record { id = 0; low = minus30; high = Number.zero; default = s.threshold_db; smoothing_ms = five; smoothing = Linear }

-- ---- limiter setup, after that
-- so many bytes over a cap, with needed and cap; "No cap means no limit"
abbrev pub over_cap : ℕ → ℕ → Option ℕ → Row
over_cap number need None = row false number []
over_cap number need (Some cap) = row (ltb cap need) number (count need ∷ count cap ∷ [])

-- "80 per bank parameter"
abbrev pub bank_needs : ℕ
bank_needs = 80 * 1

-- "Bytes needed: 8 × (channels × look + 2 × (look + 1) + 2 × L + 60 × channels)"
abbrev pub limiter_needs : ℕ → ℕ → ℕ
limiter_needs channels look = 8 * (channels * look + 2 * (look + 1) + 2 * row_of look + 60 * channels)

-- "The bank's bytes are taken first; the limiter's cap is the rest"
abbrev pub rest : Option ℕ → Option ℕ
rest None = None
rest (Some cap) = Some (cap - bank_needs)

-- a number is not from lo to hi
abbrev pub outside : ℕ → ℕ → ℕ → Bool
outside lo hi n = ltb n lo || ltb hi n

-- "the rate and look fit none of the four": 1.5 ms at 44,100, 48,000, 96,000 and 192,000
abbrev pub fits_none : ℕ → ℕ → Bool
fits_none rate look =
    not (eqb rate 44100 && eqb look 66 || eqb rate 48000 && eqb look 72 || eqb rate 96000 && eqb look 144 || eqb rate 192000 && eqb look 288)

-- a store does not have the length that is due
abbrev pub other_length : {A : Type 0} → List A → ℕ → Bool
other_length store due = not (eqb (length store) due)

abbrev pub limiter_rows : LimiterSettings → ProcessSpec → Stores → List Row
limiter_rows s spec stores =
    let margin = s.true_peak_margin_db in
    let lookahead = s.lookahead_ms in
    let release = s.release_ms in
    let channels = spec.channels in
    let look = look_of lookahead spec.rate in
    -- "7 bank over the cap, with needed and cap"
    over_cap 7 bank_needs spec.cap
    -- "8 rate outside 8,000 to 192,000"
    ∷ row (outside 8000 192000 spec.rate) 8 []
    -- "9 margin not finite, negative, over 30 dB"
    ∷ row (not (finite margin) || lt margin Number.zero || lt plus30 margin) 9 []
    -- "10 lookahead not finite or not above 0"
    ∷ row (not (finite lookahead) || not (lt Number.zero lookahead)) 10 []
    -- "11 release not finite, negative, over 10,000, or above 0 and below 0.01"
    ∷ row (not (finite release) || lt release Number.zero || lt ten_thousand release || lt Number.zero release && lt release hundredth) 11 []
    -- "12 look under 11 or over 4,096"
    ∷ row (outside 11 4096 look) 12 []
    -- "13 channels not 1 to 8"
    ∷ row (outside 1 8 channels) 13 []
    -- "14 largest block over 65,536"
    ∷ row (ltb 65536 spec.max_block) 14 []
    -- "15 over the cap left, with needed and that cap"
    ∷ over_cap 15 (limiter_needs channels look) (rest spec.cap)
    -- Change 6: "29 when a house table is asked for and the rate and look fit none of the four, checked just before 16"
    ∷ row (spec.house && fits_none spec.rate look) 29 []
    -- "16 a store's length": "delay channels × look; marks (u64) look + 1; minima look + 1; weights L; attack row L; detector channels × 12"
    ∷ row
    (other_length stores.delay (channels * look) || other_length stores.marks (look + 1) || other_length stores.minima (look + 1) || other_length stores.weights (row_of look)
    || other_length stores.row (row_of look) || other_length stores.detector (channels * 12)) 16 []
    -- "17 weights not accepted"; Change 6: where a house table is asked for, "17 doesn't judge what it held"
    ∷ row (not spec.house && not (accepted stores.weights)) 17 []
    ∷ []

-- ---- the whole, eighteen rows
abbrev pub setup_table : LimiterSettings → ProcessSpec → Stores → List Row
setup_table s spec stores = bank_rows 1 (threshold_declared s ∷ []) ++ limiter_rows s spec stores

-- ---- how a table is read (laws: proofs/Table.antt)
-- the row at a place from 0 on
abbrev pub row_at : List Row → ℕ → Row
row_at rows i = get_or rows i (row false 0 [])

-- the numbers, in the table's order
abbrev pub numbers_of : List Row → List ℕ
numbers_of rows = map (λ (r : Row). r.number) rows

-- those of setup
abbrev pub setup_numbers : List ℕ
setup_numbers = 1 ∷ 2 ∷ 3 ∷ 4 ∷ 5 ∷ 6 ∷ 7 ∷ 8 ∷ 9 ∷ 10 ∷ 11 ∷ 12 ∷ 13 ∷ 14 ∷ 15 ∷ 29 ∷ 16 ∷ 17 ∷ []

-- it arises, and none before it does
pub record ArisesFirst (rows : List Row) (i : ℕ) : Type 0 where
  pub arises : (row_at rows i).arises ≡ true
  pub before : (j : ℕ) → j < i → (row_at rows j).arises ≡ false

pub record ReadOff (rows : List Row) (reply : Reply) : Type 0 where
  -- a number is replied exactly where its row is the first that arises, and then with that row's values
  pub replied : (i : ℕ) → ArisesFirst rows i → reply ≡ refused (row_at rows i).number (row_at rows i).values
  pub arisen : (i : ℕ) → i < length rows → reply.number ≡ (row_at rows i).number → ArisesFirst rows i
  -- the work is finished exactly where none arises
  pub passes : ((i : ℕ) → (row_at rows i).arises ≡ false) → reply ≡ finished []
  pub passed : reply.number ≡ 0 → (i : ℕ) → (row_at rows i).arises ≡ false

-- rows 1, 2, 3 and 6 of the limiter's setup
pub record NeverHere (rows : List Row) : Type 0 where
  pub row_1 : (row_at rows 0).arises ≡ false
  pub row_2 : (row_at rows 1).arises ≡ false
  pub row_3 : (row_at rows 2).arises ≡ false
  pub row_6 : (row_at rows 5).arises ≡ false
