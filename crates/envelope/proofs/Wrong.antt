-- Inputs at which the wrong programs of ARCHITECTURE.md's table would answer otherwise: each row computes what the definition answers there, and its comment names the wrong program.
use mathlib.Core.Path.{◌≡◌, refl}
use mathlib.Core.Bool.{true, false}
use mathlib.Core.List.{[], ◌∷◌}
use lib.ListN.{replicate}
use lib.Ieee.{Float, add, sub, mul, lt, le, ne, eq, of_bits}
use Rattle.arithmetic.specs.Number
use Rattle.arithmetic.specs.Number.{bits, one}
use Rattle.keeper.specs.Keeper.{keeping_at, fresh_keeper, stepped_of}
use Rattle.envelope.specs.Row.{pushed, rowed_at, row_in_order}
use Rattle.envelope.specs.Mean.{mean_of}
use Rattle.envelope.specs.Follow.{followed}
use Rattle.envelope.specs.Run.{means_of, followed_all}
use Rattle.envelope.specs.Step.{Enveloped, enveloped, gain_step_of}

abbrev quarter : Float
quarter = bits 0x3fd0_0000_0000_0000

abbrev half : Float
half = bits 0x3fe0_0000_0000_0000

abbrev three_quarters : Float
three_quarters = bits 0x3fe8_0000_0000_0000

-- ---- the row
-- the tally one off, which is 1 here; the position not taken round, which would be 2
pub push_at_the_end : pushed (record { pos = 1; tally = 0 }) (one ∷ one ∷ []) half ≡ rowed_at (record { pos = 0; tally = 1 }) (one ∷ half ∷ [])
unfolding pushed ne eq of_bits
push_at_the_end = refl

-- a tally that is not taken down where a 1 replaces another floor: 2
pub tally_down : (pushed (record { pos = 0; tally = 2 }) (half ∷ half ∷ []) one).state.tally ≡ 1
unfolding pushed ne eq of_bits
tally_down = refl

-- in order: an untrue tally taken, and a position of L taken
pub row_judged :
    (row_in_order (record { pos = 1; tally = 1 }) (one ∷ half ∷ []) ≡ true)
    × (row_in_order (record { pos = 1; tally = 0 }) (one ∷ half ∷ []) ≡ false)
    × (row_in_order (record { pos = 2; tally = 1 }) (one ∷ half ∷ []) ≡ false)
unfolding row_in_order ne eq le of_bits
row_judged = (refl, refl, refl)

-- ---- the mean
-- 1.0 where only the newest is 1: 0.75 × 1 + 0.25 × 0.5. Weights read in reverse: 0.625
pub mean_of_two : mean_of (three_quarters ∷ quarter ∷ []) (one ∷ half ∷ []) ≡ bits 0x3fec_0000_0000_0000
unfolding mean_of ne eq add mul of_bits
mean_of_two = refl

-- ---- the gain
-- operands of (mean − gain) exchanged: 0.25 for 0.5 + (1 − 0.5) × 0.5
pub release_up : followed half one half ≡ three_quarters
unfolding followed add sub mul lt le of_bits
release_up = refl

-- a gain of 0 always: at once down to the mean
pub attack_at_once : followed one quarter half ≡ quarter
unfolding followed add sub mul lt le of_bits
attack_at_once = refl

-- a gain left outside 0 and 1: a mean of 2, by a weight of another sum, at a coefficient of 1
pub gain_kept_unit : followed one (bits 0x4000_0000_0000_0000) one ≡ one
unfolding followed add sub mul lt le of_bits
gain_kept_unit = refl

-- ---- a run
-- 0.5 − 2^−54: two such weights add up to less than 1
abbrev short : Float
short = bits 0x3fdf_ffff_ffff_ffff

-- each floor pushed into the run's first row: a second mean of 0.75 × 1 + 0.25 × 1. The mean of the row before the push: 1 and then 0.625
pub means_in_turn_lem :
    (means_of (three_quarters ∷ quarter ∷ []) (rowed_at (record { pos = 0; tally = 0 }) (one ∷ one ∷ [])) (half ∷ one ∷ [])).means
    ≡ bits 0x3fe4_0000_0000_0000 ∷ bits 0x3fec_0000_0000_0000 ∷ []
unfolding means_of pushed mean_of ne eq add mul of_bits
means_in_turn_lem = refl

-- the sum where every floor is 1: 1 − 2^−53. The position left where it was
pub still_row :
    ((means_of (short ∷ short ∷ []) (rowed_at (record { pos = 1; tally = 0 }) (one ∷ one ∷ [])) (one ∷ [])).means ≡ one ∷ [])
    × ((means_of (short ∷ short ∷ []) (rowed_at (record { pos = 1; tally = 0 }) (one ∷ one ∷ [])) (one ∷ [])).rowed.state.pos ≡ 0)
unfolding means_of pushed mean_of ne eq add mul of_bits
still_row = (refl, refl)

-- each gain from the run's first: 0.25 and then 0.5 + 0.5 × 0.5, which is 0.75. The mean itself where the gain rises: 1
pub gains_in_turn : (followed_all half half (quarter ∷ one ∷ [])).gains ≡ quarter ∷ bits 0x3fe4_0000_0000_0000 ∷ []
unfolding followed_all followed add sub mul lt le of_bits
gains_in_turn = refl

-- ---- one gain step
-- look 11, two weights, before any frame
abbrev start : Enveloped
start = enveloped (keeping_at (fresh_keeper 11) (replicate 12 0) (replicate 12 Number.zero)) (rowed_at (record { pos = 0; tally = 0 }) (one ∷ one ∷ [])) one

-- the mean taken before the floor is in the row: 1. The required gain itself in the place of the mean: 0.5
pub floor_then_mean :
    ((gain_step_of (three_quarters ∷ quarter ∷ []) one start half).mean ≡ bits 0x3fe4_0000_0000_0000)
    × ((gain_step_of (three_quarters ∷ quarter ∷ []) one start half).env.gain ≡ bits 0x3fe4_0000_0000_0000)
unfolding gain_step_of stepped_of pushed mean_of followed ne eq add sub mul lt le of_bits
floor_then_mean = (refl, refl)
