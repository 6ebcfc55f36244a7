-- Inputs at which the wrong programs of ARCHITECTURE.md's table would answer otherwise: each row computes what the definition answers there, and its comment names the wrong program.
use Prim.Native.Nat.{ℕ}
use mathlib.Core.Path.{◌≡◌, refl}
use mathlib.Core.Bool.{true, false}
use mathlib.Core.List.{List, [], ◌∷◌}
use lib.Ieee.{Float, nan, inf, add, sub, mul, div, lt, le, eq, is_nan, of_int, of_bits, to_bits}
use Rattle.arithmetic.specs.Number.{bits, zero}
use Rattle.arithmetic.specs.Reply.{refused, finished, count, float}
use Rattle.bank.specs.Param.{fault_of}
use Rattle.bank.specs.Smoother.{steps_of, coeff_of, smoother_of, changed, derived, slot_prepared, target_set, immediate_set, stepped, reset_one}
use Rattle.bank.specs.Bank.{unset, first_fault, declared_reply, slots_of, set_up_of, all_prepared, prepared, call_reply, call_of, set_immediate_of, first_mapped, slot_mapped, value_of}
use Rattle.bank.specs.Words.{smoother_in, smoother_out, half_in}
use Rattle.bank.specs.declared.param.ParamInfo.{ParamInfo}
use Rattle.bank.specs.declared.param.Smoothing.TheVariants.{Linear}
use Rattle.bank.specs.declared.smoother.Smoother.{Smoother}
use Rattle.bank.specs.declared.smoother_bank.SmootherBank.{SmootherBank}
use Rattle.bank.proofs.Rows.{threshold, declarations, minus4}

abbrev lowest : Float
lowest = bits 0xc03e_0000_0000_0000

abbrev minus40 : Float
minus40 = bits 0xc044_0000_0000_0000

-- the threshold of Rows.antt with another id, range and default
abbrev declared : ℕ → Float → Float → Float → ParamInfo
declared id low high default = record { id = id; low = low; high = high; default = default; smoothing_ms = threshold.smoothing_ms; smoothing = Linear }

abbrev two : ParamInfo → ParamInfo → List ParamInfo
two p q = p ∷ q ∷ threshold ∷ threshold ∷ threshold ∷ threshold ∷ threshold ∷ threshold ∷ []

unfoldable numbers : Type 0
unfolding of_bits to_bits le lt eq is_nan add sub mul div of_int
numbers = ⊥

-- ---- setup
-- the last fault reported instead of the first: 3 at 1. Here the first parameter's id is 1, and the second's range is reversed
pub first_fault_lem : declared_reply (two (declared 1 lowest zero minus4) (declared 1 zero lowest minus4)) 2 ≡ refused 2 (count 0 ∷ [])
unfolding declared_reply first_fault fault_of numbers
first_fault_lem = refl

-- a range of two infinities taken
pub infinite_range : fault_of 0 (declared 0 (inf true) (inf false) minus4) ≡ 3
unfolding fault_of numbers
infinite_range = refl

-- a refused setup that leaves a bank: the bank is the one that was never set up
pub refused_unset : (set_up_of (two (declared 1 lowest zero minus4) threshold) 1 48000).bank ≡ unset
unfolding set_up_of declared_reply first_fault fault_of numbers
refused_unset = refl

-- a new smoother at its low end, or with its steps in frames: 240
pub new_at_default : ((smoother_of 48000 threshold).cur ≡ threshold.default) × ((smoother_of 48000 threshold).steps ≡ bits 0x401e_0000_0000_0000)
unfolding smoother_of steps_of coeff_of numbers
new_at_default = (refl, refl)

-- ---- 18
-- a bank that was never set up taken, and a coefficient that is not the settings' own
pub bank_judged : (prepared unset ≡ false) × (slot_prepared 48000 0 (smoother_of 8000 threshold) ≡ false)
unfolding prepared slot_prepared derived fault_of smoother_of steps_of coeff_of numbers
bank_judged = (refl, refl)

-- ---- targets, values, updates
-- the threshold at −1 dB on its way to −4, three updates left, by steps of 0.5
abbrev on_its_way : Smoother
on_its_way = changed (bits 0xbff0_0000_0000_0000) minus4 3 (bits 0x3fe0_0000_0000_0000) (smoother_of 48000 threshold)

-- a restart at an equal target: 8 updates
pub no_restart : (target_set minus4 on_its_way).updates_remaining ≡ 3
unfolding target_set smoother_of steps_of coeff_of numbers
no_restart = refl

-- a target kept outside its range: −40
pub target_in_range_lem : (target_set minus40 on_its_way).target ≡ lowest
unfolding target_set smoother_of steps_of coeff_of numbers
target_in_range_lem = refl

-- an immediate value that leaves the ramp going, or is kept outside its range
pub immediate_lands : ((immediate_set minus40 on_its_way).cur ≡ lowest) × ((immediate_set minus40 on_its_way).updates_remaining ≡ 0)
unfolding immediate_set smoother_of steps_of coeff_of numbers
immediate_lands = (refl, refl)

-- a ramp that goes on after reset
pub ramp_ends : ((reset_one on_its_way).cur ≡ bits 0xbff0_0000_0000_0000) × ((reset_one on_its_way).updates_remaining ≡ 0)
unfolding reset_one smoother_of steps_of coeff_of numbers
ramp_ends = (refl, refl)

-- the final clamp left out: a target of −40, which 18 does not judge, would be reached
pub update_in_range : (stepped (changed zero minus40 1 zero (smoother_of 48000 threshold))).cur ≡ lowest
unfolding stepped smoother_of steps_of coeff_of numbers
update_in_range = refl

-- the last update by the step instead of landing: −1.5
pub last_update_lands : (stepped (changed (bits 0xbff0_0000_0000_0000) minus4 1 (bits 0x3fe0_0000_0000_0000) (smoother_of 48000 threshold))).cur ≡ minus4
unfolding stepped smoother_of steps_of coeff_of numbers
last_update_lands = refl

-- ---- calls
-- a slot past the count changed, or another than the one named
pub other_slots_left : (f : Smoother → Smoother) (s t : Smoother) → (first_mapped f 1 (s ∷ t ∷ []) ≡ f s ∷ t ∷ []) × (slot_mapped f 1 (s ∷ t ∷ []) ≡ s ∷ f t ∷ [])
unfolding first_mapped
other_slots_left f s t = (refl, refl)

abbrev bank : SmootherBank
bank = (set_up_of declarations 1 48000).bank

unfoldable calling : Type 0
unfolding set_up_of declared_reply first_fault slots_of smoother_of call_of call_reply prepared all_prepared slot_prepared derived fault_of steps_of coeff_of immediate_set value_of numbers
calling = ⊥

-- a NaN stored instead of 23; 24 before 23, at the unknown id 1
pub nan_refused :
    ((set_immediate_of bank 0 nan).reply ≡ refused 23 (count 0 ∷ float nan ∷ []))
    × ((set_immediate_of bank 1 nan).reply ≡ refused 23 (count 1 ∷ float nan ∷ []))
    × (value_of (set_immediate_of bank 0 nan).bank 0 ≡ finished (float (bits 0xbff0_0000_0000_0000) ∷ []))
unfolding calling
nan_refused = (refl, refl, refl)

-- a slot past the count read: 0.0
pub past_the_count : value_of bank 1 ≡ refused 24 []
unfolding calling
past_the_count = refl

-- ---- words
-- value and target exchanged, or a word lost: twelve words there and back
pub twelve_words : smoother_in (smoother_out on_its_way) 0 ≡ on_its_way
unfolding smoother_of steps_of coeff_of numbers
twelve_words = refl

-- a number above 2^32 cut at 64 bits
pub low_half : half_in (0x1_0000_0007 ∷ []) 0 ≡ 7
low_half = refl
