-- The claim is false of each of the nine limiters of specs/SetupControls.antt: a setup, in 4 to 6 a call after it, and the one place of the claim that two constants contradict.
use Prim.Native.Nat.{ℕ}
use mathlib.Core.Path.{refl, ap}
use mathlib.Core.Bool.{true, false}
use mathlib.Core.List.{[], ◌∷◌}
use native.Mathlib.Omega.{arith}
use lib.ListN.{get_or, drop, replicate}
use lib.Ieee.{nan, binary64, of_bits, to_bits, lt, le, mul, of_int}
use borrow.Author.Tests.{eqb-false}
use Rattle.std.proofs.Common.{Some, None}
use Rattle.arithmetic.specs.Number
use Rattle.arithmetic.specs.Number.{bits, one}
use Rattle.arithmetic.specs.Reply.{Value, count, float, Reply}
use Rattle.audio.specs.declared.format.Format.TheVariants.{F64}
use Rattle.settings.specs.Settings.{settings_of, all_count, process_spec, defaults}
use Rattle.settings.specs.Weights.{accepted}
use Rattle.settings.specs.HouseTable.{house, at44100, at48000, at96000, at192000}
use Rattle.settings.specs.House.{house_start}
use Rattle.limiter.specs.Stores.{Stores, stores_at}
use Rattle.limiter.specs.Prepare.{prepare_of}
use Rattle.bank.specs.Param.{fault_of}
use Rattle.bank.specs.Smoother.{smoother_of}
use Rattle.bank.specs.Bank.{first_fault, declared_reply, slots_of, set_up_of}
use Rattle.driver.specs.Calls.{setup_of}
use Rattle.claims.specs.Session.{block, parameter}
use Rattle.claims.specs.Claim.{Claim}
use Rattle.claims.specs.Table.{first_arising, parameter_rows}
use Rattle.claims.specs.Rows.{stereo, lent}
use Rattle.claims.specs.HouseRows.{ms1·52}
use Rattle.claims.specs.SetupControls.{margin_first, whole_cap_told, zero_uncapped, stays_set_up, empty_unjudged, value_first, lopsided_taken, lengths_first, house_late}
use Rattle.claims.proofs.ControlsStart.{calling, settings_in, spec_in, mono}

-- a value that is a count
abbrev count_of : Value → ℕ
count_of (count n) = n
count_of (float x) = 0

-- opened where setup replies
unfoldable setting_up : Type 0
unfolding setup_of prepare_of accepted set_up_of declared_reply first_fault fault_of slots_of smoother_of of_bits lt le mul of_int
setting_up = ⊥

-- opened where the table does
unfoldable tabled : Type 0
unfolding first_arising parameter_rows
tabled = ⊥

abbrev no_stores : Stores
no_stores = stores_at [] [] [] [] [] []

-- 1: rate 0 and a margin of −1 dB
pub no_margin_first : Claim margin_first → ⊥
unfolding setting_up tabled
no_margin_first claim =
    eqb-false 9 8 refl
    (ap (λ (r : Reply). r.number) (claim.setup_answered (settings_of Number.zero (bits 0xbff0_0000_0000_0000) one one all_count) (process_spec 0 1 64 None false) no_stores))

-- 2: the starred row, a cap of 4,335: the cap left is 4,255
pub no_whole_cap_told : Claim whole_cap_told → ⊥
unfolding setting_up tabled
no_whole_cap_told claim =
    eqb-false 4335 4255 refl (ap (λ (r : Reply). count_of (get_or r.values 1 (count 0))) (claim.setup_answered defaults (stereo (Some 4335)) no_stores))

-- 3: a cap of 0 is over by the bank's bytes alone: 7, where the stores' lengths are the first that this limiter refuses
pub no_zero_uncapped : Claim zero_uncapped → ⊥
unfolding setting_up tabled
no_zero_uncapped claim = eqb-false 16 7 refl (ap (λ (r : Reply). r.number) (claim.setup_answered defaults (stereo (Some 0)) no_stores))

-- 4: a weight of 0 is refused, and then a parameter call is finished
abbrev no_weight : Stores
no_weight = stores_at (replicate 11 Number.zero) (replicate 12 0) (replicate 12 Number.zero) (Number.zero ∷ []) (one ∷ []) (replicate 12 Number.zero)

pub no_stays_set_up : Claim stays_set_up → ⊥
unfolding setting_up calling
no_stays_set_up claim =
    eqb-false 0 18 refl (ap (λ (r : Reply). r.number) (claim.refused_after (settings_in mono) (spec_in mono) no_weight (λ z. omega arith) (parameter 0 Number.zero ∷ [])).0.reply)

-- 5: rate 0 is refused, and then a block of no frames is finished
pub no_empty_unjudged : Claim empty_unjudged → ⊥
unfolding setting_up
no_empty_unjudged claim =
    eqb-false 0 18 refl
    (ap (λ (r : Reply). r.number) (claim.refused_after defaults (process_spec 0 1 64 None false) no_stores (λ z. omega arith) (block F64 0 0 [] [] ∷ [])).0.reply)

-- 6: and then a NaN for the threshold is told
pub no_value_first : Claim value_first → ⊥
unfolding setting_up
no_value_first claim =
    eqb-false 23 18 refl
    (ap (λ (r : Reply). r.number) (claim.refused_after defaults (process_spec 0 1 64 None false) no_stores (λ z. omega arith) (parameter 0 nan ∷ [])).0.reply)

-- 7: look 14, mono; weights of 1/8, 1/4 and 5/8, which sum up and rise late
abbrev late : Stores
late =
    stores_at (replicate 14 Number.zero) (replicate 15 0) (replicate 15 Number.zero) (bits 0x3fc0_0000_0000_0000 ∷ bits 0x3fd0_0000_0000_0000 ∷ bits 0x3fe4_0000_0000_0000 ∷ [])
    (replicate 3 one) (replicate 12 Number.zero)

pub no_lopsided_taken : Claim lopsided_taken → ⊥
unfolding setting_up tabled
no_lopsided_taken claim =
    eqb-false 0 17 refl
    (ap (λ (r : Reply). r.number) (claim.setup_answered (settings_of Number.zero Number.zero (bits 0x3ffc_0000_0000_0000) Number.zero all_count) (spec_in mono) late))

-- 8: a house table asked for at 48,000, look 73 (1.52 ms), on no stores at all
pub no_lengths_first : Claim lengths_first → ⊥
unfolding setting_up tabled house_start
no_lengths_first claim =
    eqb-false 16 29 refl
    (ap (λ (r : Reply). r.number) (claim.setup_answered (settings_of Number.zero Number.zero ms1·52 Number.zero all_count) (process_spec 48000 1 64 None true) no_stores))

-- 9: at 48,000, look 72: the first weight, of which the bits are compared
pub no_house_late : Claim house_late → ⊥
unfolding setting_up house_start house at44100 at48000 at96000 at192000 to_bits
no_house_late claim =
    eqb-false (to_bits binary64 (get_or (drop 56 house) 0 nan)) (to_bits binary64 (get_or (drop 55 house) 0 nan)) refl
    (ap (λ (t : Stores). to_bits binary64 (get_or t.weights 0 nan)) (claim.setup_fills defaults (process_spec 48000 1 64 None true) (lent 1 72 (replicate 61 nan) Number.zero 0) refl))
