-- −1 dB to −4 dB at 48,000, computed: the limiter's threshold, Linear, 5 ms, −30 to 0, is exactly −4 after 8 updates and not after 7.
use mathlib.Core.Path.{◌≡◌, refl}
use mathlib.Core.Bool.{false}
use mathlib.Core.List.{List, [], ◌∷◌}
use lib.Ieee.{Float, eq, lt, le, is_nan, of_bits, to_bits, add, sub, mul, div, of_int}
use Rattle.arithmetic.specs.Number.{bits, zero}
use Rattle.arithmetic.specs.Reply.{finished, float}
use Rattle.bank.specs.Param.{fault_of}
use Rattle.bank.specs.Smoother.{steps_of, coeff_of, smoother_of, derived, slot_prepared, target_set, stepped}
use Rattle.bank.specs.Bank.{first_fault, declared_reply, slots_of, set_up_of, all_prepared, prepared, first_mapped, call_reply, call_of, turn_reply, turn_of, set_target_of, value_of, bank_after}
use Rattle.bank.specs.declared.param.ParamInfo.{ParamInfo}
use Rattle.bank.specs.declared.param.Smoothing.TheVariants.{Linear}
use Rattle.bank.specs.declared.smoother_bank.SmootherBank.{SmootherBank}

-- the threshold at −1 dB; the other places of the eight are not read
abbrev pub threshold : ParamInfo
threshold = record { id = 0; low = bits 0xc03e_0000_0000_0000; high = zero; default = bits 0xbff0_0000_0000_0000; smoothing_ms = bits 0x4014_0000_0000_0000; smoothing = Linear }

abbrev pub declarations : List ParamInfo
declarations = threshold ∷ threshold ∷ threshold ∷ threshold ∷ threshold ∷ threshold ∷ threshold ∷ threshold ∷ []

abbrev pub minus4 : Float
minus4 = bits 0xc010_0000_0000_0000

-- set up at 48,000, then the target −4
unfoldable pub aimed_bank : SmootherBank
aimed_bank = (set_target_of (set_up_of declarations 1 48000).bank 0 minus4).bank

-- −3.8, but for what the roundings on the way cost
abbrev pub after_seven : Float
after_seven = bits 0xc00e_6666_6666_6665

-- the starred row
pub minus_one_to_minus_four :
    (value_of (bank_after 8 aimed_bank) 0 ≡ finished (float minus4 ∷ [])) × (value_of (bank_after 7 aimed_bank) 0 ≡ finished (float after_seven ∷ [])) × (eq after_seven minus4 ≡ false)
unfolding aimed_bank set_up_of declared_reply first_fault fault_of slots_of smoother_of steps_of coeff_of call_of call_reply prepared all_prepared slot_prepared derived target_set bank_after turn_of turn_reply first_mapped stepped value_of of_bits to_bits le lt eq is_nan add sub mul div of_int
minus_one_to_minus_four = (refl, refl, refl)
