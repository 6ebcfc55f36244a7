-- The table for setup at the edges of its rows, computed: the defaults at 48,000, stereo, with one thing changed, on no stores at all, so that 16 is replied where nothing before it arises.
use mathlib.Core.Path.{◌≡◌, refl}
use mathlib.Core.Bool.{true, false}
use mathlib.Core.List.{[], ◌∷◌, map}
use lib.Ieee.{Float, nan, inf, of_bits, lt, mul, of_int}
use Rattle.std.proofs.Common.{Some, None}
use Rattle.arithmetic.specs.Number
use Rattle.arithmetic.specs.Number.{bits}
use Rattle.arithmetic.specs.Reply.{Reply, refused, numbered, count}
use Rattle.settings.specs.Settings.{settings_of, all_count, process_spec, defaults}
use Rattle.settings.specs.declared.LimiterSettings.{LimiterSettings}
use Rattle.settings.specs.declared.ProcessSpec.{ProcessSpec}
use Rattle.limiter.specs.Stores.{stores_at}
use Rattle.claims.specs.Table.{first_arising, parameter_rows, setup_table}

abbrev reply_to : LimiterSettings → ProcessSpec → Reply
reply_to s spec = first_arising (setup_table s spec (stores_at [] [] [] [] [] []))

abbrev set_to : LimiterSettings → Reply
set_to s = reply_to s (process_spec 48000 2 512 None false)

abbrev minus_zero : Float
minus_zero = bits 0x8000_0000_0000_0000

-- 4 and 5 with the index: NaN, an infinity; the least above 0, 1 ulp below −30; −30, −0.0 and 0 pass
thresholds : map (λ (x : Float). set_to (settings_of x defaults.true_peak_margin_db defaults.lookahead_ms defaults.release_ms all_count))
    (nan ∷ inf true ∷ bits 1 ∷ bits 0xc03e_0000_0000_0001 ∷ bits 0xc03e_0000_0000_0000 ∷ minus_zero ∷ Number.zero ∷ [])
    ≡ refused 4 (count 0 ∷ []) ∷ refused 4 (count 0 ∷ []) ∷ refused 5 (count 0 ∷ []) ∷ refused 5 (count 0 ∷ []) ∷ numbered 16 ∷ numbered 16 ∷ numbered 16 ∷ []
unfolding first_arising parameter_rows of_bits lt mul of_int
thresholds = refl

-- 9: NaN, an infinity, the least below 0, 1 ulp above 30; 30 and −0.0 pass
margins : map (λ (x : Float). set_to (settings_of defaults.threshold_db x defaults.lookahead_ms defaults.release_ms all_count))
    (nan ∷ inf false ∷ bits 0x8000_0000_0000_0001 ∷ bits 0x403e_0000_0000_0001 ∷ bits 0x403e_0000_0000_0000 ∷ minus_zero ∷ [])
    ≡ numbered 9 ∷ numbered 9 ∷ numbered 9 ∷ numbered 9 ∷ numbered 16 ∷ numbered 16 ∷ []
unfolding first_arising parameter_rows of_bits lt mul of_int
margins = refl

-- 10: NaN, an infinity, both zeros; then 12: the least above 0 gives look 1, 1e300 the largest number
lookaheads : map (λ (x : Float). set_to (settings_of defaults.threshold_db defaults.true_peak_margin_db x defaults.release_ms all_count))
    (nan ∷ inf false ∷ Number.zero ∷ minus_zero ∷ bits 1 ∷ bits 0x7e37_e43c_8800_759c ∷ [])
    ≡ numbered 10 ∷ numbered 10 ∷ numbered 10 ∷ numbered 10 ∷ numbered 12 ∷ numbered 12 ∷ []
unfolding first_arising parameter_rows of_bits lt mul of_int
lookaheads = refl

-- 11: NaN, an infinity, the least below 0, 1 ulp above 10,000, the least above 0, 0.00999; 10,000, 0.01 and both zeros pass
releases : map (λ (x : Float). set_to (settings_of defaults.threshold_db defaults.true_peak_margin_db defaults.lookahead_ms x all_count))
    (nan ∷ inf false ∷ bits 0x8000_0000_0000_0001 ∷ bits 0x40c3_8800_0000_0001 ∷ bits 1 ∷ bits 0x3f84_75a3_1a4b_dba1
    ∷ bits 0x40c3_8800_0000_0000 ∷ bits 0x3f84_7ae1_47ae_147b ∷ Number.zero ∷ minus_zero ∷ [])
    ≡ numbered 11 ∷ numbered 11 ∷ numbered 11 ∷ numbered 11 ∷ numbered 11 ∷ numbered 11 ∷ numbered 16 ∷ numbered 16 ∷ numbered 16 ∷ numbered 16 ∷ []
unfolding first_arising parameter_rows of_bits lt mul of_int
releases = refl

-- 8, 13 and 14: rates 0, 7,999 and 192,001; channels 0 and 9, 1 and 8 pass; a largest block of 65,537, 0 and 65,536 pass
specs : map (λ (spec : ProcessSpec). reply_to defaults spec)
    (process_spec 0 2 512 None false ∷ process_spec 7999 2 512 None false ∷ process_spec 192001 2 512 None false ∷ process_spec 192000 2 512 None false
    ∷ process_spec 48000 0 512 None false ∷ process_spec 48000 9 512 None false ∷ process_spec 48000 1 512 None false ∷ process_spec 48000 8 512 None false
    ∷ process_spec 48000 2 65537 None false ∷ process_spec 48000 2 0 None false ∷ process_spec 48000 2 65536 None false ∷ [])
    ≡ numbered 8 ∷ numbered 8 ∷ numbered 8 ∷ numbered 16 ∷ numbered 13 ∷ numbered 13 ∷ numbered 16 ∷ numbered 16 ∷ numbered 14 ∷ numbered 16 ∷ numbered 16 ∷ []
unfolding first_arising parameter_rows of_bits lt mul of_int
specs = refl

-- 7 before 8, with needed and cap: caps 0 and 79; a cap of 80 leaves 0: 15, after 8 to 14
caps : map (λ (spec : ProcessSpec). reply_to defaults spec)
    (process_spec 0 2 512 (Some 0) false ∷ process_spec 48000 2 512 (Some 79) false ∷ process_spec 48000 2 512 (Some 80) false ∷ process_spec 48000 9 512 (Some 80) false ∷ [])
    ≡ refused 7 (count 80 ∷ count 0 ∷ []) ∷ refused 7 (count 80 ∷ count 79 ∷ []) ∷ refused 15 (count 4256 ∷ count 0 ∷ []) ∷ numbered 13 ∷ []
unfolding first_arising parameter_rows of_bits lt mul of_int
caps = refl
