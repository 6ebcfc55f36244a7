-- The settings: one record of four floats and a bit per channel, by value; and what setup is told beside them.
use Rattle.std.specs.Prelude.{ℕ, Bool, Option, Float}
use Rattle.arithmetic.specs.Number.{bits}
use Rattle.settings.specs.declared.LimiterSettings.{LimiterSettings}
use Rattle.settings.specs.declared.ProcessSpec.{ProcessSpec}

abbrev pub settings_of : Float → Float → Float → Float → ℕ → LimiterSettings
settings_of threshold margin lookahead release left_out_mask = record { threshold_db = threshold; true_peak_margin_db = margin; lookahead_ms = lookahead; release_ms = release; left_out = left_out_mask }

-- Change 7: "The default is yes for all": no channel's bit leaves it out
abbrev pub all_count : ℕ
all_count = 0

-- the Rust's defaults: −1 dBFS, 0.1 dB, 1.5 ms, 50 ms
abbrev pub defaults : LimiterSettings
defaults = settings_of (bits 0xbff0_0000_0000_0000) (bits 0x3fb9_9999_9999_999a) (bits 0x3ff8_0000_0000_0000) (bits 0x4049_0000_0000_0000) all_count

-- rate, channels, largest block, cap, and whether a house table is asked for
abbrev pub process_spec : ℕ → ℕ → ℕ → Option ℕ → Bool → ProcessSpec
process_spec rate channels block cap house = record { rate = rate; channels = channels; max_block = block; cap = cap; house = house }
