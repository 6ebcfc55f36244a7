-- The refusals 8 to 14 of the table, and which one arises first.
use Rattle.std.specs.Prelude.{ℕ, Bool, not, ◌&&◌, Result, Ok, Err, nat_le, Float}
use Rattle.std.specs.Float.Ieee.{lt}
use Rattle.std.specs.Float.Ieee.Scale.{finite}
use Rattle.arithmetic.specs.Number
use Rattle.arithmetic.specs.Number.{bits}
use Rattle.arithmetic.specs.Reply.{Reply, numbered, unless}
use Rattle.keeper.specs.Keeper.{look_taken}
use Rattle.settings.specs.Derived.{look_of}
use Rattle.settings.specs.declared.LimiterSettings.{LimiterSettings}
use Rattle.settings.specs.declared.ProcessSpec.{ProcessSpec}
use Rattle.settings.specs.declared.accepted.SettingsRefusal.{SettingsRefusal}
use Rattle.settings.specs.declared.accepted.SettingsRefusal.TheVariants.{Rate, Margin, Lookahead, Release, Look, Channels, Block}

-- 8: rate outside 8,000 to 192,000
abbrev pub rate_taken : ℕ → Bool
rate_taken rate = nat_le 8000 rate && nat_le rate 192000

-- 9: margin not finite, negative, over 30 dB
abbrev pub margin_taken : Float → Bool
margin_taken m = finite m && not (lt m Number.zero) && not (lt (bits 0x403e_0000_0000_0000) m)

-- 10: lookahead not finite or not above 0
abbrev pub lookahead_taken : Float → Bool
lookahead_taken ms = finite ms && lt Number.zero ms

-- 11: release not finite, negative, over 10,000, or above 0 and below 0.01
abbrev pub release_taken : Float → Bool
release_taken ms =
    finite ms && not (lt ms Number.zero) && not (lt (bits 0x40c3_8800_0000_0000) ms) && not (lt Number.zero ms && lt ms (bits 0x3f84_7ae1_47ae_147b))

-- 13: channels not 1 to 8
abbrev pub channels_taken : ℕ → Bool
channels_taken n = nat_le 1 n && nat_le n 8

-- 14: largest block over 65,536
abbrev pub block_taken : ℕ → Bool
block_taken n = nat_le n 65536

-- the first of 8 to 14 that arises, 12 as the keeper judges it; 0 where none does
abbrev pub refusal_of : LimiterSettings → ProcessSpec → ℕ
refusal_of s spec =
    unless (rate_taken spec.rate) 8
    (unless (margin_taken s.true_peak_margin_db) 9
    (unless (lookahead_taken s.lookahead_ms) 10
    (unless (release_taken s.release_ms) 11
    (unless (look_taken (look_of s.lookahead_ms spec.rate)) 12
    (unless (channels_taken spec.channels) 13
    (unless (block_taken spec.max_block) 14
    0))))))

-- document 01's number of each refusal
abbrev pub refusal_number : SettingsRefusal → ℕ
refusal_number Rate = 8
refusal_number Margin = 9
refusal_number Lookahead = 10
refusal_number Release = 11
refusal_number Look = 12
refusal_number Channels = 13
refusal_number Block = 14

abbrev pub judged_number : Result (Unit {0}) SettingsRefusal → ℕ
judged_number (Ok u) = 0
judged_number (Err why) = refusal_number why

abbrev pub settings_reply : Result (Unit {0}) SettingsRefusal → Reply
settings_reply j = numbered (judged_number j)
