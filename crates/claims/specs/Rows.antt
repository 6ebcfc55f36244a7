-- Document 01's starred rows, one list, in its order. That all of them hold is one claim: `starred`, proofs/Rows.antt.
use Rattle.std.specs.Prelude.{ℕ, ◌+◌, ◌*◌, ◌≡◌, true, false, List, [], ◌∷◌, map, replicate, Float, Option, Some, None}
use Rattle.std.specs.Float.{nan, inf}
use Rattle.std.specs.Float.Ieee.{lt}
use Rattle.arithmetic.specs.Number.{bits, zero, one}
use Rattle.arithmetic.specs.Sanitize.{unit_gain}
use Rattle.arithmetic.specs.Reply.{Reply, finished, refused, numbered, count, float}
use Rattle.audio.specs.declared.format.Format.TheVariants.{F64}
use Rattle.keeper.specs.Keeper.{setup_of}
use Rattle.keeper.specs.History.{replies_after}
use Rattle.settings.specs.Settings.{settings_of, all_count, process_spec, defaults}
use Rattle.settings.specs.Derived.{look_of, row_of}
use Rattle.settings.specs.Memory.{needed}
use Rattle.settings.specs.House.{house_of}
use Rattle.settings.specs.declared.LimiterSettings.{LimiterSettings}
use Rattle.settings.specs.declared.ProcessSpec.{ProcessSpec}
use Rattle.limiter.specs.Stores.{Stores, stores_at, lengths_of}
use Rattle.limiter.specs.Prepare.{stores_refusal}
use Rattle.bank.specs.Smoother.{stepped}
use Rattle.bank.specs.Bank.{all_changed, set_up_of, set_target_of, bank_after, value_of}
use Rattle.turns.specs.Machine.{Machine, threshold_param}
use Rattle.turns.specs.Block.{Renderer, runs_of, runs_through}
use Rattle.turns.specs.Drain.{drain_of}
use Rattle.driver.specs.Calls
use Rattle.floors_text.specs.Print.{ascii}
use Rattle.floors_text.specs.Text.{text_of}
use Rattle.claims.specs.Tent.{tent}

abbrev pub half : Float
half = bits 0x3fe0_0000_0000_0000

-- a step's reply: floor, dropped, kept
abbrev pub tells : Float → ℕ → ℕ → Reply
tells floor dropped kept = finished (float floor ∷ count dropped ∷ count kept ∷ [])

-- 48,000, stereo, a largest block of 512
abbrev pub stereo : Option ℕ → ProcessSpec
stereo cap = process_spec 48000 2 512 cap false

-- what setup replies there: by default, with a cap; and with another lookahead
abbrev pub capped_at : ℕ → Stores → Reply
capped_at cap stores = (Calls.setup_of defaults (stereo (Some cap)) stores).reply

abbrev pub looking : Float → LimiterSettings
looking ms = settings_of defaults.threshold_db defaults.true_peak_margin_db ms defaults.release_ms all_count

abbrev pub looking_at : Float → Stores → Reply
looking_at ms stores = (Calls.setup_of (looking ms) (stereo None) stores).reply

-- stores of the right lengths with these weights, all else in them any one value and any one mark
abbrev pub lent : ℕ → ℕ → List Float → Float → ℕ → Stores
lent channels look weights x mark =
    stores_at (replicate (channels * look) x) (replicate (look + 1) mark) (replicate (look + 1) x) weights (replicate (row_of look) x) (replicate (channels * 12) x)

-- for look 72 those with the Rust's weights, which are the house's; for look 11 the one weight 1.0, the Rust's too; for look 4,096 the 4,085 of Tent.antt
abbrev pub lent72 : Float → ℕ → Stores
lent72 x mark = lent 2 72 (house_of 48000 72) x mark

abbrev pub lent11 : Float → ℕ → Stores
lent11 x mark = lent 2 11 (one ∷ []) x mark

abbrev pub lent4096 : Float → ℕ → Stores
lent4096 x mark = lent 2 4096 tent x mark

-- lookaheads in ms
abbrev pub ms0·21 : Float
ms0·21 = bits 0x3fca_e147_ae14_7ae1

abbrev pub ms0·22 : Float
ms0·22 = bits 0x3fcc_28f5_c28f_5c29

abbrev pub ms85·34 : Float
ms85·34 = bits 0x4055_55c2_8f5c_28f6

abbrev pub ms85·36 : Float
ms85·36 = bits 0x4055_570a_3d70_a3d7

-- −4 dB
abbrev pub minus4 : Float
minus4 = bits 0xc010_0000_0000_0000

-- the seventh of eight steps from −1 to it, as the roundings leave it
abbrev pub above_minus4 : Float
above_minus4 = bits 0xc00e_6666_6666_6665

-- the value of the default threshold's parameter, −1 dB, at 48,000, after it was sent to −4 dB and so many updates
abbrev pub ramped : ℕ → Reply
ramped n = value_of (bank_after n (set_target_of (set_up_of (replicate 8 (threshold_param defaults)) 1 48000).bank 0 minus4).bank) 0

-- state and stores after a drain of 50 stereo frames, and what that drain replied
abbrev pub drained50 : Machine → Machine
drained50 m = (drain_of F64 m 50 (replicate 800 0)).machine

abbrev pub reply50 : Machine → Reply
reply50 m = (drain_of F64 m 50 (replicate 800 0)).reply

-- three such drains
pub record Drains (m : Machine) : Type 0 where
  pub first : reply50 m ≡ finished (count 50 ∷ count 0 ∷ [])
  pub second : reply50 (drained50 m) ≡ finished (count 22 ∷ count 1 ∷ [])
  pub third : reply50 (drained50 (drained50 m)) ≡ finished (count 0 ∷ count 1 ∷ [])

pub record Starred : Type 0 where
  -- * Gains NaN, +infinity, −0.25, 1.5 count as 0, 0, 0, 1.
  pub gains : map unit_gain (nan ∷ inf false ∷ bits 0xbfd0_0000_0000_0000 ∷ bits 0x3ff8_0000_0000_0000 ∷ []) ≡ zero ∷ zero ∷ zero ∷ one ∷ []
  -- * Look 11, gain 0.5 then only 1.0: floor 0.5 through frame 11, 1.0 at frame 12, which drops 2 and keeps 1. (Replies newest first: of frame 12, of frames 11 to 2, of 1, of 0.)
  pub window : replies_after (setup_of 11 (replicate 12 0) (replicate 12 zero)).keeping (one ∷ one ∷ one ∷ one ∷ one ∷ one ∷ one ∷ one ∷ one ∷ one ∷ one ∷ one ∷ half ∷ [])
      ≡ tells one 2 1
      ∷ tells half 1 2 ∷ tells half 1 2 ∷ tells half 1 2 ∷ tells half 1 2 ∷ tells half 1 2 ∷ tells half 1 2 ∷ tells half 1 2 ∷ tells half 1 2 ∷ tells half 1 2 ∷ tells half 1 2
      ∷ tells half 0 2 ∷ tells half 0 1 ∷ []
  -- * 48,000, 1.5 ms, stereo: look 72, L 61, 4,256 bytes.
  pub default_look : look_of defaults.lookahead_ms 48000 ≡ 72
  pub default_row : row_of 72 ≡ 61
  pub default_bytes : needed 2 72 ≡ 4256
  -- * Cap 4,336 passes (on stores that fit, with the Rust's own weights; on any stores, what is left to judge are these: 16 and 17); 4,335 gives 15 (4,256, 4,255); 79 gives 7 (80, 79).
  pub cap_passes : (x : Float) (mark : ℕ) → capped_at 4336 (lent72 x mark) ≡ finished []
  pub cap_judges : (stores : Stores) → capped_at 4336 stores ≡ numbered (stores_refusal (stereo None) 72 (lengths_of stores) stores.weights)
  pub cap_15 : (stores : Stores) → capped_at 4335 stores ≡ refused 15 (count 4256 ∷ count 4255 ∷ [])
  pub cap_7 : (stores : Stores) → capped_at 79 stores ≡ refused 7 (count 80 ∷ count 79 ∷ [])
  -- * At 48,000: 0.22 ms gives look 11, 85.34 gives 4,096; 0.21 (10) and 85.36 (4,097) are refused.
  pub looks : map (λ (ms : Float). look_of ms 48000) (ms0·22 ∷ ms85·34 ∷ ms0·21 ∷ ms85·36 ∷ []) ≡ 11 ∷ 4096 ∷ 10 ∷ 4097 ∷ []
  pub looks_pass : (x : Float) (mark : ℕ) → (looking_at ms0·22 (lent11 x mark) ≡ finished []) × (looking_at ms85·34 (lent4096 x mark) ≡ finished [])
  pub looks_judge : (stores : Stores)
      → (looking_at ms0·22 stores ≡ numbered (stores_refusal (stereo None) 11 (lengths_of stores) stores.weights)) × (looking_at ms85·34 stores ≡ numbered (stores_refusal (stereo None) 4096 (lengths_of stores) stores.weights))
  pub looks_12 : (stores : Stores) → (looking_at ms0·21 stores ≡ refused 12 []) × (looking_at ms85·36 stores ≡ refused 12 [])
  -- * Position 0, 64 frames: runs 32, 32, two bank steps. Position 33, 40 frames: runs 31, 9, one step.
  pub runs_0 : runs_of 0 64 ≡ 32 ∷ 32 ∷ []
  pub steps_0 : (render : Renderer) (fs : List (List Float)) (m : Machine) → (runs_through render 0 0 (runs_of 0 64) [] fs m).machine.bank ≡ all_changed stepped (all_changed stepped m.bank)
  pub runs_33 : runs_of 33 40 ≡ 31 ∷ 9 ∷ []
  pub steps_33 : (render : Renderer) (fs : List (List Float)) (m : Machine) → (runs_through render 33 0 (runs_of 33 40) [] fs m).machine.bank ≡ all_changed stepped m.bank
  -- * −1 dB to −4 dB at 48,000: exactly −4 after 8 updates, not after 7.
  pub ramp_8 : ramped 8 ≡ finished (float minus4 ∷ [])
  pub ramp_7 : (ramped 7 ≡ finished (float above_minus4 ∷ [])) × (lt minus4 above_minus4 ≡ true)
  -- * Look 72, drains of 50: 50 not done, 22 done, 0 done. (After the setup that passes above; and after any that is finished, whatever its cap and stores.)
  pub drains : (x : Float) (mark : ℕ) → Drains (Calls.setup_of defaults (stereo (Some 4336)) (lent72 x mark)).machine
  pub drains_after : (cap : Option ℕ) (stores : Stores)
      → (let start = Calls.setup_of defaults (stereo cap) stores in
      start.reply.number ≡ 0 → Drains start.machine)
  -- * For look=11, gain=3ff0000000000000, gain=3fe0000000000000, gain=3fe8000000000000 `floors` writes
  pub floors : text_of (ascii "look=11\ngain=3ff0000000000000\ngain=3fe0000000000000\ngain=3fe8000000000000\n")
      ≡ ascii "frame=0 floor=3ff0000000000000 dropped=0 kept=1\nframe=1 floor=3fe0000000000000 dropped=1 kept=1\nframe=2 floor=3fe0000000000000 dropped=0 kept=2\n"
