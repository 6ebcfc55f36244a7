-- What a frame is stated for: any table of taps, any choice of channels, any rule by which an output leaves. And which ones a limiter's settings and a call's sample type ask for.
use Rattle.std.specs.Prelude.{ℕ, Bool, List, Float}
use Rattle.arithmetic.specs.Sanitize.{flush_denormal}
use Rattle.arithmetic.specs.Narrow.{narrowed}
use Rattle.audio.specs.declared.format.Format.{Format}
use Rattle.audio.specs.declared.format.Format.TheVariants.{F64, F32}
use Rattle.detector.specs.Taps.{taps}
use Rattle.settings.specs.Counted.{counts_in}
use Rattle.settings.specs.declared.LimiterSettings.{LimiterSettings}

-- what decides a frame's linked peak
pub record Linking : Type 0 where
  -- the detector's table of taps
  pub taps : List (List Float)
  -- whether a channel counts
  pub counts : ℕ → Bool

pub record Rules : Type 0 where
  pub linking : Linking
  -- the rule by which an output leaves
  pub leaves : Float → Float

-- module 3: "The 48 taps are a constant table"
unfoldable pub taps_of : LimiterSettings → List (List Float)
taps_of s = taps

-- module 1's output rule: "an output below 1e-30 in magnitude becomes +0.0, minus zero included"; Change 1: "each output rounded to the nearest f32, ties to even, after small values became 0.0"
unfoldable pub leaves_by : Format → Float → Float
leaves_by F64 x = flush_denormal x
leaves_by F32 x = narrowed (flush_denormal x)

-- Change 7: "The definition of required gain speaks of counted channels only"
abbrev pub linking_of : LimiterSettings → Linking
linking_of s = record { taps = taps_of s; counts = counts_in s }

abbrev pub rules_of : LimiterSettings → Format → Rules
rules_of s format = record { linking = linking_of s; leaves = leaves_by format }
