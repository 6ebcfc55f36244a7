-- Inputs at which the wrong programs of ARCHITECTURE.md's table would answer otherwise: each row computes what the definition answers there, and its comment names the wrong program.
use Prim.Native.Nat.{ℕ, ◌+◌}
use mathlib.Core.Path.{◌≡◌, refl}
use mathlib.Core.Bool.{true, false}
use mathlib.Core.List.{List, [], ◌∷◌}
use Rattle.std.specs.Prelude.{Option, Some, None}
use lib.ListN.{replicate}
use lib.Ieee.{Float, add, sub, mul, div, neg, lt, le, eq, ne, of_int, of_bits, to_bits, to_unsigned}
use Rattle.arithmetic.specs.Number
use Rattle.arithmetic.specs.Number.{bits, one}
use Rattle.arithmetic.specs.Exp.{exp_of}
use Rattle.arithmetic.specs.Reply.{finished, refused, numbered, count}
use Rattle.keeper.specs.InOrder
use Rattle.envelope.specs.Row.{row_in_order}
use Rattle.settings.specs.Settings.{settings_of, all_count, process_spec}
use Rattle.settings.specs.Derived.{coefficient_of}
use Rattle.settings.specs.Target.{target_of}
use Rattle.settings.specs.Weights.{accepted}
use Rattle.settings.specs.declared.LimiterSettings.{LimiterSettings}
use Rattle.settings.specs.declared.ProcessSpec.{ProcessSpec}
use Rattle.frame.specs.Rules.{Rules}
use Rattle.limiter.specs.State.{fresh_envelope, not_set_up, started}
use Rattle.limiter.specs.Stores.{Stores, stores_at, lengths_fit}
use Rattle.limiter.specs.Prepare.{prepare_of}
use Rattle.limiter.specs.Order.{prepared, is_in_order}
use Rattle.limiter.specs.Run.{render_of, drain_of}
use Rattle.limiter.specs.Reset.{reset_of}
use Rattle.limiter.specs.declared.state.Limiter.{Limiter}

-- ---- a small start: look 11 (1.375 ms at 8,000), one channel, threshold and margin 0 dB, blocks of up to 64 frames
-- with a release
abbrev pub settings11 : Float → LimiterSettings
settings11 release = settings_of Number.zero Number.zero (bits 0x3ff6_0000_0000_0000) release all_count

-- with a cap
abbrev pub spec11 : Option ℕ → ProcessSpec
spec11 cap = process_spec 8000 1 64 cap false

-- with a release, its coefficient, a delay position and a drained count; no frame taken
abbrev pub limiter11 : Float → Float → ℕ → ℕ → Limiter
limiter11 release coeff pos drained = record {
  settings = settings11 release;
  rate = 8000;
  channels = 1;
  max_block = 64;
  release_coeff = coeff;
  env = fresh_envelope 11;
  delay_pos = pos;
  target = one;
  drained = drained;
}

-- with weights and a row; every other place holds a 1, so that a fill would be seen
abbrev pub stores11 : List Float → List Float → Stores
stores11 weights row = stores_at (replicate 11 one) (replicate 12 1) (replicate 12 one) weights row (replicate 12 one)

abbrev half : Float
half = bits 0x3fe0_0000_0000_0000

unfoldable numbers : Type 0
unfolding of_bits to_bits lt le eq ne add sub mul div neg of_int to_unsigned exp_of target_of
numbers = ⊥

-- ---- setup
-- a refusal told where the setup finished
pub setup_finished : (prepare_of (settings11 Number.zero) (spec11 None) (stores11 (one ∷ []) (one ∷ []))).reply ≡ finished []
unfolding prepare_of accepted numbers
setup_finished = refl

-- 15 with the bytes needed in the place of the cap left: 776 twice
pub cap_told : (prepare_of (settings11 Number.zero) (spec11 (Some 100)) (stores11 (one ∷ []) (one ∷ []))).reply ≡ refused 15 (count 776 ∷ count 100 ∷ [])
unfolding prepare_of accepted numbers
cap_told = refl

-- stores filled where 17 is answered: the weight is 0.5 alone
pub stores_left :
    ((prepare_of (settings11 Number.zero) (spec11 None) (stores11 (half ∷ []) (half ∷ []))).reply ≡ numbered 17)
    × ((prepare_of (settings11 Number.zero) (spec11 None) (stores11 (half ∷ []) (half ∷ []))).stores ≡ stores11 (half ∷ []) (half ∷ []))
unfolding prepare_of accepted numbers
stores_left = (refl, refl)

-- a start at gain 0, or at another target than the default threshold's
pub start_values : (s : LimiterSettings) (spec : ProcessSpec)
    → ((started s spec).env.gain ≡ one) × ((started s spec).target ≡ target_of s.threshold_db s.true_peak_margin_db)
start_values s spec = (refl, refl)

-- ---- render and drain, of every limiter
module _ (rules : Rules) (l : Limiter) (target : Float) (n : ℕ) (s : Stores) (audio : List Float) where
  -- the drained count kept by a render
  pub render_starts_tail : (render_of rules l target n s audio).limiter.drained ≡ 0
  unfolding render_of
  render_starts_tail = refl

  -- a render that goes back to the target it had
  pub render_keeps_target : (render_of rules l target n s audio).limiter.target ≡ target
  unfolding render_of
  render_keeps_target = refl

  -- a drain at the default threshold's target instead of the kept one
  pub drain_at_kept_target : (drain_of rules l n s audio).limiter.target ≡ l.target
  unfolding drain_of render_of
  drain_at_kept_target = refl

  -- a drain that counts afresh
  pub drain_counts_on : (drain_of rules l n s audio).limiter.drained ≡ l.drained + n
  unfolding drain_of render_of
  drain_counts_on = refl

-- ---- 16
-- a row of another length taken, and the detector's length unjudged: one place too many of each
pub lengths_judged :
    (lengths_fit 1 11 (record { delay = 11; marks = 12; minima = 12; weights = 1; row = 1; detector = 12 }) ≡ true)
    × (lengths_fit 1 11 (record { delay = 11; marks = 12; minima = 12; weights = 1; row = 2; detector = 12 }) ≡ false)
    × (lengths_fit 1 11 (record { delay = 11; marks = 12; minima = 12; weights = 1; row = 1; detector = 13 }) ≡ false)
lengths_judged = (refl, refl, refl)

-- ---- reset, of every limiter
-- the drained count kept
pub reset_drained : (l : Limiter) (s : Stores) → (reset_of l s).limiter.drained ≡ 0
unfolding reset_of
reset_drained l s = refl

-- marks or minima cleared
pub reset_leaves_ring : (l : Limiter) (s : Stores) → ((reset_of l s).stores.marks ≡ s.marks) × ((reset_of l s).stores.minima ≡ s.minima)
unfolding reset_of
reset_leaves_ring l s = (refl, refl)

-- ---- 18 and 19
-- a release coefficient of another rate taken: 2.25 ms at 16,000 instead of 8,000; and one that was never set up
pub coefficient_judged :
    (prepared (limiter11 (bits 0x4002_0000_0000_0000) (coefficient_of (bits 0x4002_0000_0000_0000) 8000) 0 0) ≡ true)
    × (prepared (limiter11 (bits 0x4002_0000_0000_0000) (coefficient_of (bits 0x4002_0000_0000_0000) 16000) 0 0) ≡ false)
    × (prepared not_set_up ≡ false)
unfolding prepared numbers
coefficient_judged = (refl, refl, refl)

-- a delay position of look taken, and a drained count past it
pub places_judged :
    (is_in_order (limiter11 Number.zero one 10 11) (replicate 12 1) (replicate 12 one) (one ∷ []) ≡ true)
    × (is_in_order (limiter11 Number.zero one 11 0) (replicate 12 1) (replicate 12 one) (one ∷ []) ≡ false)
    × (is_in_order (limiter11 Number.zero one 0 12) (replicate 12 1) (replicate 12 one) (one ∷ []) ≡ false)
unfolding is_in_order InOrder.is_in_order row_in_order numbers
places_judged = (refl, refl, refl)
