-- The three starts of the controls, each at 8,000 frames a second, threshold and margin 0 dB (a target of 1), blocks of up to 64 frames. `mono`: look 11, one channel, one weight, release 0 (a coefficient of 1).
-- `stereo`: look 14, two channels, three weights, release 50 ms. `besides`: `mono` with a second channel, which is left out.
use Prim.Native.Nat.{ℕ, ◌+◌, ◌*◌}
use mathlib.Core.Path.{◌≡◌, refl, ap, subst, ◌∙◌}
use mathlib.Core.Bool.{true, false}
use mathlib.Core.List.{List, [], ◌∷◌}
use lib.ListN.{length, replicate}
use lib.Ieee.{Float, of_bits, to_bits, to_unsigned, lt, le, eq, ne, is_nan, neg, add, sub, mul, div, of_int}
use Rattle.std.proofs.Common.{None}
use Rattle.arithmetic.specs.Number
use Rattle.arithmetic.specs.Number.{bits, one}
use Rattle.arithmetic.specs.Exp.{exp_of}
use Rattle.audio.specs.Bytes.{word_of, bytes_of, cut, joined}
use Rattle.audio.specs.Planar.{frame_at, frames_at, written}
use Rattle.audio.specs.Format.{sample_of, bytes_for, size_of, places_of, written_bytes}
use Rattle.detector.specs.Oversample.{remembered, peak_abs_of, detected, shifted, sums_of, sum_of, sum_from, larger, largest_from, largest_of, first_at, phase_of}
use Rattle.detector.specs.Taps.{taps, phase0, phase1, phase2, phase3}
use Rattle.detector.specs.History.{latest}
use Rattle.keeper.specs.InOrder
use Rattle.keeper.specs.Keeper.{stepped_of}
use Rattle.envelope.specs.Row.{pushed, row_in_order}
use Rattle.envelope.specs.Mean.{mean_of}
use Rattle.envelope.specs.Follow.{followed}
use Rattle.envelope.specs.Step.{gain_step_of}
use Rattle.settings.specs.Derived.{look_of, coefficient_of}
use Rattle.settings.specs.Settings.{settings_of, all_count, process_spec}
use Rattle.settings.specs.Target.{target_of}
use Rattle.settings.specs.Weights.{accepted}
use Rattle.settings.specs.declared.LimiterSettings.{LimiterSettings}
use Rattle.settings.specs.declared.ProcessSpec.{ProcessSpec}
use Rattle.limiter.specs.State.{fresh_envelope}
use Rattle.limiter.specs.Stores.{Stores, stores_at}
use Rattle.limiter.specs.Prepare.{prepare_of}
use Rattle.limiter.specs.Order
use Rattle.limiter.specs.Reset
use Rattle.bank.specs.Param.{fault_of}
use Rattle.bank.specs.Smoother.{vacant, steps_of, coeff_of, smoother_of, derived, slot_prepared, target_set, immediate_set, stepped, reset_one}
use Rattle.bank.specs.Bank
use Rattle.bank.specs.Bank.{first_fault, declared_reply, slots_of, set_up_of, all_prepared, first_mapped, value_of}
use Rattle.bank.specs.declared.param.Smoothing.TheVariants.{Linear}
use Rattle.bank.specs.declared.smoother.Smoother.{Smoother}
use Rattle.bank.specs.declared.smoother_bank.SmootherBank.{SmootherBank}
use Rattle.settings.specs.Counted.{counts_in}
use Rattle.frame.specs.Rules.{taps_of, leaves_by}
use Rattle.frame.specs.Seat.{voices_from, between_from, sample_from, seat_of}
use Rattle.frame.specs.Place.{highest_of, first_with, place_of}
use Rattle.frame.specs.Frame.{linked_from, delayed_from, frame_of}
use Rattle.frame.specs.Run.{frames_of}
use Rattle.turns.specs.Machine
use Rattle.turns.specs.Machine.{Machine, machine_of, lowest, five_ms, declares, ready_refusal, reset_refusal}
use Rattle.turns.specs.Events.{events_reply, latched, latched_all}
use Rattle.turns.specs.Block.{block_reply, block_by, runs_from, runs_through, rendered}
use Rattle.turns.specs.Drain.{drain_reply, drain_by}
use Rattle.driver.specs.Calls
use Rattle.driver.specs.Calls.{Left, setup_of, parameter_reply, parameter_of}
use Rattle.claims.specs.Session.{Call, Limiting}
use Rattle.claims.specs.Book.{Book, between, peak_from, voices_of, peak_at_of, peaks_joining, required_of, floors_of, kept_from, kept_in, attack_row, not_one, gain_after, leaving_from}
use Rattle.claims.specs.BookCalls.{opened_new, enter, block_entered, drain_entered, joining_from, threshold_at, latch_where, samples_from, join_all, last_target}
use Rattle.claims.specs.Claim.{Claim, Holds}
use Rattle.claims.specs.GainSteps.{GainStepping, GainsHold, GainClaim}

-- ---- what an `unfolding` line names, so that calls compute
unfoldable numbers : Type 0
unfolding of_bits to_bits lt le eq ne is_nan add sub mul div neg of_int to_unsigned exp_of target_of
numbers = ⊥

unfoldable detecting : Type 0
unfolding taps_of counts_in linked_from voices_from peak_abs_of detected shifted sums_of sum_of sum_from larger largest_from largest_of first_at phase_of taps phase0 phase1 phase2 phase3
detecting = ⊥

-- where peaks sat
unfoldable placing : Type 0
unfolding between_from sample_from seat_of highest_of first_with place_of
placing = ⊥

unfoldable framing : Type 0
unfolding detecting gain_step_of stepped_of pushed mean_of followed leaves_by delayed_from frame_of frames_of rendered
framing = ⊥

-- audio in bytes
unfoldable bytewise : Type 0
unfolding word_of bytes_of cut joined sample_of bytes_for size_of places_of written_bytes frame_at frames_at written
bytewise = ⊥

-- 18, 16 and 19
unfoldable judging : Type 0
unfolding ready_refusal reset_refusal Machine.prepared Machine.is_in_order declares Order.prepared Order.is_in_order InOrder.is_in_order row_in_order
judging = ⊥

unfoldable banking : Type 0
unfolding Bank.prepared all_prepared slot_prepared derived fault_of steps_of coeff_of stepped target_set immediate_set reset_one first_mapped value_of
banking = ⊥

-- a call of the limiter
unfoldable pub calling : Type 0
unfolding numbers bytewise framing placing judging banking block_reply block_by events_reply drain_reply drain_by runs_from runs_through latched latched_all Calls.reset_of Reset.reset_of parameter_reply parameter_of
calling = ⊥

-- the book's share in it
unfoldable pub booking : Type 0
unfolding enter block_entered drain_entered joining_from threshold_at latch_where samples_from join_all last_target between latest peak_from voices_of peak_at_of peaks_joining required_of floors_of kept_from kept_in attack_row not_one gain_after leaving_from
booking = ⊥

-- a setup
unfoldable setting : Type 0
unfolding numbers setup_of prepare_of accepted set_up_of declared_reply first_fault fault_of slots_of smoother_of steps_of coeff_of
setting = ⊥

-- ---- a start: what is set up, and look and release coefficient that follow
pub record Start : Type 0 where
  pub lookahead : Float
  pub release : Float
  pub left_out_mask : ℕ
  pub channels : ℕ
  pub weights : List Float
  pub look : ℕ
  pub coeff : Float

abbrev pub settings_in : Start → LimiterSettings
settings_in s = settings_of Number.zero Number.zero s.lookahead s.release s.left_out_mask

abbrev pub spec_in : Start → ProcessSpec
spec_in s = process_spec 8000 s.channels 64 None false

abbrev pub stores_in : Start → Stores
stores_in s =
    stores_at (replicate (s.channels * s.look) Number.zero) (replicate (s.look + 1) 0) (replicate (s.look + 1) Number.zero) s.weights (replicate (length s.weights) one)
    (replicate (s.channels * remembered) Number.zero)

-- what setup leaves, written out
abbrev pub threshold_in : Smoother
threshold_in = record {
  id = 0;
  cur = Number.zero;
  target = Number.zero;
  low = lowest;
  high = Number.zero;
  default = Number.zero;
  steps = bits 0x3ff4_0000_0000_0000;
  updates_remaining = 0;
  step_delta = Number.zero;
  shape = Linear;
  coeff = one;
  smoothing_ms = five_ms;
}

abbrev pub bank_in : SmootherBank
bank_in = record { smoothers = threshold_in ∷ vacant ∷ vacant ∷ vacant ∷ vacant ∷ vacant ∷ vacant ∷ vacant ∷ []; count = 1; rate = 8000; ready = true }

abbrev pub machine_in : Start → Machine
machine_in s =
    machine_of (record {
      settings = settings_in s;
      rate = 8000;
      channels = s.channels;
      max_block = 64;
      release_coeff = s.coeff;
      env = fresh_envelope s.look;
      delay_pos = 0;
      target = one;
      drained = 0;
    }) bank_in (stores_in s)

abbrev pub book_in : Start → Book
book_in s = record {
  settings = settings_in s;
  spec = spec_in s;
  weights = s.weights;
  threshold = threshold_in;
  target = one;
  drained = 0;
  frames = [];
}

-- that setup leaves it so
record Starts (s : Start) : Type 0 where
  reply : (setup_of (settings_in s) (spec_in s) (stores_in s)).reply.number ≡ 0
  machine : (setup_of (settings_in s) (spec_in s) (stores_in s)).machine ≡ machine_in s
  book : opened_new (settings_in s) (spec_in s) s.weights ≡ book_in s

-- a limiter that sets up as it should
abbrev pub SetsUp : Start → Limiting → Type 0
SetsUp s l = l.setups (settings_in s) (spec_in s) (stores_in s) ≡ setup_of (settings_in s) (spec_in s) (stores_in s)

-- any list of calls after a start
from : (s : Start) → Starts s → (l : Limiting) → SetsUp s l → Claim l → (calls : List Call) → Holds l 0 (book_in s) (machine_in s) calls
from s starts l same claim calls =
    let set_up = l.setups (settings_in s) (spec_in s) (stores_in s) in
    subst (λ (m : Machine). Holds l 0 (book_in s) m calls) (ap (λ (r : Left). r.machine) same ∙ starts.machine)
    (subst (λ (b : Book). Holds l 0 b set_up.machine calls) starts.book
    (claim.after_setup (settings_in s) (spec_in s) (stores_in s) (ap (λ (r : Left). r.reply.number) same ∙ starts.reply) calls))

-- ---- the three
-- 1.375 ms
abbrev pub mono : Start
mono = record { lookahead = bits 0x3ff6_0000_0000_0000; release = Number.zero; left_out_mask = all_count; channels = 1; weights = one ∷ []; look = 11; coeff = one }

-- 1.75 ms, 50 ms; 0.25, 0.5, 0.25 + 2^-50: the ends differ, so that reading them in reverse shows
abbrev pub stereo : Start
stereo = record {
  lookahead = bits 0x3ffc_0000_0000_0000;
  release = bits 0x4049_0000_0000_0000;
  left_out_mask = all_count;
  channels = 2;
  weights = bits 0x3fd0_0000_0000_0000 ∷ bits 0x3fe0_0000_0000_0000 ∷ bits 0x3fd0_0000_0000_0010 ∷ [];
  look = 14;
  coeff = bits 0x3f64_7454_f4a4_0900;
}

-- `mono` with a second channel, left out
abbrev pub besides : Start
besides = record {
  lookahead = mono.lookahead;
  release = mono.release;
  left_out_mask = 2;
  channels = 2;
  weights = mono.weights;
  look = mono.look;
  coeff = mono.coeff;
}

mono_starts : Starts mono
unfolding setting
mono_starts = record { reply = refl; machine = refl; book = refl }

stereo_starts : Starts stereo
unfolding setting
stereo_starts = record { reply = refl; machine = refl; book = refl }

besides_starts : Starts besides
unfolding setting
besides_starts = record { reply = refl; machine = refl; book = refl }

pub after_mono : (l : Limiting) → SetsUp mono l → Claim l → (calls : List Call) → Holds l 0 (book_in mono) (machine_in mono) calls
after_mono = from mono mono_starts

pub after_stereo : (l : Limiting) → SetsUp stereo l → Claim l → (calls : List Call) → Holds l 0 (book_in stereo) (machine_in stereo) calls
after_stereo = from stereo stereo_starts

pub after_besides : (l : Limiting) → SetsUp besides l → Claim l → (calls : List Call) → Holds l 0 (book_in besides) (machine_in besides) calls
after_besides = from besides besides_starts

-- any list of gains stepped after `mono`
pub gains_after_mono : (step : GainStepping) → GainClaim step → (xs : List Float)
    → GainsHold step (look_of mono.lookahead 8000) mono.weights (coefficient_of mono.release 8000) 0 [] (machine_in mono) xs
gains_after_mono step claim xs =
    subst (λ (m : Machine). GainsHold step (look_of mono.lookahead 8000) mono.weights (coefficient_of mono.release 8000) 0 [] m xs) mono_starts.machine
    (claim.after_setup (settings_in mono) (spec_in mono) (stores_in mono) mono_starts.reply xs)
