-- Inputs at which the wrong programs of ARCHITECTURE.md's table would answer otherwise: each row computes what the definition answers there, and its comment names the wrong program.
use Prim.Native.Nat.{ℕ}
use mathlib.Core.Path.{◌≡◌, refl}
use mathlib.Core.Bool.{true, false, not}
use mathlib.Core.List.{[], ◌∷◌}
use lib.Dec.{eqb}
use lib.ListN.{get_or, replicate}
use lib.Ieee.{Float, nan, round, add, sub, mul, div, lt, le, ne, eq, is_nan, of_bits}
use Rattle.arithmetic.specs.Number
use Rattle.arithmetic.specs.Number.{bits, one}
use Rattle.arithmetic.specs.Sanitize.{flush_denormal}
use Rattle.arithmetic.specs.Narrow.{narrowed}
use Rattle.audio.specs.declared.format.Format.TheVariants.{F32}
use Rattle.detector.specs.Oversample.{peak_abs_of, detected, shifted, sums_of, largest_from, largest_of}
use Rattle.keeper.specs.Keeper.{keeping_at, fresh_keeper, stepped_of}
use Rattle.envelope.specs.Row.{rowed_at, pushed}
use Rattle.envelope.specs.Mean.{mean_of}
use Rattle.envelope.specs.Follow.{followed}
use Rattle.envelope.specs.Step.{Enveloped, enveloped, gain_step_of}
use Rattle.frame.specs.Rules.{Rules, leaves_by}
use Rattle.std.specs.Prelude.{Some, None}
use Rattle.frame.specs.Seat.{Voice, between_from, sample_from, seat_of, PeakAt}
use Rattle.frame.specs.Place.{place_found_at, no_place, highest_of, first_with, place_of}
use Rattle.frame.specs.declared.highest.Seat.{Seat}
use Rattle.frame.specs.Frame.{required_gain, linked_from, delayed_from, Moving, Framed, frame_of}
use Rattle.frame.specs.Passes.{gains_of}

abbrev eighth : Float
eighth = bits 0x3fc0_0000_0000_0000

abbrev quarter : Float
quarter = bits 0x3fd0_0000_0000_0000

abbrev half : Float
half = bits 0x3fe0_0000_0000_0000

abbrev two : Float
two = bits 0x4000_0000_0000_0000

abbrev four : Float
four = bits 0x4010_0000_0000_0000

-- ---- the required gain
-- an infinity or a NaN let pass: target / 0 and 0 / 0
pub silent_frame_lem : (required_gain one Number.zero ≡ one) × (required_gain Number.zero Number.zero ≡ one)
unfolding div lt is_nan
silent_frame_lem = (refl, refl)

-- ---- the output rule of f32
-- small values flushed after the narrowing: the f64 before 1e-30, whose nearest f32 is above it, would leave. And no narrowing: 1 + 2^-30 would leave as it is.
pub small_then_nearest : (leaves_by F32 (bits 0x39b4_484b_feeb_c29f) ≡ Number.zero) × (leaves_by F32 (bits 0x3ff0_0000_0040_0000) ≡ one)
unfolding leaves_by narrowed round lt of_bits
small_then_nearest = (refl, refl)

-- ---- gain steps
-- before any frame, one weight, a coefficient of 1
abbrev start : Enveloped
start = enveloped (keeping_at (fresh_keeper 11) (replicate 12 0) (replicate 12 Number.zero)) (rowed_at (record { pos = 0; tally = 0 }) (one ∷ [])) one

unfoldable stepping : Type 0
unfolding gain_step_of stepped_of pushed mean_of followed ne eq add sub mul lt le of_bits
stepping = ⊥

-- each step from the run's first envelope: 0.5, then 1
pub steps_in_turn : (gains_of (one ∷ []) one start (half ∷ one ∷ [])).gains ≡ half ∷ half ∷ []
unfolding stepping gains_of
steps_in_turn = refl

-- ---- a frame: two channels with lines of two places, at the last of them; samples 2 and 1 at a target of 1, and no detector
abbrev rules : Rules
rules = record { linking = record { taps = []; counts = λ (c : ℕ). true }; leaves = λ (x : Float). flush_denormal x }

abbrev moving : Moving
moving = record { env = start; delay = Number.zero ∷ half ∷ Number.zero ∷ quarter ∷ []; pos = 1; detector = replicate 24 Number.zero }

unfoldable pub framed : Framed
framed = frame_of rules (one ∷ []) one 2 one moving (two ∷ one ∷ [])

-- the last channel's peak alone: a gain of 1. Silence always: outputs of 0. The new sample given out at once: 1 and 0.5. The channels exchanged: 0.125 and 0.25
pub frame_of_two : (framed.gain ≡ half) × (framed.outputs ≡ quarter ∷ eighth ∷ [])
unfolding framed frame_of linked_from peak_abs_of detected shifted sums_of largest_from largest_of delayed_from stepping div is_nan
frame_of_two = (refl, refl)

-- the delay position not taken round: 2. The sample stored at another place, or in another channel's line
pub frame_stored : (framed.moving.pos ≡ 0) × (framed.moving.delay ≡ Number.zero ∷ two ∷ Number.zero ∷ one ∷ [])
unfolding framed frame_of linked_from peak_abs_of detected shifted sums_of largest_from largest_of delayed_from stepping div is_nan
frame_stored = (refl, refl)

-- ---- Change 7: the same with channel 0 left out, samples 4 and 2
abbrev without : Rules
without = record { linking = record { taps = []; counts = λ (c : ℕ). not (eqb c 0) }; leaves = λ (x : Float). flush_denormal x }

unfoldable pub left_out_mask : Framed
left_out_mask = frame_of without (one ∷ []) one 2 one moving (four ∷ two ∷ [])

-- the choice not asked, or read from the highest channel down: a gain of 0.25. The channel not scaled: 0.5 first. Its sample not kept for its line or its detector: 0 there
pub frame_without :
    (left_out_mask.gain ≡ half) × (left_out_mask.outputs ≡ quarter ∷ eighth ∷ []) × (left_out_mask.moving.delay ≡ Number.zero ∷ four ∷ Number.zero ∷ two ∷ []) × (get_or left_out_mask.moving.detector 0 nan ≡ four)
unfolding left_out_mask frame_of linked_from peak_abs_of detected shifted sums_of largest_from largest_of delayed_from stepping div is_nan
frame_without = (refl, refl, refl, refl)

-- ---- where the peak sat
-- a channel's voice: its sample, its detector's answer and that one's phase
abbrev voice : Float → Float → ℕ → Voice
voice sample answer p = record { counts = true; sample = sample; answer = answer; phase = Some p }

-- a detector named where a sample is as high, or the highest of equal channels
pub sample_first : seat_of one (voice half one 2 ∷ voice one half 1 ∷ voice one one 0 ∷ []) ≡ Some (Seat.OnSample 1)
unfolding seat_of sample_from between_from eq of_bits
sample_first = refl

-- of equal detectors the one of the highest channel, or the phase of another
pub lowest_detector : seat_of one (voice half half 3 ∷ voice half one 2 ∷ voice half one 1 ∷ []) ≡ Some (Seat.Between 1 2)
unfolding seat_of sample_from between_from eq of_bits
lowest_detector = refl

-- a channel that does not count named, by its sample or by its detector
pub counted_seats :
    (seat_of one (record { counts = false; sample = one; answer = one; phase = Some 0 } ∷ voice half one 1 ∷ voice one half 2 ∷ []) ≡ Some (Seat.OnSample 2))
    × (seat_of one (record { counts = false; sample = one; answer = one; phase = Some 0 } ∷ voice half one 1 ∷ []) ≡ Some (Seat.Between 1 1))
unfolding seat_of sample_from between_from eq of_bits
counted_seats = (refl, refl)

-- a place for a peak of 0.0
pub silent_nowhere : seat_of Number.zero (voice Number.zero Number.zero 0 ∷ []) ≡ None
unfolding seat_of eq
silent_nowhere = refl

-- a frame's peak, on the sample of channel 0
abbrev peak_of : Float → PeakAt
peak_of p = record { peak = p; seat = Some (Seat.OnSample 0) }

-- the last of equal frames, or frames counted from 1; a place where there is no frame, or only silence
pub first_frame : (place_of (peak_of half ∷ peak_of one ∷ peak_of one ∷ []) ≡ place_found_at 1 (Some (Seat.OnSample 0))) × (place_of [] ≡ no_place) × (place_of (peak_of Number.zero ∷ []) ≡ no_place)
unfolding place_of highest_of first_with lt eq of_bits
first_frame = (refl, refl, refl)
