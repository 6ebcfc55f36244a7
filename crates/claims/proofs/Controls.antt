-- The claim is false of each of the twenty-five limiters of specs/Controls.antt, and `GainClaim` of each of its three gain steps: a few calls after a start (`mono`, or `stereo` or `besides` where the comment says so; ControlsStart), and the one place of the claim that two constants contradict.
use Prim.Native.Nat.{ℕ}
use mathlib.Core.Path.{refl, ap, sym}
use mathlib.Core.Bool.{true}
use mathlib.Core.List.{List, [], ◌∷◌}
use native.Mathlib.Omega.{arith}
use lib.ListN.{length, get_or, replicate}
use lib.Ieee.{Float, nan, binary64, to_bits, lt, round}
use borrow.Author.Tests.{eqb-false}
use Rattle.arithmetic.specs.Number.{bits, one}
use Rattle.arithmetic.specs.Narrow.{narrowed}
use Rattle.arithmetic.specs.Reply.{Reply, Value, count, float}
use Rattle.arithmetic.proofs.Order.{clash}
use Rattle.audio.specs.Bytes.{bytes_out}
use Rattle.audio.specs.declared.format.Format.TheVariants.{F64, F32}
use Rattle.frame.specs.Frame.{Moving}
use Rattle.turns.specs.Machine.{Machine, lowest}
use Rattle.driver.specs.Calls.{gain_reply}
use Rattle.claims.specs.Session.{block, drain, parameter, reset}
use Rattle.claims.specs.Claim.{Claim}
use Rattle.claims.specs.GainSteps.{GainClaim}
use Rattle.claims.specs.Controls.{stepped_by, gain_step_by, frame_by, frames_by, rendered_by, stored_first, last_with, last_place_of}
use Rattle.claims.specs.Controls.{short_window, equals_stay, detector_stopped, row_kept, drained_kept, target_lost, no_delay, late_events, refusing, done_at_once, full_gain}
use Rattle.claims.specs.Controls.{no_gain, only_silence, reversed_weights, first_linked, release_exchanged, tally_kept, drop_invented, step_invents, ring_invented, ring_hidden, step_forgets, step_forges, cut_not_rounded, last_of_equals, blocks_hear_all, drains_hear_all, choice_forgotten}
use Rattle.claims.proofs.ControlsStart.{calling, booking, after_mono, after_stereo, after_besides, gains_after_mono}

-- a value as a number: a count, or a float's bits
abbrev value_bits : Value → ℕ
value_bits (count k) = k
value_bits (float x) = to_bits binary64 x

-- the n-th value of a reply
abbrev value_at : ℕ → Reply → ℕ
value_at n r = value_bits (get_or r.values n (count 0))

abbrev bits_at : ℕ → List Float → ℕ
bits_at n xs = to_bits binary64 (get_or xs n nan)

-- audio, each sample by its bits
abbrev audio_of : List ℕ → List ℕ
audio_of samples = bytes_out 8 samples

abbrev one_bits : ℕ
one_bits = 0x3ff0_0000_0000_0000

abbrev two_bits : ℕ
two_bits = 0x4000_0000_0000_0000

-- opened where a frame goes by given steps
unfoldable stepping : Type 0
unfolding calling stepped_by gain_step_by frame_by frames_by rendered_by
stepping = ⊥

-- 1: 2 in the first frame, then silence. In frame 11 the floor should still be the first frame's 0.5; the least of the eleven after it, by the detector's answers, is above that.
pub no_short_window : Claim short_window → ⊥
unfolding stepping booking
no_short_window claim =
    eqb-false 0x3fe0_71b2_fa96_22be 0x3fe0_0000_0000_0000 refl
    (ap (λ (f : Float). to_bits binary64 f)
    (after_mono short_window refl claim (block F64 0 12 [] (audio_of (two_bits ∷ replicate 11 0)) ∷ [])).0.frames.1.1.1.1.1.1.1.1.1.1.1.0.floor)

-- 2: two frames of silence leave two entries of 1, which is out of order: 19
pub no_equals_stay : Claim equals_stay → ⊥
unfolding stepping
no_equals_stay claim = eqb-false 19 0 refl (after_mono equals_stay refl claim (block F64 0 2 [] (audio_of (0 ∷ 0 ∷ [])) ∷ [])).0.ready

-- 3: twice 2, then a drain. In its fifth frame the detector finds a peak between the two that asks for a lower gain than 0.5.
pub no_detector_stopped : Claim detector_stopped → ⊥
unfolding calling booking
no_detector_stopped claim =
    eqb-false 0x3fe0_0000_0000_0000 0x3fd9_f221_4b18_c69b refl
    (ap (λ (f : Float). to_bits binary64 f)
    (after_mono detector_stopped refl claim (block F64 0 2 [] (audio_of (two_bits ∷ two_bits ∷ [])) ∷ drain F64 5 (audio_of (replicate 5 0)) ∷ [])).1.0.frames.1.1.1.1.0.floor)

-- 4: 2 in the first frame puts 0.5 in the row; after the reset it stands there beside a tally of 0, which is out of order: 19
pub no_row_kept : Claim row_kept → ⊥
unfolding calling booking
no_row_kept claim = eqb-false 19 0 refl (after_mono row_kept refl claim (block F64 0 1 [] (audio_of (two_bits ∷ [])) ∷ reset ∷ [])).1.0.ready

-- 5: a frame is drained, one is rendered; then a drain should find 11 frames again
pub no_drained_kept : Claim drained_kept → ⊥
unfolding calling booking
no_drained_kept claim =
    eqb-false 10 11 refl
    (ap (λ (r : Reply). value_at 0 r) (after_mono drained_kept refl claim (drain F64 1 (audio_of (one_bits ∷ [])) ∷ block F64 0 1 [] (audio_of (0 ∷ [])) ∷ drain F64 11 (audio_of (replicate 11 one_bits)) ∷ [])).1.1.0.reply)

-- 6: the threshold at −20 dB, a target of 0.1, and twice 1; then a drain. In its fifth frame the peak between the two asks for less than 0.09; at a target of 1 it would not, and the floor would stay.
pub no_target_lost : Claim target_lost → ⊥
unfolding calling booking
no_target_lost claim =
    clash true refl
    (sym (ap (λ (f : Float). lt f (bits 0x3fb7_0a3d_70a3_d70a))
    (after_mono target_lost refl claim (parameter 0 (bits 0xc034_0000_0000_0000) ∷ block F64 0 2 [] (audio_of (one_bits ∷ one_bits ∷ [])) ∷ drain F64 5 (audio_of (replicate 5 0)) ∷ [])).1.1.0.frames.1.1.1.1.0.floor))

-- 7: the first sample, 1, comes out at once, where silence should
pub no_no_delay : Claim no_delay → ⊥
unfolding stepping booking stored_first
no_no_delay claim = eqb-false 0x3ff0_0000_0000_0000 0 refl (ap (λ (xs : List Float). bits_at 0 xs) (after_mono no_delay refl claim (block F64 0 1 [] (audio_of (one_bits ∷ [])) ∷ [])).0.frames.0.outputs)

-- 8: an event stamped at the block's first frame, for −30 dB: the threshold should go by a step, to −24
pub no_late_events : Claim late_events → ⊥
unfolding calling booking
no_late_events claim =
    eqb-false 0 0xc038_0000_0000_0000 refl
    (ap (λ (r : Reply). value_at 0 r) ((after_mono late_events refl claim (block F64 0 1 (record { offset = 0; id = 0; value = lowest } ∷ []) (audio_of (0 ∷ [])) ∷ [])).0.values 0))

-- 9: a block of no frames
pub no_refusing : Claim refusing → ⊥
unfolding booking calling
no_refusing claim = eqb-false 20 0 refl (ap (λ (r : Reply). r.number) (after_mono refusing refl claim (block F64 0 0 [] [] ∷ [])).0.reply)

-- 10: a drain of no frames
pub no_done_at_once : Claim done_at_once → ⊥
unfolding booking calling
no_done_at_once claim = eqb-false 1 0 refl (ap (λ (r : Reply). value_at 1 r) (after_mono done_at_once refl claim (drain F64 0 [] ∷ [])).0.reply)

-- 11: 2 in the first frame: the row is 0.5 alone, and so should the gain be
pub no_full_gain : Claim full_gain → ⊥
unfolding stepping booking
no_full_gain claim = eqb-false 0x3ff0_0000_0000_0000 0x3fe0_0000_0000_0000 refl (ap (λ (f : Float). to_bits binary64 f) (after_mono full_gain refl claim (block F64 0 1 [] (audio_of (two_bits ∷ [])) ∷ [])).0.frames.0.follows)

-- 12: in silence the gain should be 1
pub no_no_gain : Claim no_gain → ⊥
unfolding stepping booking
no_no_gain claim = eqb-false 0 0x3ff0_0000_0000_0000 refl (ap (λ (f : Float). to_bits binary64 f) (after_mono no_gain refl claim (block F64 0 1 [] (audio_of (0 ∷ [])) ∷ [])).0.frames.0.follows)

-- 13: 1 in the first frame, which asks for no less than full gain; then a drain. Its eleventh frame should give out that 1.
pub no_only_silence : Claim only_silence → ⊥
unfolding stepping booking
no_only_silence claim =
    eqb-false 0 0x3ff0_0000_0000_0000 refl
    (ap (λ (xs : List Float). bits_at 0 xs)
    (after_mono only_silence refl claim (block F64 0 1 [] (audio_of (one_bits ∷ [])) ∷ drain F64 11 (audio_of (replicate 11 0)) ∷ [])).1.0.frames.1.1.1.1.1.1.1.1.1.1.0.outputs)

-- 14, stereo: 2 in the first frame: the row is 0.5, 1, 1, and the mean should be 0.875 + 2^-50; in reverse it is 0.875 + 2^-51
pub no_reversed_weights : Claim reversed_weights → ⊥
unfolding stepping booking
no_reversed_weights claim =
    eqb-false 0x3fec_0000_0000_0004 0x3fec_0000_0000_0008 refl
    (ap (λ (f : Float). to_bits binary64 f) (after_stereo reversed_weights refl claim (block F64 0 1 [] (audio_of (two_bits ∷ 0 ∷ [])) ∷ [])).0.frames.0.mean)

-- 15, stereo: 2 in the second channel's first frame: the floor should be 0.5
pub no_first_linked : Claim first_linked → ⊥
unfolding stepping booking
no_first_linked claim =
    eqb-false 0x3ff0_0000_0000_0000 0x3fe0_0000_0000_0000 refl
    (ap (λ (f : Float). to_bits binary64 f) (after_stereo first_linked refl claim (block F64 0 1 [] (audio_of (0 ∷ two_bits ∷ [])) ∷ [])).0.frames.0.floor)

-- 16, stereo: 2 in the first frame, then silence. In frame 15 the first frame's 0.5 has left the window, so that floor and mean rise, and the gain, which was 0.5, should rise a little; it falls.
pub no_release_exchanged : Claim release_exchanged → ⊥
unfolding stepping booking
no_release_exchanged claim =
    eqb-false 0x3fdf_ffdb_a966_5d66 0x3fe0_0012_2b4c_d155 refl
    (ap (λ (f : Float). to_bits binary64 f)
    (after_stereo release_exchanged refl claim (block F64 0 16 [] (audio_of (two_bits ∷ replicate 31 0)) ∷ [])).0.frames.1.1.1.1.1.1.1.1.1.1.1.1.1.1.1.0.follows)

-- 17: 2 in the first frame, then silence: in the second frame 0.5 takes the place of 0.5, and the tally should stay 1
pub no_tally_kept : Claim tally_kept → ⊥
unfolding stepping booking
no_tally_kept claim = eqb-false 2 1 refl (after_mono tally_kept refl claim (block F64 0 2 [] (audio_of (two_bits ∷ 0 ∷ [])) ∷ [])).0.frames.1.0.tally

-- 18: the first frame drops nothing and keeps its entry: with the drop that is told, 2 frames would have been taken
pub no_drop_invented : Claim drop_invented → ⊥
unfolding stepping booking
no_drop_invented claim = eqb-false 2 1 refl (after_mono drop_invented refl claim (block F64 0 1 [] (audio_of (0 ∷ [])) ∷ [])).0.frames.0.dropped

-- 19: a step at gain 1 drops nothing and keeps its entry
pub no_step_invents : GainClaim step_invents → ⊥
unfolding calling gain_reply
no_step_invents claim =
    let told = (gains_after_mono step_invents claim (one ∷ [])).0.told (omega arith) in
    omega (arith, told.counted, ap (λ (r : Reply). value_at 1 r) told.reply)

-- 20: the first frame keeps its entry
pub no_ring_invented : Claim ring_invented → ⊥
unfolding calling booking
no_ring_invented claim = eqb-false 0 1 refl (after_mono ring_invented refl claim (block F64 0 1 [] (audio_of (0 ∷ [])) ∷ [])).0.frames.0.kept

-- 21: there are 12 marks
pub no_ring_hidden : Claim ring_hidden → ⊥
unfolding calling booking
no_ring_hidden claim =
    eqb-false 12 0 refl (ap (λ (mv : Moving). length mv.env.keeping.marks) (after_mono ring_hidden refl claim (block F64 0 1 [] (audio_of (0 ∷ [])) ∷ [])).0.left)

-- 22: a line of 11 places
pub no_step_forgets : GainClaim step_forgets → ⊥
unfolding calling gain_reply
no_step_forgets claim = eqb-false 0 11 refl (ap (λ (m : Machine). length m.stores.delay) ((gains_after_mono step_forgets claim (one ∷ [])).0.told (omega arith)).apart)

-- 23: a step at gain 1 keeps its entry
pub no_step_forges : GainClaim step_forges → ⊥
unfolding calling gain_reply booking
no_step_forges claim = eqb-false 0 1 refl ((gains_after_mono step_forges claim (one ∷ [])).0.told (omega arith)).kept

-- 24: 1 − 2^-26 in a block of f64, which asks for no less than full gain; then a drain of f32. Its eleventh frame should give out 1, the nearest f32; it gives out 1 − 2^-24.
pub no_cut_off : Claim cut_not_rounded → ⊥
unfolding calling booking narrowed round
no_cut_off claim =
    eqb-false 0x3fef_ffff_e000_0000 0x3ff0_0000_0000_0000 refl
    (ap (λ (xs : List Float). bits_at 0 xs)
    (after_mono cut_not_rounded refl claim (block F64 0 1 [] (audio_of (0x3fef_ffff_f800_0000 ∷ [])) ∷ drain F32 11 (replicate 44 0) ∷ [])).1.0.frames.1.1.1.1.1.1.1.1.1.1.0.outputs)

-- 25: 1 in both frames, which is the linked peak of both: the block should name the first of them, frame 0
pub no_last_of_equals : Claim last_of_equals → ⊥
unfolding calling booking last_with last_place_of
no_last_of_equals claim = eqb-false 1 0 refl (ap (λ (r : Reply). value_at 1 r) (after_mono last_of_equals refl claim (block F64 0 2 [] (audio_of (one_bits ∷ one_bits ∷ [])) ∷ [])).0.reply)

-- 26, besides: 2 in the channel that is left out, silence in the other: the floor should be 1
pub no_blocks_hear_all : Claim blocks_hear_all → ⊥
unfolding calling booking
no_blocks_hear_all claim =
    eqb-false 0x3fe0_0000_0000_0000 0x3ff0_0000_0000_0000 refl
    (ap (λ (f : Float). to_bits binary64 f) (after_besides blocks_hear_all refl claim (block F64 0 1 [] (audio_of (0 ∷ two_bits ∷ [])) ∷ [])).0.frames.0.floor)

-- 27, besides: twice 2 in the channel that is left out, then a drain. In its fifth frame that channel's detector finds a peak between the two; the floor should be 1.
pub no_drains_hear_all : Claim drains_hear_all → ⊥
unfolding calling booking
no_drains_hear_all claim =
    eqb-false 0x3fd9_f221_4b18_c69b 0x3ff0_0000_0000_0000 refl
    (ap (λ (f : Float). to_bits binary64 f)
    (after_besides drains_hear_all refl claim (block F64 0 2 [] (audio_of (0 ∷ 0 ∷ two_bits ∷ two_bits ∷ [])) ∷ drain F64 5 (audio_of (replicate 10 0)) ∷ [])).1.0.frames.1.1.1.1.0.floor)

-- 28, besides: a reset, and then 2 in the channel that is left out: the floor should be 1
pub no_choice_forgotten : Claim choice_forgotten → ⊥
unfolding calling booking
no_choice_forgotten claim =
    eqb-false 0x3fe0_0000_0000_0000 0x3ff0_0000_0000_0000 refl
    (ap (λ (f : Float). to_bits binary64 f) (after_besides choice_forgotten refl claim (reset ∷ block F64 0 1 [] (audio_of (0 ∷ two_bits ∷ [])) ∷ [])).1.0.frames.0.floor)
