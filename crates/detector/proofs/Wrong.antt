-- Inputs at which the wrong programs of ARCHITECTURE.md's table would answer otherwise: each row computes what the definition answers there, and its comment names the wrong program.
use mathlib.Core.Path.{◌≡◌, refl}
use mathlib.Core.Bool.{true, false}
use mathlib.Core.List.{List, [], ◌∷◌, map, reverse}
use lib.ListN.{replicate}
use lib.Ieee.{Float, nan, inf, binary64, add, mul, neg, lt, le, eq, of_bits, to_bits}
use Rattle.arithmetic.specs.Number.{bits, zero, one}
use Rattle.detector.specs.Taps.{taps, phase0, phase1, phase2, phase3}
use Rattle.detector.specs.Oversample.{sum_from, sum_of, sums_of, larger, largest_from, largest_of, first_at, phase_of, shifted, detected, peak_abs_of}
use Rattle.detector.specs.Run.{pushes_of, peaks_abs_of}
use Rattle.detector.specs.History.{silent}
use Rattle.std.specs.Prelude.{Some, None}
use Rattle.detector.specs.Level.{share, level_of, all_within, lies_within}

-- what an `unfolding` line names, so that a push computes
unfoldable pushing : Type 0
unfolding of_bits to_bits add mul lt taps phase0 phase1 phase2 phase3 sum_from sum_of sums_of larger largest_from largest_of shifted detected peak_abs_of pushes_of peaks_abs_of
pushing = ⊥

-- taps read oldest first: a single 1.0 on silence meets each phase's first tap, and would meet its last one
pub newest_first_lem :
    (to_bits binary64 (peak_abs_of taps silent one).peak ≡ 0x3f4f_d62a_b99d_a6bf)
    × (to_bits binary64 (peak_abs_of (map (λ (phase : List Float). reverse phase) taps) silent one).peak ≡ 0x3f4f_d62a_b99d_a6db)
unfolding pushing
newest_first_lem = (refl, refl)

-- a NaN sum that wins, be it the first or the last
pub nan_sum_loses : (largest_of (nan ∷ one ∷ []) ≡ one) × (largest_of (one ∷ nan ∷ []) ≡ one)
unfolding largest_of largest_from larger lt
nan_sum_loses = (refl, refl)

-- the last of equal phases, or any but the first infinite one; a NaN's; one of a peak of 0.0
pub first_phase :
    (phase_of (share ∷ neg one ∷ one ∷ []) ≡ Some 1) × (phase_of (one ∷ inf true ∷ inf false ∷ []) ≡ Some 1)
    × (phase_of (nan ∷ one ∷ []) ≡ Some 1) × (phase_of (nan ∷ zero ∷ []) ≡ None)
unfolding phase_of first_at largest_of largest_from larger lt eq neg of_bits
first_phase = (refl, refl, refl, refl)

-- a store of another length shifted: 11 samples stay as they are, and the answer is 0.0
pub short_store_left : peak_abs_of taps (replicate 11 one) one ≡ record { peak = zero; phase = None; store = replicate 11 one }
unfolding peak_abs_of
short_store_left = refl

-- the store moved from its newest end: 1.0 would stand in all places but the first
pub store_moves : (peak_abs_of taps (one ∷ share ∷ replicate 10 zero) zero).store ≡ zero ∷ one ∷ share ∷ replicate 9 zero
unfolding pushing
store_moves = refl

-- the store not shifted between the pushes of a run: the second 1.0 would meet the same taps as the first
pub run_shifts :
    map (λ (x : Float). to_bits binary64 x) (peaks_abs_of taps silent (one ∷ one ∷ []) (zero ∷ zero ∷ [])).peaks ≡ 0x3f4f_d62a_b99d_a6bf ∷ 0x3f82_fb4b_0208_206e ∷ []
unfolding pushing
run_shifts = refl

-- a run of 33 samples taken: its answers are left alone
pub long_run_left : (peaks_abs_of taps silent (replicate 33 one) (replicate 33 zero)).peaks ≡ replicate 33 zero
unfolding peaks_abs_of
long_run_left = refl

-- ---- quiet runs
-- the ceiling itself as its level: 1. A level for a ceiling below 2^−13
pub level_below_ceiling : (level_of one ≡ share) × (level_of (bits 0x3f1f_ffff_ffff_ffff) ≡ zero)
unfolding level_of le lt eq mul of_bits
level_below_ceiling = (refl, refl)

-- a NaN in the store passed over; a sample above the level passed over
pub not_quiet : (lies_within (nan ∷ replicate 11 zero) [] share ≡ false) × (lies_within silent (one ∷ []) share ≡ false) × (lies_within silent (share ∷ []) share ≡ true)
unfolding lies_within all_within le lt eq neg of_bits
not_quiet = (refl, refl, refl)

-- a sample passed over that is not silent, where the ceiling is 0 or has no level
pub only_silence_lem : (lies_within silent (zero ∷ neg zero ∷ []) (level_of zero) ≡ true) × (lies_within silent (bits 1 ∷ []) (level_of zero) ≡ false)
unfolding lies_within all_within level_of le lt eq neg of_bits
only_silence_lem = (refl, refl)

-- the run's samples remembered oldest first, or the store left as it was
pub newest_remembered : (pushes_of taps silent (one ∷ share ∷ [])).store ≡ share ∷ one ∷ replicate 10 zero
unfolding pushing of_bits
newest_remembered = refl
