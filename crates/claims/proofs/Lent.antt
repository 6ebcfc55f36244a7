-- The stores of the starred rows fit, and their weights are accepted.
use Prim.Native.Nat.{ℕ, ◌+◌, ◌*◌}
use mathlib.Core.Path.{◌≡◌, refl}
use mathlib.Core.Bool.{true}
use mathlib.Core.List.{List, [], ◌∷◌}
use lib.Dec.{eqb}
use lib.ListN.{length, length-replicate}
use lib.Ieee.{Float, of_bits, lt, le}
use borrow.Author.Tests.{eq-eqb}
use Rattle.std.proofs.Common.{None}
use Rattle.arithmetic.specs.Number.{one}
use Rattle.arithmetic.proofs.Order.{and_yes}
use Rattle.settings.specs.Derived.{row_of}
use Rattle.settings.specs.Weights.{accepted}
use Rattle.settings.specs.House.{house_start, house_fits, house_of}
use Rattle.settings.proofs.Stretches.{house_accepted, house_length}
use Rattle.limiter.specs.Stores.{lengths_of, lengths_fit}
use Rattle.limiter.specs.Prepare.{stores_refusal}
use Rattle.claims.specs.Tent.{tent}
use Rattle.claims.specs.Rows.{stereo, lent, lent72, lent11, lent4096}

-- ---- weights
one_accepted : accepted (one ∷ []) ≡ true
unfolding accepted lt le
one_accepted = refl

tent_accepted : accepted tent ≡ true
unfolding accepted tent of_bits lt le
tent_accepted = refl

-- ---- lengths: but for the weights they fit
pub lent_lengths : (channels look : ℕ) (weights : List Float) (x : Float) (mark : ℕ) → lengths_fit channels look (lengths_of (lent channels look weights x mark)) ≡ eqb (length weights) (row_of look)
lent_lengths channels look weights x mark =
    rw (
      length-replicate (channels * look) x,
      length-replicate (look + 1) mark,
      length-replicate (look + 1) x,
      length-replicate (row_of look) x,
      length-replicate (channels * 12) x,
      eq-eqb (channels * look) (channels * look) refl,
      eq-eqb (look + 1) (look + 1) refl,
      eq-eqb (row_of look) (row_of look) refl,
      eq-eqb (channels * 12) (channels * 12) refl,
      and_yes (eqb (length weights) (row_of look)),
    ) (and_yes (eqb (length weights) (row_of look)))

-- ---- neither 29, 16 nor 17: 48,000, stereo, no house table asked for
none_refused : (look : ℕ) (weights : List Float) (x : Float) (mark : ℕ) → length weights ≡ row_of look → accepted weights ≡ true
    → stores_refusal (stereo None) look (lengths_of (lent 2 look weights x mark)) weights ≡ 0
none_refused look weights x mark e a = rw (lent_lengths 2 look weights x mark, eq-eqb (length weights) (row_of look) e, a) refl

-- the Rust's weights for look 72 are a stretch of the house's
fits_72 : house_fits 48000 72 ≡ true
unfolding house_start
fits_72 = refl

tent_length : length tent ≡ 4085
unfolding tent
tent_length = refl

module _ (x : Float) (mark : ℕ) where
  pub passes_72 : stores_refusal (stereo None) 72 (lengths_of (lent72 x mark)) (house_of 48000 72) ≡ 0
  passes_72 = none_refused 72 (house_of 48000 72) x mark (house_length 48000 72 fits_72) (house_accepted 48000 72 fits_72)

  pub passes_11 : stores_refusal (stereo None) 11 (lengths_of (lent11 x mark)) (one ∷ []) ≡ 0
  passes_11 = none_refused 11 (one ∷ []) x mark refl one_accepted

  pub passes_4096 : stores_refusal (stereo None) 4096 (lengths_of (lent4096 x mark)) tent ≡ 0
  passes_4096 = none_refused 4096 tent x mark tent_length tent_accepted
