-- Inputs at which the wrong programs of ARCHITECTURE.md's table would answer otherwise: each row computes what the definition answers there, and its comment names the wrong program.
use Prim.Native.Nat.{ℕ}
use mathlib.Core.Path.{◌≡◌, refl}
use mathlib.Core.Bool.{true, false}
use mathlib.Core.List.{List, [], ◌∷◌, ◌++◌}
use lib.ListN.{get_or, replicate}
use Rattle.std.proofs.Common.{Some, None}
use lib.Ieee.{Float}
use Rattle.arithmetic.specs.Number.{largest}
use Rattle.arithmetic.specs.Reply.{Value, finished, refused, numbered, count}
use Rattle.limiter.specs.Stores.{Stores}
use Rattle.turns.specs.Machine.{Machine}
use Rattle.turns.specs.Block.{placed}
use Rattle.frame.specs.declared.highest.Seat.{Seat}
use Rattle.driver.proofs.Wrong.{machine, judging}
use Rattle.driver.specs.Calls.{parameter_of, gain_of, gain_told}
use Rattle.state_bytes.specs.State.{state_out, processor_of}
use Rattle.host.specs.Answer.{reply_words, answered, words_of, answered_by}
use Rattle.host.specs.Host.{returned, parameter_by, cap_of, asked_of, left_in, whole_needed}

-- ---- the state, of every call
module _ (answer state : List ℕ) (m : Machine) where
  -- a finished call whose state is not kept
  pub finished_kept : (values : List Value) → (returned answer state (finished values) m).state ≡ state_out (processor_of m)
  finished_kept values = refl

  -- a refused call that writes the state
  pub refused_left : (returned answer state (numbered 20) m).state ≡ state
  refused_left = refl

-- ---- the answer's words
-- entries kept told as dropped, of every gain step
pub dropped_then_kept : (m : Machine) (x : Float) → let g = gain_of m x in let ws = words_of (reply_words (gain_told g)) in (get_or ws 1 0 ≡ g.dropped) × (get_or ws 2 0 ≡ g.env.keeping.keeper.len)
dropped_then_kept m x = (refl, refl)

-- words past the eighth cleared, or a short buffer written past its end
pub eight_words :
    (answered (replicate 9 7) (words_of (reply_words (refused 24 []))) ≡ replicate 8 0 ++ (7 ∷ []))
    × (answered (7 ∷ 7 ∷ []) (words_of (reply_words (refused 7 (count 80 ∷ count 79 ∷ [])))) ≡ 80 ∷ 79 ∷ [])
unfolding answered
eight_words = (refl, refl)

-- a place that a block does not tell who lends it one word
pub one_word_told : (i c : ℕ) → answered_by (7 ∷ []) (placed i (Some (Seat.OnSample c))) ≡ 1 ∷ []
unfolding answered
one_word_told i c = refl

-- a NaN whose sign and payload are lost in 23: 7ff8000000000000
pub nan_given_back : (parameter_by 0 0xfff0_0000_0000_0001 (machine 8000 0 1)).reply ≡ refused 23 (count 0 ∷ count 0xfff0_0000_0000_0001 ∷ [])
unfolding parameter_of judging
nan_given_back = refl

-- ---- caps and bytes
-- a cap of 0 read as no cap
pub cap_of_nothing : (cap_of 1 0 ≡ Some 0) × (cap_of 0 5 ≡ None)
cap_of_nothing = (refl, refl)

-- the bank's 80 bytes left out, and a sum that wraps where the bytes are not counted: 79
pub whole_bytes : (whole_needed 2 72 ≡ 4336) × (whole_needed 9 72 ≡ largest)
whole_bytes = (refl, refl)

-- ---- a house table
-- a `house` of 2 read as not asked; and weights lent to a buffer that holds no state left to setup: they stay
pub asked_by_any : (asked_of 2 ≡ true) × (asked_of 0 ≡ false)
asked_by_any = (refl, refl)

pub weights_stay : (stores later : Stores) → (left_in [] stores later).weights ≡ stores.weights
weights_stay stores later = refl
