-- Inputs at which the wrong programs of ARCHITECTURE.md's table would answer otherwise: each row computes what the definition answers there, and its comment names the wrong program.
-- The wrong gain steps stand in Rows.antt: `half_then_ones` tells floors, drops and entries kept of 13 steps.
use Prim.Native.Nat.{ℕ, ◌^◌}
use mathlib.Core.Path.{◌≡◌, refl}
use mathlib.Core.Bool.{true, false}
use mathlib.Core.List.{List, [], ◌∷◌}
use lib.ListN.{replicate}
use lib.Ieee.{Float, of_bits, lt, le}
use Rattle.arithmetic.specs.Number.{zero, one}
use Rattle.arithmetic.specs.Reply.{refused}
use Rattle.keeper.specs.InOrder.{is_in_order}
use Rattle.keeper.specs.Keeper.{keeping_at, setup_of, stepped_of, step_of}
use Rattle.keeper.specs.Run.{floors_of}
use Rattle.keeper.proofs.Rows.{half, set_up11}

-- ---- setup
-- a look of 4,097 taken
pub look_4097 : (setup_of 4097 [] []).reply ≡ refused 12 []
unfolding setup_of
look_4097 = refl

-- minima cleared where 16 is answered: with no place for a mark, the minima stay
pub minima_left : ((setup_of 11 [] (replicate 12 one)).reply ≡ refused 16 []) × ((setup_of 11 [] (replicate 12 one)).keeping.minima ≡ replicate 12 one)
unfolding setup_of
minima_left = (refl, refl)

-- ---- step
-- 19 before 16: the head is past the look, and a mark is missing
pub sixteen_first : (step_of (keeping_at (record { look = 11; head = 12; len = 0; frame = 0 }) (replicate 11 0) (replicate 12 zero)) one).reply ≡ refused 16 []
unfolding step_of is_in_order
sixteen_first = refl

-- 22 a frame late: after 2^40 frames, the last one an entry, there is no room for one more
pub frames_spent :
    (step_of (keeping_at (record { look = 11; head = 0; len = 1; frame = 2 ^ 40 }) (1099511627775 ∷ replicate 11 0) (one ∷ replicate 11 zero)) one).reply ≡ refused 22 []
unfolding step_of is_in_order lt le
frames_spent = refl

-- ---- in order: two entries, at frames 0 and 1, of look 11
abbrev two_entries : Float → Float → List Float
two_entries a b = a ∷ b ∷ replicate 10 zero

abbrev two_marks : ℕ → ℕ → List ℕ
two_marks a b = a ∷ b ∷ replicate 10 0

-- taken: 0.5, then 1
pub rising_taken : is_in_order 11 0 2 2 (two_marks 0 1) (two_entries half one) ≡ true
unfolding is_in_order of_bits lt le
rising_taken = refl

-- minima that rise, but not strictly, taken
pub equal_minima : is_in_order 11 0 2 2 (two_marks 0 1) (two_entries half half) ≡ false
unfolding is_in_order of_bits lt le
equal_minima = refl

-- an entry of look + 1 frames back taken: of frame 0, where the newest is of frame 12
pub stale_front : is_in_order 11 0 2 13 (two_marks 0 12) (two_entries half one) ≡ false
unfolding is_in_order of_bits lt le
stale_front = refl

-- no entry after a frame taken
pub no_entry_left : is_in_order 11 0 0 1 (two_marks 0 1) (two_entries half one) ≡ false
unfolding is_in_order of_bits lt le
no_entry_left = refl

-- ---- a run of steps
-- each gain in its floor's place: 0.5 and 1. Each step from the run's first keeper: 0.5 and 1, one frame taken
pub floors_in_turn : ((floors_of set_up11 (half ∷ one ∷ [])).floors ≡ half ∷ half ∷ []) × ((floors_of set_up11 (half ∷ one ∷ [])).keeping.keeper.frame ≡ 2)
unfolding floors_of set_up11 stepped_of of_bits lt le
floors_in_turn = (refl, refl)
