-- Inputs at which the wrong programs of ARCHITECTURE.md's table would answer otherwise: each row computes what the definition answers there, and its comment names the wrong program.
use Prim.Native.Nat.{ℕ}
use mathlib.Core.Path.{◌≡◌, refl}
use mathlib.Core.Bool.{true, false}
use mathlib.Core.List.{List, [], ◌∷◌, ◌++◌}
use lib.ListN.{get_or, replicate}
use Rattle.bank.specs.Words.{float_in, float_out}
use Rattle.driver.specs.declared.state.KernelProcessor.{KernelProcessor}
use Rattle.state_bytes.specs.State.{layout, zeros_at, holds_state, state_in, words_out}

-- ---- reading
-- bytes of a later layout read as this one's: layout 2
pub later_layout : (holds_state (layout ∷ replicate 63 0) ≡ true) × (holds_state (0x2_7a75_7944 ∷ replicate 63 0) ≡ false)
unfolding holds_state zeros_at
later_layout = (refl, refl)

-- something in the room to grow passed over, and a shape, a flag or a ninth channel that there is not
pub room_empty :
    (holds_state (layout ∷ replicate 62 0 ++ (1 ∷ [])) ≡ false)
    × (holds_state (layout ∷ replicate 27 0 ++ (3 ∷ replicate 35 0)) ≡ false)
    × (holds_state (layout ∷ replicate 32 0 ++ (2 ∷ replicate 30 0)) ≡ false)
    × (holds_state (layout ∷ replicate 33 0 ++ (256 ∷ replicate 29 0)) ≡ false)
unfolding holds_state zeros_at
room_empty = (refl, refl, refl, refl)

-- two words exchanged, of every state: each of these is read from the word that it is written to
module _ (ws : List ℕ) where
  pub read_from :
      ((state_in ws).limiter.env.attack.pos ≡ get_or ws 13 0) × ((state_in ws).limiter.env.attack.tally ≡ get_or ws 14 0) × ((state_in ws).limiter.delay_pos ≡ get_or ws 16 0)
      × ((state_in ws).limiter.target ≡ float_in ws 17) × ((state_in ws).limiter.drained ≡ get_or ws 18 0)
  unfolding state_in
  read_from = (refl, refl, refl, refl, refl)

-- ---- writing, of every state
-- a row's position not kept (its tally in both places), the drained count lost (0), or the kept target forgotten (the gain in its place)
module _ (p : KernelProcessor) where
  pub written_to :
      (get_or (words_out p) 13 0 ≡ p.limiter.env.attack.pos) × (get_or (words_out p) 14 0 ≡ p.limiter.env.attack.tally) × (get_or (words_out p) 16 0 ≡ p.limiter.delay_pos)
      × (get_or (words_out p) 17 0 ≡ float_out p.limiter.target) × (get_or (words_out p) 18 0 ≡ p.limiter.drained)
  unfolding words_out
  written_to = (refl, refl, refl, refl, refl)
