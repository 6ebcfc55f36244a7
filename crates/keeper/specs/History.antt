-- A keeper over a list of gains. Lists of gains are newest first throughout, like the ring.
use Rattle.std.specs.Prelude.{ℕ, ◌+◌, ◌≤◌, ◌≡◌, true, List, [], ◌∷◌, length, Float}
use Rattle.arithmetic.specs.Reply.{Reply, Value, count, float}
use Rattle.keeper.specs.Ring.{Entry, ring_step}
use Rattle.keeper.specs.Keeper.{Keeping, look_taken, stores_fit, step_of}

-- the ring after sanitized gains, from no entry
abbrev pub ring_after : ℕ → List Float → List Entry
ring_after look [] = []
ring_after look (g ∷ gs) = ring_step look (length gs) g (ring_after look gs)

-- a keeper, and its stores, after steps with these gains, any f64; a refused step changes nothing
abbrev pub keeping_after : Keeping → List Float → Keeping
keeping_after k [] = k
keeping_after k (x ∷ xs) = (step_of (keeping_after k xs) x).keeping

-- what these steps replied
abbrev pub replies_after : Keeping → List Float → List Reply
replies_after k [] = []
replies_after k (x ∷ xs) = (step_of (keeping_after k xs) x).reply ∷ replies_after k xs

-- the drop count that a reply reports; a refused step drops nothing
abbrev pub drops_in : List Value → ℕ
drops_in (float f ∷ count dropped ∷ vs) = dropped
drops_in (float f ∷ float g ∷ vs) = 0
drops_in (float f ∷ []) = 0
drops_in (count n ∷ vs) = 0
drops_in [] = 0

-- the drops that these steps reported, together
abbrev pub drops_since : Keeping → List Float → ℕ
drops_since k [] = 0
drops_since k (x ∷ xs) = drops_in (step_of (keeping_after k xs) x).reply.values + drops_since k xs

-- a start: no entry and no frame, with a look and stores that a step takes. What the stores hold is free.
pub record Start (k : Keeping) : Type 0 where
  pub taken : look_taken k.keeper.look ≡ true
  pub fit : stores_fit k.keeper.look k.marks k.minima ≡ true
  pub inside : k.keeper.head ≤ k.keeper.look
  pub no_entry : k.keeper.len ≡ 0
  pub no_frame : k.keeper.frame ≡ 0
