-- The floor by plain scan: it shares nothing with the ring.
use Rattle.std.specs.Prelude.{ℕ, cond, List, [], ◌∷◌, take, Float}
use Rattle.std.specs.Float.Ieee.{lt}

-- the least of a gain and those before it, newest first; of equal ones the latest
abbrev pub least_of : Float → List Float → Float
least_of g [] = g
least_of g (h ∷ hs) = let m = least_of h hs in cond (lt m g) m g

-- the floor: the least among the latest look + 1 gains, or among all so far while there are fewer. g is the latest, gs those before it, newest first.
abbrev pub floor_of : ℕ → Float → List Float → Float
floor_of look g gs = least_of g (take look gs)
