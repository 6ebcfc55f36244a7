-- The ring of kept entries, and a gain step on it, as document 01 says it. A ring is a list of entries, NEWEST FIRST: its back is the list's head, its front the list's end.
use Rattle.std.specs.Prelude.{ℕ, zero, suc, ◌+◌, ◌-◌, Bool, cond, List, [], ◌∷◌, ltb, get_or, Float}
use Rattle.std.specs.Float.{nan}
use Rattle.std.specs.Float.Ieee.{lt}

-- the place of index i in a store of cap places, for an i of at most one turn more
abbrev pub wrap : ℕ → ℕ → ℕ
wrap cap i = cond (ltb i cap) i (i - cap)

-- a kept entry: the frame that it came with, and its gain
pub record Entry : Type 0 where
  pub mark : ℕ
  pub minimum : Float

abbrev pub entry_at : List ℕ → List Float → ℕ → Entry
entry_at marks minima i = record { mark = get_or marks i 0; minimum = get_or minima i nan }

-- the kept entries as the stores hold them: len of them, from head on, round at cap
abbrev pub ring_of : ℕ → List ℕ → List Float → ℕ → ℕ → List Entry
ring_of cap marks minima head zero = []
ring_of cap marks minima head (suc n) = entry_at marks minima (wrap cap (head + n)) ∷ ring_of cap marks minima head n

-- from the ring's back drop each entry not below the gain
abbrev pub drop_back : Float → List Entry → List Entry
drop_back gain [] = []
drop_back gain (e ∷ es) = cond (lt e.minimum gain) (e ∷ es) (drop_back gain es)

-- an entry whose frame is more than look back
abbrev pub stale : ℕ → ℕ → Entry → Bool
stale look frame e = ltb look (frame - e.mark)

-- then from the front each entry whose frame is more than look back: an entry stays where one in front of it stays, or where it is not stale itself
abbrev pub keep_behind : ℕ → ℕ → Entry → List Entry → List Entry
keep_behind look frame e [] = cond (stale look frame e) [] (e ∷ [])
keep_behind look frame e (f ∷ fs) = e ∷ f ∷ fs

abbrev pub drop_front : ℕ → ℕ → List Entry → List Entry
drop_front look frame [] = []
drop_front look frame (e ∷ es) = keep_behind look frame e (drop_front look frame es)

-- append
abbrev pub ring_step : ℕ → ℕ → Float → List Entry → List Entry
ring_step look frame gain ring = record { mark = frame; minimum = gain } ∷ drop_front look frame (drop_back gain ring)

-- the front of a ring whose newest entry is e
abbrev pub front_of : Entry → List Entry → Entry
front_of e [] = e
front_of e (f ∷ fs) = front_of f fs
