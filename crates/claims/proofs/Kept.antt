-- The entries that the floor keeper keeps are as many as the book's plain scan finds (`kept_in`), after every history of gains.
use mathlib.Core.Path.{◌≡◌, refl, sym, ap, ◌∙◌}
use mathlib.Core.Bool.{Bool, true, false, cond}
use mathlib.Core.List.{List, [], ◌∷◌}
use Prim.Native.Nat.{ℕ, zero, suc, ◌+◌}
use lib.Dec.{T}
use lib.ListN.{length, take}
use lib.Ieee.{Float, lt}
use lib.Ieee.Scale.{finite}
use Rattle.arithmetic.proofs.Order.{clash, lt_not_lt}
use Rattle.keeper.specs.Ring.{Entry, drop_back}
use Rattle.keeper.specs.Keeper.{Keeping}
use Rattle.keeper.specs.History.{ring_after}
use Rattle.keeper.proofs.Places.{ring_length}
use Rattle.keeper.proofs.Scan.{AllFinite}
use Rattle.keeper.proofs.Window.{marked, wedge_of, ring_window}
use Rattle.keeper.proofs.Floor.{Follows}
use Rattle.claims.specs.Book.{kept_from, kept_in}

-- the plain scan on entries: those below m and below every later one
abbrev below : Float → List Entry → List Entry
below m [] = []
below m (e ∷ es) = cond (lt e.minimum m) (e ∷ below e.minimum es) (below m es)

-- the latest n entries of a history
abbrev latest_of : ℕ → List Float → List Entry
latest_of n gs = take n (marked gs)

-- where h is not below m, what m drops of those below h leaves those below m
below_lower : (n : ℕ) (gs : List Float) (m h : Float) → T (finite m) → T (finite h) → AllFinite gs → lt h m ≡ false → drop_back m (below h (latest_of n gs)) ≡ below m (latest_of n gs)
below_lower zero gs m h p q r k = refl
below_lower (suc n) [] m h p q r k = refl
below_lower (suc n) (g ∷ gs) m h p q r k = go (lt g h) (lt g m) refl refl (below_lower n gs m g p r.0 r.1) (below_lower n gs m h p q r.1 k)
  where
    go : (b d : Bool) → lt g h ≡ b → lt g m ≡ d → (lt g m ≡ false → drop_back m (below g (latest_of n gs)) ≡ below m (latest_of n gs))
        → drop_back m (below h (latest_of n gs)) ≡ below m (latest_of n gs) → drop_back m (below h (latest_of (suc n) (g ∷ gs))) ≡ below m (latest_of (suc n) (g ∷ gs))
    go true true u v first later = rw (u, v) refl
    go true false u v first later = rw (u, v) (first v)
    go false true u v first later = clash (lt g h) (lt_not_lt g h m r.0 q p v k) u
    go false false u v first later = rw (u, v) later

-- what m leaves of a wedge
wedge_below : (n : ℕ) (gs : List Float) (m : Float) → T (finite m) → AllFinite gs → drop_back m (wedge_of (latest_of n gs)) ≡ below m (latest_of n gs)
wedge_below zero gs m p r = refl
wedge_below (suc n) [] m p r = refl
wedge_below (suc n) (g ∷ gs) m p r = go (lt g m) refl (wedge_below n gs g r.0 r.1)
  where
    go : (b : Bool) → lt g m ≡ b → drop_back g (wedge_of (latest_of n gs)) ≡ below g (latest_of n gs) → drop_back m (wedge_of (latest_of (suc n) (g ∷ gs))) ≡ below m (latest_of (suc n) (g ∷ gs))
    go true v later = rw v (ap {B = List Entry} (λ l. record { mark = length gs; minimum = g } ∷ l) later)
    go false v later = rw v (ap (drop_back m) later ∙ below_lower n gs m g p r.0 r.1 v)

-- as many as the scan of the gains counts
below_many : (n : ℕ) (gs : List Float) (m : Float) → length (below m (latest_of n gs)) ≡ kept_from m (take n gs)
unfolding kept_from
below_many zero gs m = refl
below_many (suc n) [] m = refl
below_many (suc n) (g ∷ gs) m = go (lt g m) refl (below_many n gs g) (below_many n gs m)
  where
    go : (b : Bool) → lt g m ≡ b → length (below g (latest_of n gs)) ≡ kept_from g (take n gs) → length (below m (latest_of n gs)) ≡ kept_from m (take n gs)
        → length (below m (latest_of (suc n) (g ∷ gs))) ≡ kept_from m (take (suc n) (g ∷ gs))
    go true v first later = rw v (ap suc first)
    go false v first later = rw v later

-- the ring after a history
ring_kept : (look : ℕ) (gs : List Float) → AllFinite gs → length (ring_after look gs) ≡ kept_in look gs
unfolding kept_in
ring_kept look [] r = refl
ring_kept look (g ∷ gs) r = ap length (ring_window look (g ∷ gs)) ∙ ap suc (ap length (wedge_below look gs g r.0 r.1) ∙ below_many look gs g)

-- a keeper and its stores
pub follows_kept : (k : Keeping) (gs : List Float) → Follows k gs → k.keeper.len ≡ kept_in k.keeper.look gs
follows_kept k gs f = sym (ring_length (k.keeper.look + 1) k.marks k.minima k.keeper.head k.keeper.len) ∙ ap length f.ring ∙ ring_kept k.keeper.look gs f.gains
