-- The plain scan: of equal gains the latest, to the bit; what it gives is one of the gains, and at most each of them.
use mathlib.Core.Path.{◌≡◌, refl}
use mathlib.Core.Bool.{Bool, true, false}
use mathlib.Core.List.{List, [], ◌∷◌}
use Prim.Native.Nat.{ℕ, zero, suc, ◌≤◌, ◌<◌}
use native.Mathlib.Omega.{arith}
use lib.Dec.{T}
use lib.ListN.{length, get_or, take}
use lib.Ieee.{Float, lt, le}
use lib.Ieee.Scale.{finite}
use Rattle.arithmetic.proofs.Order.{clash, le_self, le_then_le, lt→le, not-lt→le, lt_not_lt}
use Rattle.keeper.specs.Floor.{least_of}

-- ---- what holds of all gains
abbrev pub All : (Float → Type 0) → List Float → Type 0
All P [] = Unit {0}
All P (g ∷ gs) = P g × All P gs

abbrev pub AllFinite : List Float → Type 0
AllFinite gs = All (λ (g : Float). T (finite g)) gs

pub all_take : (P : Float → Type 0) (n : ℕ) (gs : List Float) → All P gs → All P (take n gs)
all_take P zero gs p = tt
all_take P (suc n) [] p = tt
all_take P (suc n) (g ∷ gs) p = (p.0, all_take P n gs p.1)

-- ---- the least
-- the least is one of them: what holds of all holds of it
pub least_holds : (P : Float → Type 0) (g : Float) (gs : List Float) → P g → All P gs → P (least_of g gs)
least_holds P g [] p q = p
least_holds P g (h ∷ hs) p q = go (lt (least_of h hs) g) refl (least_holds P h hs q.0 q.1)
  where
    go : (b : Bool) → lt (least_of h hs) g ≡ b → P (least_of h hs) → P (least_of g (h ∷ hs))
    go true e k = rw e k
    go false e k = rw e p

pub least_finite : (g : Float) (gs : List Float) → T (finite g) → AllFinite gs → T (finite (least_of g gs))
least_finite g gs p q = least_holds (λ (h : Float). T (finite h)) g gs p q

-- it is not above the latest
pub least_le : (g : Float) (gs : List Float) → T (finite g) → AllFinite gs → le (least_of g gs) g ≡ true
least_le g [] p q = le_self g p
least_le g (h ∷ hs) p q = go (lt (least_of h hs) g) refl
  where
    go : (b : Bool) → lt (least_of h hs) g ≡ b → le (least_of g (h ∷ hs)) g ≡ true
    go true e = rw e (lt→le (least_of h hs) g e)
    go false e = rw e (le_self g p)

-- a gain that is not below a later one changes nothing
pub least_skip : (g h : Float) (hs : List Float) → T (finite g) → T (finite h) → AllFinite hs → lt h g ≡ false → least_of g hs ≡ least_of g (h ∷ hs)
least_skip g h [] p q r k = rw k refl
least_skip g h (i ∷ is) p q r k = go (lt m h) (lt m g) refl refl
  where
    m : Float
    m = least_of i is

    f : T (finite m)
    f = least_finite i is r.0 r.1

    go : (b d : Bool) → lt (least_of i is) h ≡ b → lt (least_of i is) g ≡ d → least_of g (i ∷ is) ≡ least_of g (h ∷ i ∷ is)
    go true true u v = rw (u, v) refl
    go true false u v = rw (u, v) refl
    go false true u v = clash (lt m h) (lt_not_lt m h g f q p v k) u
    go false false u v = rw (u, v, k) refl

finite_at : (gs : List Float) (d : Float) → AllFinite gs → (i : ℕ) → i < length gs → T (finite (get_or gs i d))
finite_at [] d r i h = absurd (omega arith)
finite_at (g ∷ gs) d r zero h = r.0
finite_at (g ∷ gs) d r (suc i) h = finite_at gs d r.1 i (omega arith)

-- the least is at most each gain
pub least_each : (g : Float) (gs : List Float) (d : Float) → T (finite g) → AllFinite gs → (i : ℕ) → i ≤ length gs → le (least_of g gs) (get_or (g ∷ gs) i d) ≡ true
least_each g gs d p q zero h = least_le g gs p q
least_each g [] d p q (suc i) h = absurd (omega arith)
least_each g (h ∷ hs) d p q (suc i) l = go (lt (least_of h hs) g) refl (least_each h hs d q.0 q.1 i (omega arith))
  where
    m : T (finite (least_of h hs))
    m = least_finite h hs q.0 q.1

    go : (b : Bool) → lt (least_of h hs) g ≡ b → le (least_of h hs) (get_or (h ∷ hs) i d) ≡ true → le (least_of g (h ∷ hs)) (get_or (h ∷ hs) i d) ≡ true
    go true e k = rw e k
    go false e k = rw e (le_then_le g (least_of h hs) (get_or (h ∷ hs) i d) p m (finite_at (h ∷ hs) d q i (omega arith)) (not-lt→le (least_of h hs) g m p e) k)

-- and it is one of them, the latest: each later one is above it
pub record Among (v : Float) (gs : List Float) (d : Float) (i : ℕ) : Type 0 where
  pub is : v ≡ get_or gs i d
  pub later : (j : ℕ) → j < i → lt v (get_or gs j d) ≡ true

pub least_among : (g : Float) (gs : List Float) (d : Float) → (i : ℕ) × (i ≤ length gs) × Among (least_of g gs) (g ∷ gs) d i
least_among g [] d = (0, omega arith, record { is = refl; later = λ j h. absurd (omega arith) })
least_among g (h ∷ hs) d = go (lt (least_of h hs) g) refl (least_among h hs d)
  where
    go : (b : Bool) → lt (least_of h hs) g ≡ b → ((i : ℕ) × (i ≤ length hs) × Among (least_of h hs) (h ∷ hs) d i) → (i : ℕ) × (i ≤ suc (length hs)) × Among (least_of g (h ∷ hs)) (g ∷ h ∷ hs) d i
    go true e w = rw e (suc w.0, (let k = w.1 in omega arith), record { is = w.2.is; later = later })
      where
        later : (j : ℕ) → j < suc w.0 → lt (least_of h hs) (get_or (g ∷ h ∷ hs) j d) ≡ true
        later zero b = e
        later (suc j) b = w.2.later j (omega arith)
    go false e w = rw e (0, omega arith, record { is = refl; later = λ j b. absurd (omega arith) })
