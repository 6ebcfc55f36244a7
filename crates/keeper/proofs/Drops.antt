-- The drops at back and front, on lists of entries.
use mathlib.Core.Path.{◌≡◌, refl, ap}
use mathlib.Core.Bool.{Bool, true, false, not, ◌&&◌}
use mathlib.Core.List.{List, [], ◌∷◌, ◌++◌}
use Prim.Native.Nat.{ℕ, suc, ◌+◌, ◌≤◌, ◌<◌}
use native.Mathlib.Omega.{arith}
use lib.Dec.{ltb}
use lib.ListN.{length}
use lib.Ieee.{Float, lt}
use borrow.Author.Tests.{ltb-true, lt-ltb}
use Rattle.arithmetic.proofs.Order.{and-true}
use Rattle.keeper.specs.Ring.{Entry, drop_back, stale, keep_behind, drop_front, front_of}
use Rattle.keeper.specs.InOrder.{each, above, rising, less_mark, less_minimum}

-- two tests that pass together
pub both : (p q : Bool) → p ≡ true → q ≡ true → p && q ≡ true
both p q h k = rw (h, k) refl

-- ---- the back
module _ (gain : Float) where
  pub back_stops : (e : Entry) (es : List Entry) → lt e.minimum gain ≡ true → drop_back gain (e ∷ es) ≡ e ∷ es
  back_stops e es h = rw h refl

  pub back_goes : (e : Entry) (es : List Entry) → lt e.minimum gain ≡ false → drop_back gain (e ∷ es) ≡ drop_back gain es
  back_goes e es h = rw h refl

  pub back_length : (es : List Entry) → length (drop_back gain es) ≤ length es
  back_length [] = omega arith
  back_length (e ∷ es) = go (lt e.minimum gain) refl (back_length es)
    where
      go : (b : Bool) → lt e.minimum gain ≡ b → length (drop_back gain es) ≤ length es → length (drop_back gain (e ∷ es)) ≤ suc (length es)
      go true h k = rw h (omega arith)
      go false h k = rw h (omega arith)

-- ---- the front
module _ (look frame : ℕ) where
  pub front_kept : (es : List Entry) (x : Entry) → stale look frame x ≡ false → drop_front look frame (es ++ (x ∷ [])) ≡ es ++ (x ∷ [])
  front_kept [] x h = rw h refl
  front_kept (e ∷ []) x h = rw h refl
  front_kept (e ∷ f ∷ fs) x h = ap (keep_behind look frame e) (front_kept (f ∷ fs) x h)

  pub front_dropped : (es : List Entry) (x : Entry) → stale look frame x ≡ true → drop_front look frame (es ++ (x ∷ [])) ≡ drop_front look frame es
  front_dropped [] x h = rw h refl
  front_dropped (e ∷ es) x h = ap (keep_behind look frame e) (front_dropped es x h)

  behind_length : (e : Entry) (es : List Entry) → length (keep_behind look frame e es) ≤ suc (length es)
  behind_length e [] = go (stale look frame e) refl
    where
      go : (b : Bool) → stale look frame e ≡ b → length (keep_behind look frame e []) ≤ 1
      go true h = rw h (omega arith)
      go false h = rw h (omega arith)
  behind_length e (f ∷ fs) = omega arith

  pub front_length : (es : List Entry) → length (drop_front look frame es) ≤ length es
  front_length [] = omega arith
  front_length (e ∷ es) = let k = behind_length e (drop_front look frame es) in let l = front_length es in omega arith

-- ---- what holds of each entry stays
module _ (test : Entry → List Entry → Bool) where
  pub each_back : (gain : Float) (es : List Entry) → each test es ≡ true → each test (drop_back gain es) ≡ true
  each_back gain [] h = refl
  each_back gain (e ∷ es) h = go (lt e.minimum gain) refl (each_back gain es (and-true (test e es) (each test es) h).1)
    where
      go : (b : Bool) → lt e.minimum gain ≡ b → each test (drop_back gain es) ≡ true → each test (drop_back gain (e ∷ es)) ≡ true
      go true k r = rw k h
      go false k r = rw k r

  -- an entry is judged with the entries in front of it, some of which a drop at the front takes away
  each_behind : (look frame : ℕ) (e : Entry) (es : List Entry) → test e es ≡ true → each test es ≡ true → each test (keep_behind look frame e es) ≡ true
  each_behind look frame e [] h k = go (stale look frame e) refl
    where
      go : (b : Bool) → stale look frame e ≡ b → each test (keep_behind look frame e []) ≡ true
      go true s = rw s refl
      go false s = rw s (both (test e []) true h refl)
  each_behind look frame e (f ∷ fs) h k = both (test e (f ∷ fs)) (each test (f ∷ fs)) h k

  pub each_front : (look frame : ℕ) → ((e : Entry) (es : List Entry) → test e es ≡ true → test e (drop_front look frame es) ≡ true) →
      (es : List Entry) → each test es ≡ true → each test (drop_front look frame es) ≡ true
  each_front look frame stays [] h = refl
  each_front look frame stays (e ∷ es) h =
      let k = and-true (test e es) (each test es) h in
      each_behind look frame e (drop_front look frame es) (stays e es k.0) (each_front look frame stays es k.1)

-- ---- the newest entry left
module _ (less : Entry → Entry → Bool) (look frame : ℕ) (e : Entry) where
  above_behind : (f : Entry) (fs : List Entry) → less f e ≡ true → above less e (keep_behind look frame f fs) ≡ true
  above_behind f [] h = go (stale look frame f) refl
    where
      go : (b : Bool) → stale look frame f ≡ b → above less e (keep_behind look frame f []) ≡ true
      go true s = rw s refl
      go false s = rw s h
  above_behind f (g ∷ gs) h = h

  pub above_front : (es : List Entry) → above less e es ≡ true → above less e (drop_front look frame es) ≡ true
  above_front [] h = refl
  above_front (f ∷ fs) h = above_behind f (drop_front look frame fs) h

pub above_back : (e : Entry) (es : List Entry) → above less_minimum e (drop_back e.minimum es) ≡ true
above_back e [] = refl
above_back e (f ∷ fs) = go (lt f.minimum e.minimum) refl (above_back e fs)
  where
    go : (b : Bool) → lt f.minimum e.minimum ≡ b → above less_minimum e (drop_back e.minimum fs) ≡ true → above less_minimum e (drop_back e.minimum (f ∷ fs)) ≡ true
    go true k r = rw k k
    go false k r = rw k r

-- ---- the front that is left is not stale
module _ (look frame : ℕ) where
  abbrev pub fresh_front : List Entry → Bool
  fresh_front [] = true
  fresh_front (e ∷ es) = not (stale look frame (front_of e es))

  fresh_behind : (e : Entry) (es : List Entry) → fresh_front es ≡ true → fresh_front (keep_behind look frame e es) ≡ true
  fresh_behind e [] h = go (stale look frame e) refl
    where
      go : (b : Bool) → stale look frame e ≡ b → fresh_front (keep_behind look frame e []) ≡ true
      go true s = rw s refl
      go false s = rw (s, s) refl
  fresh_behind e (f ∷ fs) h = h

  pub fresh_front_lem : (es : List Entry) → fresh_front (drop_front look frame es) ≡ true
  fresh_front_lem [] = refl
  fresh_front_lem (e ∷ es) = fresh_behind e (drop_front look frame es) (fresh_front_lem es)

-- ---- rising marks
-- a mark below the frame count
abbrev pub taken : ℕ → Entry → List Entry → Bool
taken frame e es = ltb e.mark frame

pub all_taken : (frame : ℕ) (e : Entry) (es : List Entry) → e.mark < frame → rising less_mark (e ∷ es) ≡ true → each (taken frame) (e ∷ es) ≡ true
all_taken frame e [] h k = both (taken frame e []) true (lt-ltb e.mark frame h) refl
all_taken frame e (f ∷ fs) h k =
    let r = and-true (less_mark f e) (rising less_mark (f ∷ fs)) k in
    both (taken frame e (f ∷ fs)) (each (taken frame) (f ∷ fs)) (lt-ltb e.mark frame h)
    (all_taken frame f fs (omega (arith, ltb-true f.mark e.mark r.0)) r.1)

-- as many frames lie between the front and the newest entry as entries at least
pub spread : (e : Entry) (es : List Entry) → rising less_mark (e ∷ es) ≡ true → (front_of e es).mark + length es ≤ e.mark
spread e [] k = omega arith
spread e (f ∷ fs) k =
    let r = and-true (less_mark f e) (rising less_mark (f ∷ fs)) k in
    let s = spread f fs r.1 in
    omega (arith, ltb-true f.mark e.mark r.0)
