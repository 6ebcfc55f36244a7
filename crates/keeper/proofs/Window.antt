-- The window minimum, on rings: the ring of a whole history is the ring of its latest look + 1 gains alone, and the front of a ring is the least of its gains.
--     wedge_of           the ring of a list of entries when nothing is dropped at the front
--     ring-window       the ring after a history is the wedge of its latest look + 1 entries
--     wedge-least       the front of a wedge is the least, by plain scan
--     ring-floor        both together: the floor of the ring is the plain-scan floor
use mathlib.Core.Path.{◌≡◌, refl, sym, ap, ◌∙◌, subst}
use mathlib.Core.Logic.{◌⊎◌, inl, inr}
use mathlib.Core.Bool.{Bool, true, false, not}
use mathlib.Core.List.{List, [], ◌∷◌, ◌++◌, map}
use Prim.Native.Nat.{ℕ, zero, suc, ◌+◌, ◌-◌, ◌≤◌, ◌<◌}
use native.Mathlib.Decide.{dec_lt}
use native.Mathlib.Omega.{arith}
use lib.Dec.{T}
use lib.ListN.{length, get_or, take}
use lib.Seq.{take-suc, take_all}
use lib.Ieee.{Float, lt}
use lib.Ieee.Scale.{finite}
use borrow.Author.Tests.{lt-ltb, le-ltb, not-true}
use Rattle.arithmetic.proofs.Order.{and-true, clash, le_then_lt, lt_not_lt}
use Rattle.keeper.specs.Ring.{Entry, drop_back, stale, keep_behind, drop_front, front_of}
use Rattle.keeper.specs.InOrder.{each}
use Rattle.keeper.specs.Floor.{least_of, floor_of}
use Rattle.keeper.specs.History.{ring_after}
use Rattle.keeper.proofs.Scan.{AllFinite, all_take, least_finite, least_le, least_skip}
use Rattle.keeper.proofs.Drops.{both, back_stops, back_goes, front_dropped, each_back}

-- a history as entries
abbrev pub marked : List Float → List Entry
marked [] = []
marked (g ∷ gs) = record { mark = length gs; minimum = g } ∷ marked gs

-- the ring of a list of entries, with no drop at the front
abbrev pub wedge_of : List Entry → List Entry
wedge_of [] = []
wedge_of (e ∷ es) = e ∷ drop_back e.minimum (wedge_of es)

-- ---- the oldest entry is at the front of the wedge, or is dropped and leaves no trace
back_snoc : (g : Float) (es : List Entry) (x : Entry) → (drop_back g (es ++ (x ∷ [])) ≡ drop_back g es) ⊎ (drop_back g (es ++ (x ∷ [])) ≡ drop_back g es ++ (x ∷ []))
back_snoc g [] x = go (lt x.minimum g) refl
  where
    go : (b : Bool) → lt x.minimum g ≡ b → (drop_back g (x ∷ []) ≡ []) ⊎ (drop_back g (x ∷ []) ≡ x ∷ [])
    go true h = inr (back_stops g x [] h)
    go false h = inl (back_goes g x [] h)
back_snoc g (e ∷ es) x = go (lt e.minimum g) refl (back_snoc g es x)
  where
    go : (b : Bool) → lt e.minimum g ≡ b
        → (drop_back g (es ++ (x ∷ [])) ≡ drop_back g es) ⊎ (drop_back g (es ++ (x ∷ [])) ≡ drop_back g es ++ (x ∷ []))
        → (drop_back g (e ∷ es ++ (x ∷ [])) ≡ drop_back g (e ∷ es)) ⊎ (drop_back g (e ∷ es ++ (x ∷ [])) ≡ drop_back g (e ∷ es) ++ (x ∷ []))
    go true h r = inr (rw h refl)
    go false h r = rw h r

wedge_snoc : (es : List Entry) (x : Entry) → (wedge_of (es ++ (x ∷ [])) ≡ wedge_of es) ⊎ (wedge_of (es ++ (x ∷ [])) ≡ wedge_of es ++ (x ∷ []))
wedge_snoc [] x = inr refl
wedge_snoc (e ∷ es) x = elim (wedge_snoc es x) [
  | inl h ↦ inl (ap {B = List Entry} (λ l. e ∷ drop_back e.minimum l) h)
  | inr h ↦ elim (back_snoc e.minimum (wedge_of es) x) [
    | inl k ↦ inl (ap {B = List Entry} (λ l. e ∷ l) (ap (drop_back e.minimum) h ∙ k))
    | inr k ↦ inr (ap {B = List Entry} (λ l. e ∷ l) (ap (drop_back e.minimum) h ∙ k))
  ]
]

back_wedge_snoc : (g : Float) (es : List Entry) (x : Entry) → (drop_back g (wedge_of (es ++ (x ∷ []))) ≡ drop_back g (wedge_of es)) ⊎ (drop_back g (wedge_of (es ++ (x ∷ []))) ≡ drop_back g (wedge_of es) ++ (x ∷ []))
back_wedge_snoc g es x = elim (wedge_snoc es x) [
  | inl h ↦ inl (ap (drop_back g) h)
  | inr h ↦ rw h (back_snoc g (wedge_of es) x)
]

-- ---- which entries are recent
module _ (look frame : ℕ) where
  abbrev recent : Entry → List Entry → Bool
  recent e es = not (stale look frame e)

  -- where all are recent, the front drops nothing
  front_idle : (es : List Entry) → each recent es ≡ true → drop_front look frame es ≡ es
  front_idle [] h = refl
  front_idle (e ∷ []) h = rw (not-true (stale look frame e) (and-true (recent e []) true h).0) refl
  front_idle (e ∷ f ∷ fs) h = ap (keep_behind look frame e) (front_idle (f ∷ fs) (and-true (recent e (f ∷ fs)) (each recent (f ∷ fs)) h).1)

  recent_wedge : (es : List Entry) → each recent es ≡ true → each recent (wedge_of es) ≡ true
  recent_wedge [] h = refl
  recent_wedge (e ∷ es) h =
      let k = and-true (recent e es) (each recent es) h in
      both (recent e []) (each recent (drop_back e.minimum (wedge_of es))) k.0 (each_back recent e.minimum (wedge_of es) (recent_wedge es k.1))

-- the latest j entries of a history are recent at a frame at most look − j after it
recent_latest : (look j k : ℕ) (gs : List Float) → j + k ≤ look → each (recent look (length gs + k)) (take j (marked gs)) ≡ true
recent_latest look zero k gs h = refl
recent_latest look (suc j) k [] h = refl
recent_latest look (suc j) k (g ∷ gs) h =
    both (recent look (suc (length gs) + k) (record { mark = length gs; minimum = g }) []) (each (recent look (suc (length gs) + k)) (take j (marked gs)))
    (rw (le-ltb look (suc (length gs) + k - length gs) (omega arith)) refl)
    (subst (λ (n : ℕ). each (recent look n) (take j (marked gs)) ≡ true) on (recent_latest look j (suc k) gs (omega arith)))
  where
    on : length gs + suc k ≡ suc (length gs) + k
    on = omega arith

marked_length : (gs : List Float) → length (marked gs) ≡ length gs
marked_length [] = refl
marked_length (g ∷ gs) = ap suc (marked_length gs)

-- the entry at place i of a history came i + 1 frames before its end
marked_at : (gs : List Float) (i : ℕ) (d : Entry) → i < length gs → (get_or (marked gs) i d).mark + i + 1 ≡ length gs
marked_at [] i d h = absurd (omega arith)
marked_at (g ∷ gs) zero d h = omega arith
marked_at (g ∷ gs) (suc i) d h = let k = marked_at gs i d (omega arith) in omega arith

-- ---- the ring of the window alone
module _ (look : ℕ) (g : Float) (gs : List Float) where
  abbrev window : List Entry
  window = take look (marked gs)

  latest_kept : drop_front look (length gs) (drop_back g (wedge_of window)) ≡ drop_back g (wedge_of window)
  latest_kept =
      front_idle look (length gs) (drop_back g (wedge_of window))
      (each_back (recent look (length gs)) g (wedge_of window) (recent_wedge look (length gs) window
      (subst (λ (n : ℕ). each (recent look n) window ≡ true) none (recent_latest look look 0 gs (omega arith)))))
    where
      none : length gs + 0 ≡ length gs
      none = omega arith

  -- one entry more is stale, and the front drop takes it, if it is there at all
  one_more : (x : Entry) → stale look (length gs) x ≡ true → drop_front look (length gs) (drop_back g (wedge_of (window ++ (x ∷ [])))) ≡ drop_back g (wedge_of window)
  one_more x h = elim (back_wedge_snoc g window x) [
    | inl k ↦ ap (drop_front look (length gs)) k ∙ latest_kept
    | inr k ↦ ap (drop_front look (length gs)) k ∙ front_dropped look (length gs) (drop_back g (wedge_of window)) x h ∙ latest_kept
  ]

  window_step : drop_front look (length gs) (drop_back g (wedge_of (take (suc look) (marked gs)))) ≡ drop_back g (wedge_of window)
  window_step = elim (dec_lt look (length (marked gs))) [
    | yes h ↦
        let x = get_or (marked gs) look (record { mark = 0; minimum = g }) in
        let at = marked_at gs look (record { mark = 0; minimum = g }) (subst (λ (n : ℕ). look < n) (marked_length gs) h) in
        rw (take-suc (marked gs) look (record { mark = 0; minimum = g }) h) (one_more x (lt-ltb look (length gs - x.mark) (omega arith)))
    | no h ↦
        ap (λ (l : List Entry). drop_front look (length gs) (drop_back g (wedge_of l))) (take_all (suc look) (marked gs) (omega arith) ∙ sym (take_all look (marked gs) (omega arith)))
        ∙ latest_kept
  ]

pub ring_window : (look : ℕ) (gs : List Float) → ring_after look gs ≡ wedge_of (take (suc look) (marked gs))
ring_window look [] = refl
ring_window look (g ∷ gs) =
    ap {B = List Entry} (λ l. record { mark = length gs; minimum = g } ∷ l) (ap (λ (l : List Entry). drop_front look (length gs) (drop_back g l)) (ring_window look gs) ∙ window_step look g gs)

-- ---- the front of a wedge is the least
abbrev gains_of : List Entry → List Float
gains_of es = map (λ (e : Entry). e.minimum) es

-- what a later, lower gain drops, it drops whether or not a gain between dropped some before
back_absorb : (g h : Float) (es : List Entry) → T (finite g) → T (finite h) → AllFinite (gains_of es) → lt h g ≡ false → drop_back g (drop_back h es) ≡ drop_back g es
back_absorb g h [] p q r k = refl
back_absorb g h (e ∷ es) p q r k = go (lt e.minimum h) (lt e.minimum g) refl refl (back_absorb g h es p q r.1 k)
  where
    go : (b d : Bool) → lt e.minimum h ≡ b → lt e.minimum g ≡ d → drop_back g (drop_back h es) ≡ drop_back g es → drop_back g (drop_back h (e ∷ es)) ≡ drop_back g (e ∷ es)
    go true d u v i = rw u refl
    go false true u v i = clash (lt e.minimum h) (lt_not_lt e.minimum h g r.0 q p v k) u
    go false false u v i = rw (u, v) i

finite_back : (g : Float) (es : List Entry) → AllFinite (gains_of es) → AllFinite (gains_of (drop_back g es))
finite_back g [] p = p
finite_back g (e ∷ es) p = go (lt e.minimum g) refl (finite_back g es p.1)
  where
    go : (b : Bool) → lt e.minimum g ≡ b → AllFinite (gains_of (drop_back g es)) → AllFinite (gains_of (drop_back g (e ∷ es)))
    go true h k = rw h p
    go false h k = rw h k

finite_wedge : (es : List Entry) → AllFinite (gains_of es) → AllFinite (gains_of (wedge_of es))
finite_wedge [] p = p
finite_wedge (e ∷ es) p = (p.0, finite_back e.minimum (wedge_of es) (finite_wedge es p.1))

pub wedge_least : (e : Entry) (es : List Entry) → T (finite e.minimum) → AllFinite (gains_of es) → (front_of e (drop_back e.minimum (wedge_of es))).minimum ≡ least_of e.minimum (gains_of es)
wedge_least e [] p q = refl
wedge_least e (f ∷ fs) p q = go (lt f.minimum e.minimum) refl (wedge_least f fs q.0 q.1) (wedge_least e fs p q.1)
  where
    g : Float
    g = e.minimum

    h : Float
    h = f.minimum

    m : Float
    m = least_of f.minimum (gains_of fs)

    go : (b : Bool) → lt f.minimum e.minimum ≡ b
        → (front_of f (drop_back f.minimum (wedge_of fs))).minimum ≡ least_of f.minimum (gains_of fs)
        → (front_of e (drop_back e.minimum (wedge_of fs))).minimum ≡ least_of e.minimum (gains_of fs)
        → (front_of e (drop_back e.minimum (wedge_of (f ∷ fs)))).minimum ≡ least_of e.minimum (f.minimum ∷ gains_of fs)
    go true k u v =
        rw (k, le_then_lt m h g (least_finite h (gains_of fs) q.0 q.1) q.0 p (least_le h (gains_of fs) q.0 q.1) k) u
    go false k u v =
        rw (k, back_absorb g h (wedge_of fs) p q.0 (finite_wedge fs q.1) k) (v ∙ least_skip g h (gains_of fs) p q.0 q.1 k)

-- ---- the floor
gains_marked : (n : ℕ) (gs : List Float) → gains_of (take n (marked gs)) ≡ take n gs
gains_marked zero gs = refl
gains_marked (suc n) [] = refl
gains_marked (suc n) (g ∷ gs) = ap {B = List Float} (λ l. g ∷ l) (gains_marked n gs)

-- THE FLOOR OF A RING: after any history of finite gains, the front of the next step's ring is the plain-scan floor, to the bit
pub ring_floor : (look : ℕ) (g : Float) (gs : List Float) → T (finite g) → AllFinite gs →
    (front_of (record { mark = length gs; minimum = g }) (drop_front look (length gs) (drop_back g (ring_after look gs)))).minimum ≡ floor_of look g gs
ring_floor look g gs p q =
    ap (λ (l : List Entry). (front_of (record { mark = length gs; minimum = g }) l).minimum) (ap (λ (l : List Entry). drop_front look (length gs) (drop_back g l)) (ring_window look gs) ∙ window_step look g gs)
    ∙ wedge_least (record { mark = length gs; minimum = g }) (take look (marked gs)) p (subst AllFinite (sym (gains_marked look gs)) (all_take (λ (h : Float). T (finite h)) look gs q))
    ∙ ap (least_of g) (gains_marked look gs)
