-- The highest so far after a run: peaks that are alike below it rise alike, and where they have risen the definition's frame takes its place.
use mathlib.Core.Path.{◌≡◌, refl, sym, ap, ◌∙◌}
use mathlib.Core.Logic.{⊎_elim}
use mathlib.Core.Bool.{Bool, true, false, cond, ◌||◌}
use mathlib.Core.List.{List, [], ◌∷◌}
use Prim.Native.Nat.{ℕ, ◌+◌, ◌≤◌, ◌<◌}
use native.Mathlib.Omega.{arith}
use lib.ListN.{length, get_or, drop}
use lib.Ieee.{Float, nan, lt, le}
use Rattle.arithmetic.proofs.Order.{clash, lt→le}
use Rattle.arithmetic.proofs.Heights.{lt_below, le_not_lt}
use Rattle.arithmetic.proofs.InTurn.{split, none_left}
use Rattle.frame.specs.Rules.{Linking}
use Rattle.frame.specs.Seat.{seat_of, PeakAt, peak_among}
use Rattle.frame.specs.Place.{higher, highest_from}
use Rattle.frame.specs.Passes.{voices_pass, places_from, any_above, Risen, risen_to, risen_from}
use Rattle.frame.specs.Alike.{ceiling_of, Alike, AllAlike, none, some}
use Rattle.std.specs.Prelude.{Option, Some, None}
use Rattle.frame.specs.declared.highest.Seat.{Seat}
use Rattle.frame.specs.declared.highest.Highest.{Highest}
use Rattle.frame.proofs.Alike.{alike_lengths}

-- ---- peaks alike
-- nothing that is at most a ceiling is above a height
abbrev NotAbove : Float → Float → Type 0
NotAbove ceiling top = (p : Float) → le p ceiling ≡ true → lt top p ≡ false

-- the ceiling of a run is not above the highest so far
ceiling_not_above : (target top : Float) → NotAbove (ceiling_of target top) top
ceiling_not_above target top p = go (lt top target) refl
  where
    go : (b : Bool) → lt top target ≡ b → le p (cond b top target) ≡ true → lt top p ≡ false
    go true e h = le_not_lt top p h
    go false e h = over (lt top p) refl
      where
        over : (b : Bool) → lt top p ≡ b → lt top p ≡ false
        over true f = clash (lt top target) (lt_below top p target f h) e
        over false f = f

-- nor above a higher one
rises : (ceiling top q : Float) → lt top q ≡ true → NotAbove ceiling top → NotAbove ceiling q
rises ceiling top q h n p k = go (lt q p) refl
  where
    go : (b : Bool) → lt q p ≡ b → lt q p ≡ false
    go true e = clash (lt top p) (lt_below top q p h (lt→le q p e)) (n p k)
    go false e = e

-- of two that are alike, both are above it and the same, or neither is
above_alike : (ceiling top p q : Float) → NotAbove ceiling top → Alike ceiling p q → (lt top p ≡ lt top q) × (lt top q ≡ true → p ≡ q)
above_alike ceiling top p q n k = ⊎_elim (λ e. (ap (lt top) e, λ h. e)) (λ e. (n p e.0 ∙ sym (n q e.1), λ h. clash (lt top q) h (n q e.1))) k.same

-- a frame is picked, or passed
module _ (i : ℕ) (r : Risen) (q : Float) (qs : List Float) where
  picked : lt r.peak q ≡ true → risen_from i r (q ∷ qs) ≡ risen_from (i + 1) (risen_to q (Some i)) qs
  unfolding risen_from
  picked e = ap (λ (b : Bool). risen_from (i + 1) (cond b (risen_to q (Some i)) r) qs) e

  passed : lt r.peak q ≡ false → risen_from i r (q ∷ qs) ≡ risen_from (i + 1) r qs
  unfolding risen_from
  passed e = ap (λ (b : Bool). risen_from (i + 1) (cond b (risen_to q (Some i)) r) qs) e

risen_alike : (ceiling : Float) (i : ℕ) (r : Risen) (ps qs : List Float) → NotAbove ceiling r.peak → AllAlike ceiling ps qs → risen_from i r ps ≡ risen_from i r qs
unfolding risen_from
risen_alike ceiling i r [] [] n none = refl
risen_alike ceiling i r [] (q ∷ qs) n none_here = elim none_here [ ]
risen_alike ceiling i r (p ∷ ps) [] n none_here = elim none_here [ ]
risen_alike ceiling i r (p ∷ ps) (q ∷ qs) n (some k ks) =
    go (lt r.peak q) refl (λ e. risen_alike ceiling (i + 1) (risen_to q (Some i)) ps qs (rises ceiling r.peak q e n) ks) (risen_alike ceiling (i + 1) r ps qs n ks)
  where
    a : (lt r.peak p ≡ lt r.peak q) × (lt r.peak q ≡ true → p ≡ q)
    a = above_alike ceiling r.peak p q n k

    go : (b : Bool) → lt r.peak q ≡ b → (lt r.peak q ≡ true → risen_from (i + 1) (risen_to q (Some i)) ps ≡ risen_from (i + 1) (risen_to q (Some i)) qs) → risen_from (i + 1) r ps ≡ risen_from (i + 1) r qs
        → risen_from i r (p ∷ ps) ≡ risen_from i r (q ∷ qs)
    go true e up on = picked i r p ps (a.0 ∙ e) ∙ ap (λ (z : Float). risen_from (i + 1) (risen_to z (Some i)) ps) (a.1 e) ∙ up e ∙ sym (picked i r q qs e)
    go false e up on = passed i r p ps (a.0 ∙ e) ∙ on ∙ sym (passed i r q qs e)

-- ---- where none is above the height, nothing rises
none_rises : (i : ℕ) (r : Risen) (ps : List Float) → any_above r.peak ps ≡ false → risen_from i r ps ≡ r
unfolding risen_from any_above
none_rises i r [] h = refl
none_rises i r (p ∷ ps) h = go (lt r.peak p) refl h (λ k. none_rises (i + 1) r ps k)
  where
    go : (b : Bool) → lt r.peak p ≡ b → b || any_above r.peak ps ≡ false → (any_above r.peak ps ≡ false → risen_from (i + 1) r ps ≡ r) → risen_from i r (p ∷ ps) ≡ r
    go true e k on = clash true refl k
    go false e k on = passed i r p ps e ∙ on k

-- ---- what a risen peak tells of a run of n frames, the first of which is frame `first` of its block
module _ (linking : Linking) (channels n first : ℕ) (detector audio : List Float) (h : Highest) where
  abbrev told_at : Float → Option ℕ → Highest
  told_at peak None = h
  told_at peak (Some i) = record { peak = peak; frame = first + i; seat = seat_of peak (voices_pass linking 0 channels i detector audio) }

  abbrev told : Risen → Highest
  told r = told_at r.peak r.at

  rises_so : (i j : ℕ) (r : Risen) (g : Highest) (qs : List Float) → i + length qs ≡ n → j ≡ first + i → g ≡ told r → g.peak ≡ r.peak
      → highest_from j g (places_from linking channels i qs detector audio) ≡ told (risen_from i r qs)
  unfolding highest_from places_from risen_from
  rises_so i j r g [] m f e p = e
  rises_so i j r g (q ∷ qs) m f e p =
      go (lt r.peak q) refl
      (rises_so (i + 1) (j + 1) (risen_to q (Some i)) (taking j (at_frame i q)) qs (omega arith) (omega arith) (rw f refl) refl)
      (rises_so (i + 1) (j + 1) r g qs (omega arith) (omega arith) e p)
    where
      at_frame : ℕ → Float → PeakAt
      at_frame i q = peak_among q (voices_pass linking 0 channels i detector audio)

      taking : ℕ → PeakAt → Highest
      taking j at = record { peak = at.peak; frame = j; seat = at.seat }

      rest : List PeakAt
      rest = places_from linking channels (i + 1) qs detector audio

      go : (b : Bool) → lt r.peak q ≡ b → highest_from (j + 1) (taking j (at_frame i q)) rest ≡ told (risen_from (i + 1) (risen_to q (Some i)) qs) → highest_from (j + 1) g rest ≡ told (risen_from (i + 1) r qs)
          → highest_from (j + 1) (higher j g (at_frame i q)) rest ≡ told (risen_from i r (q ∷ qs))
      go true k up on = ap (λ (b : Bool). highest_from (j + 1) (cond b (taking j (at_frame i q)) g) rest) (ap (λ (z : Float). lt z q) p ∙ k) ∙ up ∙ ap told (sym (picked i r q qs k))
      go false k up on = ap (λ (b : Bool). highest_from (j + 1) (cond b (taking j (at_frame i q)) g) rest) (ap (λ (z : Float). lt z q) p ∙ k) ∙ on ∙ ap told (sym (passed i r q qs k))

  -- a run's peaks, alike to the definition's, have risen to r: what that tells is the definition's
  abbrev Tells : Highest → List Float → Type 0
  Tells g ps = (target : Float) (whole : List Float) → AllAlike (ceiling_of target h.peak) ps whole → g ≡ highest_from first h (places_from linking channels 0 whole detector audio)

  pub risen_tells : (ps : List Float) (r : Risen) (g : Highest) → length ps ≡ n → r ≡ risen_from 0 (risen_to h.peak None) ps → g ≡ told r → Tells g ps
  risen_tells ps r g m e f target whole k =
      f ∙ ap told (e ∙ risen_alike (ceiling_of target h.peak) 0 (risen_to h.peak None) ps whole (ceiling_not_above target h.peak) k)
      ∙ sym (rises_so 0 first (risen_to h.peak None) h whole (omega (arith, alike_lengths (ceiling_of target h.peak) ps whole k)) (omega arith) refl refl)

  -- it has not risen, or it has
  pub told_before : (peak : Float) (at : Option ℕ) → at ≡ None → h ≡ told (risen_to peak at)
  told_before peak at e = rw e refl

  pub told_here : (peak : Float) (at : Option ℕ) (i : ℕ) (seat : Option Seat) → at ≡ Some i → seat ≡ seat_of peak (voices_pass linking 0 channels i detector audio) → record { peak = peak; frame = first + i; seat = seat } ≡ told (risen_to peak at)
  told_here peak at i seat f e = rw (f, e) refl

  pub nothing_above : (ps : List Float) → length ps ≡ n → any_above h.peak ps ≡ false → Tells h ps
  nothing_above ps m e = risen_tells ps (risen_to h.peak None) h m (sym (none_rises 0 (risen_to h.peak None) ps e)) refl

-- ---- the loops
module _ (l : List Float) (i : ℕ) where
  pub above_more : (top : Float) (found b : Bool) → i < length l → found || any_above top (drop i l) ≡ b → (found || lt top (get_or l i nan)) || any_above top (drop (i + 1) l) ≡ b
  unfolding any_above
  above_more top found b h e = go found (rw (split l i h) at e)
    where
      go : (found : Bool) → found || (lt top (get_or l i nan) || any_above top (drop (i + 1) l)) ≡ b → (found || lt top (get_or l i nan)) || any_above top (drop (i + 1) l) ≡ b
      go true e = e
      go false e = e

  pub above_done : (top : Float) (found b : Bool) → length l ≤ i → found || any_above top (drop i l) ≡ b → found ≡ b
  unfolding any_above
  above_done top found b h e = go found (rw (none_left l i h) at e)
    where
      go : (found : Bool) → found || false ≡ b → found ≡ b
      go true e = e
      go false e = e

  pub risen_up : (r total : Risen) → i < length l → lt r.peak (get_or l i nan) ≡ true → risen_from i r (drop i l) ≡ total → risen_from (i + 1) (risen_to (get_or l i nan) (Some i)) (drop (i + 1) l) ≡ total
  risen_up r total h e k = sym (picked i r (get_or l i nan) (drop (i + 1) l) e) ∙ ap (risen_from i r) (sym (split l i h)) ∙ k

  pub risen_on : (r total : Risen) → i < length l → lt r.peak (get_or l i nan) ≡ false → risen_from i r (drop i l) ≡ total → risen_from (i + 1) r (drop (i + 1) l) ≡ total
  risen_on r total h e k = sym (passed i r (get_or l i nan) (drop (i + 1) l) e) ∙ ap (risen_from i r) (sym (split l i h)) ∙ k

  pub risen_done : (r total : Risen) → length l ≤ i → risen_from i r (drop i l) ≡ total → r ≡ total
  unfolding risen_from
  risen_done r total h k = ap (risen_from i r) (sym (none_left l i h)) ∙ k
