-- The highest so far, at a block's end, is the plain scan's: the first frame with the highest linked peak.
use mathlib.Core.Path.{◌≡◌, refl, sym, ap, ◌∙◌}
use mathlib.Core.Bool.{Bool, true, false, cond, ◌&&◌}
use mathlib.Core.List.{List, [], ◌∷◌, ◌++◌, map-append}
use Prim.Native.Nat.{ℕ, suc, ◌+◌}
use native.Mathlib.Omega.{arith}
use lib.ListN.{length, take, drop, length-map}
use lib.Ieee.{Float, nan, inf, fin, lt, le, eq}
use Rattle.arithmetic.specs.Number
use Rattle.arithmetic.specs.Number.{abs_of, max_of}
use Rattle.arithmetic.specs.Sanitize.{finite_or_zero}
use Rattle.arithmetic.proofs.Order.{clash, and-true, lt→le}
use Rattle.arithmetic.proofs.Magnitude.{le_through}
use Rattle.arithmetic.proofs.Heights.{lt_below, le_not_lt, lt_not_lt_back, lt_not_eq, at_most, level_with, level_self, zero_or_above}
use Rattle.detector.specs.Oversample.{remembered, peak_abs_of}
use Rattle.frame.specs.Rules.{Linking, Rules}
use Rattle.frame.specs.Seat.{PeakAt}
use Rattle.frame.specs.Frame.{heard, linked_from, Moving, Framed, frame_of}
use Rattle.frame.specs.Run.{frames_of, peaks_of_frames}
use Rattle.frame.specs.Place.{Place, place_found_at, no_place, highest_of, first_with, place_of, place_told, start_of, higher, highest_from, place_in}
use Rattle.frame.specs.declared.highest.Highest.{Highest}
use Rattle.frame.proofs.Heard.{max_from_zero}

-- every linked peak is 0 or more
abbrev pub peaks_from_zero : List PeakAt → Bool
peaks_from_zero [] = true
peaks_from_zero (p ∷ ps) = le Number.zero p.peak && peaks_from_zero ps

highest_from_zero : (ps : List PeakAt) → peaks_from_zero ps ≡ true → le Number.zero (highest_of ps) ≡ true
unfolding highest_of le
highest_from_zero [] h = refl
highest_from_zero (p ∷ ps) h =
    let k = and-true (le Number.zero p.peak) (peaks_from_zero ps) h in
    go (lt (highest_of ps) p.peak) k.0 (highest_from_zero ps k.1)
  where
    go : (b : Bool) → le Number.zero p.peak ≡ true → le Number.zero (highest_of ps) ≡ true → le Number.zero (cond b p.peak (highest_of ps)) ≡ true
    go true h k = h
    go false h k = k

-- ---- one frame more, its peak p and the highest t of the later ones, after a highest h so far; what each of the three tells
-- by the whole scan
abbrev scanned : Float → Float → Float → Place → (Float → Place) → Place → Place
scanned h p t here later before = cond (lt h (cond (lt t p) p t)) (cond (eq p (cond (lt t p) p t)) here (later (cond (lt t p) p t))) before

module _ (h p t : Float) (H : le Number.zero h ≡ true) (P : le Number.zero p ≡ true) (T : le Number.zero t ≡ true) (here : Place) (later : Float → Place) (before : Place) where
  -- by the later frames, after this one took its place
  takes : lt h p ≡ true → cond (lt p t) (later t) here ≡ scanned h p t here later before
  takes e = go (lt p t) refl (lt t p) refl
    where
      go : (a : Bool) → lt p t ≡ a → (b : Bool) → lt t p ≡ b → cond (lt p t) (later t) here ≡ scanned h p t here later before
      go true f true g = clash (lt t p) g (lt_not_lt_back p t f)
      go true f false g = rw (f, g, lt_below h p t e (lt→le p t f), lt_not_eq p t f) refl
      go false f true g = rw (f, g, e, level_self p P) refl
      go false f false g = rw (f, g, lt_below h p t e (at_most t p T P g), level_with p t P T f g) refl

  -- where the later ones have one above h, which this one has not, it is below it
  below : lt h p ≡ false → lt h t ≡ true → lt p t ≡ true
  below e f = go (lt p t) refl
    where
      go : (b : Bool) → lt p t ≡ b → lt p t ≡ true
      go true k = k
      go false k = clash (lt h t) f (le_not_lt h t (le_through t p h (at_most p t P T k) (at_most h p H P e)))

  -- after this one did not
  passes : lt h p ≡ false → cond (lt h t) (later t) before ≡ scanned h p t here later before
  passes e = go (lt h t) refl (lt t p) refl
    where
      go : (a : Bool) → lt h t ≡ a → (b : Bool) → lt t p ≡ b → cond (lt h t) (later t) before ≡ scanned h p t here later before
      go true f true g = clash (lt h p) (lt_below h t p f (lt→le t p g)) e
      go true f false g = rw (g, f, lt_not_eq p t (below e f)) refl
      go false f true g = rw (f, g, e) refl
      go false f false g = rw (g, f) refl

pub found_from : (i : ℕ) (h : Highest) (ps : List PeakAt) → le Number.zero h.peak ≡ true → peaks_from_zero ps ≡ true
    → place_in (highest_from i h ps) ≡ cond (lt h.peak (highest_of ps)) (first_with (highest_of ps) i ps) (place_in h)
unfolding highest_from highest_of first_with
found_from i h [] H Z = rw (le_not_lt h.peak Number.zero H) refl
found_from i h (p ∷ ps) H Z =
    let k = and-true (le Number.zero p.peak) (peaks_from_zero ps) Z in
    let here = place_found_at i p.seat in
    let later : Float → Place = λ (top : Float). first_with top (i + 1) ps in
    let T = highest_from_zero ps k.1 in
    go (lt h.peak p.peak) refl
    (λ e. found_from (i + 1) (taking p) ps k.0 k.1 ∙ takes h.peak p.peak (highest_of ps) H k.0 T here later (place_in h) e)
    (λ e. found_from (i + 1) h ps H k.1 ∙ passes h.peak p.peak (highest_of ps) H k.0 T here later (place_in h) e)
  where
    taking : PeakAt → Highest
    taking p = record { peak = p.peak; frame = i; seat = p.seat }

    whole : Place
    whole = scanned h.peak p.peak (highest_of ps) (place_found_at i p.seat) (λ (top : Float). first_with top (i + 1) ps) (place_in h)

    go : (b : Bool) → lt h.peak p.peak ≡ b → (lt h.peak p.peak ≡ true → place_in (highest_from (i + 1) (taking p) ps) ≡ whole) → (lt h.peak p.peak ≡ false → place_in (highest_from (i + 1) h ps) ≡ whole)
        → place_in (highest_from (i + 1) (higher i h p) ps) ≡ whole
    go true e up on = ap (λ (b : Bool). place_in (highest_from (i + 1) (cond b (taking p) h) ps)) e ∙ up e
    go false e up on = ap (λ (b : Bool). place_in (highest_from (i + 1) (cond b (taking p) h) ps)) e ∙ on e

-- of a whole block
pub found : (ps : List PeakAt) → peaks_from_zero ps ≡ true → place_in (highest_from 0 (start_of true) ps) ≡ place_of ps
unfolding place_of le
found ps Z = found_from 0 (start_of true) ps refl Z ∙ go (eq (highest_of ps) Number.zero) refl
  where
    k : (eq (highest_of ps) Number.zero ≡ true → lt Number.zero (highest_of ps) ≡ false) × (eq (highest_of ps) Number.zero ≡ false → lt Number.zero (highest_of ps) ≡ true)
    k = zero_or_above (highest_of ps) (highest_from_zero ps Z)

    go : (b : Bool) → eq (highest_of ps) Number.zero ≡ b → cond (lt Number.zero (highest_of ps)) (first_with (highest_of ps) 0 ps) no_place ≡ cond (eq (highest_of ps) Number.zero) no_place (first_with (highest_of ps) 0 ps)
    go true e = rw (e, k.0 e) refl
    go false e = rw (e, k.1 e) refl

-- ---- a block that is not asked: nothing is above an infinity
none_above : (x p : Float) → eq x (inf false) ≡ true → lt x p ≡ false
unfolding lt eq
none_above nan p h = clash false h refl
none_above (fin s m e) p h = clash false h refl
none_above (inf true) p h = clash false h refl
none_above (inf false) nan h = refl
none_above (inf false) (inf s) h = refl
none_above (inf false) (fin s m e) h = refl

pub none_higher : (i : ℕ) (h : Highest) (ps : List PeakAt) → eq h.peak (inf false) ≡ true → h ≡ highest_from i h ps
unfolding highest_from
none_higher i h [] e = refl
none_higher i h (p ∷ ps) e = rw (none_above h.peak p.peak e) (none_higher (i + 1) h ps e)

found_told : (asked : Bool) (ps : List PeakAt) → peaks_from_zero ps ≡ true → place_in (highest_from 0 (start_of asked) ps) ≡ place_told asked ps
unfolding eq
found_told true ps Z = found ps Z
found_told false ps Z = ap (λ (h : Highest). place_in h) (sym (none_higher 0 (start_of false) ps refl))

-- ---- what frames in turn show
linked_from_zero : (linking : Linking) (c : ℕ) (peak : Float) (detector xs : List Float) → le Number.zero peak ≡ true → le Number.zero (linked_from linking c peak detector xs).peak ≡ true
unfolding linked_from
linked_from_zero linking c peak detector [] h = h
linked_from_zero linking c peak detector (x ∷ xs) h =
    let o = peak_abs_of linking.taps (take remembered detector) x in
    linked_from_zero linking (c + 1) (heard (linking.counts c) peak x o.peak) (drop remembered detector) xs (go (linking.counts c) o.peak)
  where
    go : (counts : Bool) (a : Float) → le Number.zero (heard counts peak x a) ≡ true
    go true a = max_from_zero (max_of peak (abs_of (finite_or_zero x))) a (max_from_zero peak (abs_of (finite_or_zero x)) h)
    go false a = h

pub frames_from_zero : (rules : Rules) (weights : List Float) (coeff : Float) (look : ℕ) (target : Float) (m : Moving) (fs : List (List Float))
    → peaks_from_zero (peaks_of_frames (frames_of rules weights coeff look target m fs).frames) ≡ true
unfolding frames_of frame_of le
frames_from_zero rules weights coeff look target m [] = refl
frames_from_zero rules weights coeff look target m (xs ∷ fs) =
    rw (linked_from_zero rules.linking 0 Number.zero m.detector xs refl) (frames_from_zero rules weights coeff look target (frame_of rules weights coeff look target m xs).moving fs)

append_from_zero : (ps qs : List PeakAt) → peaks_from_zero ps ≡ true → peaks_from_zero qs ≡ true → peaks_from_zero (ps ++ qs) ≡ true
append_from_zero [] qs h k = k
append_from_zero (p ∷ ps) qs h k =
    let e = and-true (le Number.zero p.peak) (peaks_from_zero ps) h in
    rw e.0 (append_from_zero ps qs e.1 k)

-- frames in two lists, one after the other
highest_append : (i : ℕ) (h : Highest) (ps qs : List PeakAt) → highest_from i h (ps ++ qs) ≡ highest_from (i + length ps) (highest_from i h ps) qs
unfolding highest_from
highest_append i h [] qs = let e : i + 0 ≡ i = omega arith in rw e refl
highest_append i h (p ∷ ps) qs = let e : i + 1 + length ps ≡ i + suc (length ps) = omega arith in highest_append (i + 1) (higher i h p) ps qs ∙ rw e refl

-- ---- the highest so far of the frames that a block has shown, asked for its place or not
module _ (asked : Bool) where
  pub record SoFar (h : Highest) (shown : List Framed) : Type 0 where
    pub is : h ≡ highest_from 0 (start_of asked) (peaks_of_frames shown)
    pub from_zero : peaks_from_zero (peaks_of_frames shown) ≡ true

  pub so_far_start : SoFar (start_of asked) []
  unfolding highest_from
  so_far_start = record { is = refl; from_zero = refl }

  pub so_far_more : (h g : Highest) (shown fs : List Framed) (first : ℕ) → SoFar h shown → length shown ≡ first → g ≡ highest_from first h (peaks_of_frames fs) → peaks_from_zero (peaks_of_frames fs) ≡ true → SoFar g (shown ++ fs)
  so_far_more h g shown fs first s n e z =
      let at : Framed → PeakAt = λ (f : Framed). f.at in
      let both = map-append at shown fs in
      let many : first ≡ 0 + length (peaks_of_frames shown) = sym n ∙ sym (length-map shown at) ∙ omega arith in
      record {
        is =
            e ∙ ap (λ (z : Highest). highest_from first z (peaks_of_frames fs)) s.is
            ∙ ap (λ (j : ℕ). highest_from j (highest_from 0 (start_of asked) (peaks_of_frames shown)) (peaks_of_frames fs)) many
            ∙ sym (highest_append 0 (start_of asked) (peaks_of_frames shown) (peaks_of_frames fs))
            ∙ ap (highest_from 0 (start_of asked)) (sym both);
        from_zero = rw both (append_from_zero (peaks_of_frames shown) (peaks_of_frames fs) s.from_zero z);
      }

  -- at the end it is the plain scan's, where that is asked for
  pub so_far_done : (h : Highest) (shown : List Framed) → SoFar h shown → place_in h ≡ place_told asked (peaks_of_frames shown)
  so_far_done h shown s = ap (λ (z : Highest). place_in z) s.is ∙ found_told asked (peaks_of_frames shown) s.from_zero
