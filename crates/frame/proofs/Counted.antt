-- Change 7: what the choice of channels decides of the frames, and what it leaves alone.
use mathlib.Core.Path.{◌≡◌, refl, sym, ap, ◌∙◌, subst}
use mathlib.Core.Bool.{Bool, true, false}
use mathlib.Core.List.{List, [], ◌∷◌, ◌++◌}
use Prim.Native.Nat.{ℕ, suc, ◌+◌, ◌*◌, ◌≤◌, ◌<◌}
use native.Mathlib.Nat.{suc-mul}
use native.Mathlib.Omega.{arith}
use lib.ListN.{length, take, drop, length-drop}
use lib.Seq.{take_at, drop_at, length-take-le}
use lib.Ieee.{Float, le}
use Rattle.arithmetic.specs.Number
use Rattle.arithmetic.specs.Number.{one}
use Rattle.arithmetic.proofs.Quotient.{no_less_than_one}
use Rattle.detector.specs.Oversample.{Pushed, remembered, peak_abs_of}
use Rattle.detector.proofs.Store.{push_length}
use Rattle.envelope.specs.Step.{Enveloped, GainStepped, gain_step_of}
use Rattle.frame.specs.Rules.{Linking}
use Rattle.frame.specs.Seat.{Voice, voice_of, voices_from}
use Rattle.frame.specs.Frame.{heard, Linked, linked_from, required_gain, Moving, Framed, frame_of}
use Rattle.frame.specs.Run.{Frames, frame_first, frames_of, gains_of_frames}
use Rattle.frame.proofs.Keeps.{detector_length}

-- frames of so many channels
pub data Wide (channels : ℕ) : List (List Float) → Type 0 where
  none : Wide channels []
  some : {xs : List Float} {fs : List (List Float)} → length xs ≡ channels → Wide channels fs → Wide channels (xs ∷ fs)

-- ---- entries past the number of channels mean nothing: a frame asks of its own channels alone
module _ (taps : List (List Float)) (f g : ℕ → Bool) where
  abbrev by : (ℕ → Bool) → Linking
  by counts = record { taps = taps; counts = counts }

  -- two choices agree on n channels from channel c on
  abbrev Agree : ℕ → ℕ → Type 0
  Agree c n = (i : ℕ) → c ≤ i → i < c + n → f i ≡ g i

  linked_same : (c : ℕ) (peak : Float) (detector xs : List Float) → Agree c (length xs) → linked_from (by f) c peak detector xs ≡ linked_from (by g) c peak detector xs
  unfolding linked_from
  linked_same c peak detector [] h = refl
  linked_same c peak detector (x ∷ xs) h =
      let o = peak_abs_of taps (take remembered detector) x in
      let joined : Linked → Linked = λ later. record { peak = later.peak; detector = o.store ++ later.detector } in
      ap (λ (b : Bool). joined (linked_from (by f) (c + 1) (heard b peak x o.peak) (drop remembered detector) xs)) (h c (omega arith) (omega arith))
      ∙ ap joined (linked_same (c + 1) (heard (g c) peak x o.peak) (drop remembered detector) xs (λ i a b. h i (omega arith) (omega arith)))

  voices_same : (c : ℕ) (detector xs : List Float) → Agree c (length xs) → voices_from (by f) c detector xs ≡ voices_from (by g) c detector xs
  unfolding voices_from
  voices_same c detector [] h = refl
  voices_same c detector (x ∷ xs) h =
      let o = peak_abs_of taps (take remembered detector) x in
      ap (λ (b : Bool). voice_of b x o ∷ voices_from (by f) (c + 1) (drop remembered detector) xs) (h c (omega arith) (omega arith))
      ∙ ap (λ (vs : List Voice). voice_of (g c) x o ∷ vs) (voices_same (c + 1) (drop remembered detector) xs (λ i a b. h i (omega arith) (omega arith)))

  module _ (leaves : Float → Float) (weights : List Float) (coeff : Float) (look : ℕ) (target : Float) where
    abbrev frame : (ℕ → Bool) → Moving → List Float → Framed
    frame counts m xs = frame_of (record { linking = by counts; leaves = leaves }) weights coeff look target m xs

    abbrev frames : (ℕ → Bool) → Moving → List (List Float) → Frames
    frames counts m fs = frames_of (record { linking = by counts; leaves = leaves }) weights coeff look target m fs

    frame_same : (m : Moving) (xs : List Float) → Agree 0 (length xs) → frame f m xs ≡ frame g m xs
    unfolding frame_of
    frame_same m xs h = rw (linked_same 0 Number.zero m.detector xs h, voices_same 0 m.detector xs h) refl

    pub entries_past_channels : (channels : ℕ) (fs : List (List Float)) → Wide channels fs → Agree 0 channels → (m : Moving) → frames f m fs ≡ frames g m fs
    unfolding frames_of
    entries_past_channels channels [] none h m = refl
    entries_past_channels channels (xs ∷ fs) (some n w) h m =
        ap (λ (o : Framed). frame_first o (frames f o.moving fs)) (frame_same m xs (λ i a b. h i a (omega (arith, n))))
        ∙ ap (frame_first (frame g m xs)) (entries_past_channels channels fs w h (frame g m xs).moving)

-- ---- "with none counted the gain required is 1"
none_heard : (linking : Linking) (c : ℕ) (peak : Float) (detector xs : List Float) → ((i : ℕ) → c ≤ i → i < c + length xs → linking.counts i ≡ false) → (linked_from linking c peak detector xs).peak ≡ peak
unfolding linked_from
none_heard linking c peak detector [] h = refl
none_heard linking c peak detector (x ∷ xs) h =
    let o = peak_abs_of linking.taps (take remembered detector) x in
    ap (λ (b : Bool). (linked_from linking (c + 1) (heard b peak x o.peak) (drop remembered detector) xs).peak) (h c (omega arith) (omega arith))
    ∙ none_heard linking (c + 1) peak (drop remembered detector) xs (λ i a b. h i (omega arith) (omega arith))

pub gain_with_none : (linking : Linking) (target : Float) (detector xs : List Float) → le Number.zero target ≡ true → ((i : ℕ) → i < length xs → linking.counts i ≡ false)
    → required_gain target (linked_from linking 0 Number.zero detector xs).peak ≡ one
gain_with_none linking target detector xs t h =
    ap (required_gain target) (none_heard linking 0 Number.zero detector xs (λ i a b. h i (omega arith))) ∙ no_less_than_one target Number.zero refl t

-- ---- what a channel that does not count carries changes no gain
module _ (linking : Linking) where
  -- the same samples in the channels that count, from channel c on
  pub data SameSamples : ℕ → List Float → List Float → Type 0 where
    none : {c : ℕ} → SameSamples c [] []
    some : {c : ℕ} {x y : Float} {xs ys : List Float} → (linking.counts c ≡ true → x ≡ y) → SameSamples (c + 1) xs ys → SameSamples c (x ∷ xs) (y ∷ ys)

  -- the same in their stores, n channels of them
  pub data SameStores : ℕ → ℕ → List Float → List Float → Type 0 where
    none : {c : ℕ} {d e : List Float} → SameStores c 0 d e
    some : {c n : ℕ} {d e : List Float} → (linking.counts c ≡ true → take remembered d ≡ take remembered e) → SameStores (c + 1) n (drop remembered d) (drop remembered e) → SameStores c (suc n) d e

  abbrev push : List Float → Float → Pushed
  push d x = peak_abs_of linking.taps (take remembered d) x

  same_push : (c : ℕ) (d e : List Float) (x y : Float) → (linking.counts c ≡ true → take remembered d ≡ take remembered e) → (linking.counts c ≡ true → x ≡ y) → linking.counts c ≡ true → push d x ≡ push e y
  same_push c d e x y s t k = rw (s k, t k) refl

  linked_heard : (c : ℕ) (peak : Float) (d e xs ys : List Float) → SameStores c (length xs) d e → SameSamples c xs ys → (linked_from linking c peak d xs).peak ≡ (linked_from linking c peak e ys).peak
  unfolding linked_from
  linked_heard c peak d e [] [] s none = refl
  linked_heard c peak d e (x ∷ xs) (y ∷ ys) (some s later) (some t rest) =
      linked_heard (c + 1) (heard (linking.counts c) peak x (push d x).peak) (drop remembered d) (drop remembered e) xs ys later rest
      ∙ ap (λ (p : Float). (linked_from linking (c + 1) p (drop remembered e) ys).peak) (go (linking.counts c) refl)
    where
      go : (b : Bool) → linking.counts c ≡ b → heard b peak x (push d x).peak ≡ heard b peak y (push e y).peak
      go true k = rw (s k, t k) refl
      go false k = refl
  linked_heard c peak d e [] (y ∷ ys) s none_here = elim none_here [ ]
  linked_heard c peak d e (x ∷ xs) [] s none_here = elim none_here [ ]

  -- each channel's part of the store afterwards
  module _ (c : ℕ) (peak : Float) (d : List Float) (x : Float) (xs : List Float) (h : remembered ≤ length d) where
    abbrev after : List Float
    after = (linked_from linking c peak d (x ∷ xs)).detector

    abbrev later : List Float
    later = (linked_from linking (c + 1) (heard (linking.counts c) peak x (push d x).peak) (drop remembered d) xs).detector

    pushed_long : length (push d x).store ≡ remembered
    pushed_long = push_length linking.taps (take remembered d) x ∙ length-take-le remembered d h

    first_part : take remembered after ≡ (push d x).store
    unfolding linked_from
    first_part = take_at (push d x).store later remembered pushed_long

    later_part : drop remembered after ≡ later
    unfolding linked_from
    later_part = drop_at (push d x).store later remembered pushed_long

  stores_heard : (c : ℕ) (p q : Float) (d e xs ys : List Float) → length d ≡ length xs * remembered → length e ≡ length xs * remembered → SameStores c (length xs) d e → SameSamples c xs ys
      → SameStores c (length xs) (linked_from linking c p d xs).detector (linked_from linking c q e ys).detector
  stores_heard c p q d e [] [] m n s none = none
  stores_heard c p q d e (x ∷ xs) (y ∷ ys) m n (some s parts) (some t rest) =
      let D : remembered ≤ length d = rw (m, suc-mul (length xs) remembered) (omega arith) in
      let E : remembered ≤ length e = rw (n, suc-mul (length xs) remembered) (omega arith) in
      let M : length (drop remembered d) ≡ length xs * remembered = rw (length-drop remembered d, m, suc-mul (length xs) remembered) (omega arith) in
      let N : length (drop remembered e) ≡ length xs * remembered = rw (length-drop remembered e, n, suc-mul (length xs) remembered) (omega arith) in
      some {c = c} {n = length xs} {d = (linked_from linking c p d (x ∷ xs)).detector} {e = (linked_from linking c q e (y ∷ ys)).detector}
      (λ k. first_part c p d x xs D ∙ ap (λ (o : Pushed). o.store) (same_push c d e x y s t k) ∙ sym (first_part c q e y ys E))
      (rw (later_part c p d x xs D, later_part c q e y ys E) (stores_heard (c + 1) _ _ (drop remembered d) (drop remembered e) xs ys M N parts rest))
  stores_heard c p q d e [] (y ∷ ys) m n s none_here = elim none_here [ ]
  stores_heard c p q d e (x ∷ xs) [] m n s none_here = elim none_here [ ]

  -- ---- frames in turn, of so many channels: from the same envelope, and the same in the stores of those that count
  pub data SameFrames (channels : ℕ) : List (List Float) → List (List Float) → Type 0 where
    none : SameFrames channels [] []
    some : {xs ys : List Float} {fs gs : List (List Float)} → length xs ≡ channels → SameSamples 0 xs ys → SameFrames channels fs gs → SameFrames channels (xs ∷ fs) (ys ∷ gs)

  pub record SameMoving (channels : ℕ) (m n : Moving) : Type 0 where
    pub env : m.env ≡ n.env
    pub stores : SameStores 0 channels m.detector n.detector
    pub long : (length m.detector ≡ channels * remembered) × (length n.detector ≡ channels * remembered)

  module _ (leaves : Float → Float) (weights : List Float) (coeff : Float) (look : ℕ) (target : Float) (channels : ℕ) where
    abbrev run : Moving → List (List Float) → Frames
    run m fs = frames_of (record { linking = linking; leaves = leaves }) weights coeff look target m fs

    pub left_out_unheard : (fs gs : List (List Float)) → SameFrames channels fs gs → (m n : Moving) → SameMoving channels m n → gains_of_frames (run m fs).frames ≡ gains_of_frames (run n gs).frames
    unfolding frames_of frame_of
    left_out_unheard [] [] none m n s = refl
    left_out_unheard (xs ∷ fs) (ys ∷ gs) (some w t later) m n s =
        let frame : Moving → List Float → Framed = λ m xs. frame_of (record { linking = linking; leaves = leaves }) weights coeff look target m xs in
        let S = subst (λ (k : ℕ). SameStores 0 k m.detector n.detector) (sym w) s.stores in
        let P : (linked_from linking 0 Number.zero m.detector xs).peak ≡ (linked_from linking 0 Number.zero n.detector ys).peak = linked_heard 0 Number.zero m.detector n.detector xs ys S t in
        let G : gain_step_of weights coeff m.env (required_gain target (linked_from linking 0 Number.zero m.detector xs).peak) ≡ gain_step_of weights coeff n.env (required_gain target (linked_from linking 0 Number.zero n.detector ys).peak) =
        ap (λ (e : Enveloped). gain_step_of weights coeff e (required_gain target (linked_from linking 0 Number.zero m.detector xs).peak)) s.env ∙ ap (λ (p : Float). gain_step_of weights coeff n.env (required_gain target p)) P
        in
        ap (λ (x : Float). x ∷ gains_of_frames (run (frame m xs).moving fs).frames) (ap (λ (g : GainStepped). g.env.gain) G)
        ∙ ap (λ (l : List Float). (frame n ys).gain ∷ l)
        (left_out_unheard fs gs later (frame m xs).moving (frame n ys).moving
        (record {
          env = ap (λ (g : GainStepped). g.env) G;
          stores = subst (λ (k : ℕ). SameStores 0 k (frame m xs).moving.detector (frame n ys).moving.detector) w
              (stores_heard 0 Number.zero Number.zero m.detector n.detector xs ys (s.long.0 ∙ ap (λ (k : ℕ). k * remembered) (sym w)) (s.long.1 ∙ ap (λ (k : ℕ). k * remembered) (sym w)) S t);
          long = (detector_length linking 0 Number.zero m.detector xs ∙ s.long.0, detector_length linking 0 Number.zero n.detector ys ∙ s.long.1);
        }))
    left_out_unheard [] (ys ∷ gs) none_here m n s = elim none_here [ ]
    left_out_unheard (xs ∷ fs) [] none_here m n s = elim none_here [ ]
