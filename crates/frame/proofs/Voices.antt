-- What the channels bring to a frame, channel by channel: the frames in turn tell the peaks and seats that the passes tell.
use mathlib.Core.Path.{◌≡◌, refl, sym, ap, ◌∙◌}
use mathlib.Core.List.{List, [], ◌∷◌, ◌++◌}
use Prim.Native.Nat.{ℕ, zero, suc, ◌+◌, ◌*◌, ◌≤◌, ◌<◌}
use native.Mathlib.Nat.{suc-mul}
use native.Mathlib.Omega.{arith}
use lib.ListN.{length, get_or, take, drop, replicate, length-drop, take-append-drop}
use lib.Seq.{take_at, drop_at, length-take-le}
use lib.Ieee.{Float, nan}
use Rattle.arithmetic.specs.Number
use Rattle.audio.specs.Planar.{frame_at, frames_at}
use Rattle.detector.specs.Oversample.{remembered, peak_abs_of}
use Rattle.detector.specs.Run.{run_length, pushes_of}
use Rattle.detector.proofs.Store.{stores_length}
use Rattle.detector.proofs.Line.{store_after}
use Rattle.frame.specs.Rules.{Linking, Rules}
use Rattle.frame.specs.Seat.{Voice, voice_of, voices_from, PeakAt, peak_among}
use Rattle.frame.specs.Frame.{heard, linked_from, Moving, frame_of}
use Rattle.frame.specs.Run.{frames_of, frames_in, peaks_of_frames}
use Rattle.frame.specs.Passes.{Peaks, channel_peaks, peaks_pass, voices_pass, places_from}
use Rattle.frame.proofs.Heard.{zeros_length}
use Rattle.frame.proofs.Exchange.{linked_all, pass_linked}

-- after the first i frames of a run, what frame i is heard with
pub voices_are : (linking : Linking) (c k i : ℕ) (ps detector audio : List Float) → length detector ≡ k * remembered
    → voices_from linking c (peaks_pass linking c k i ps detector audio).detector (frame_at nan run_length k i audio) ≡ voices_pass linking c k i detector audio
unfolding voices_from voices_pass peaks_pass channel_peaks frame_at
voices_are linking c zero i ps detector audio d = refl
voices_are linking c (suc k) i ps detector audio d =
    let s = take remembered detector in
    let o = channel_peaks linking c ps s (take i audio) in
    let later = peaks_pass linking (c + 1) k i o.peaks (drop remembered detector) (drop run_length audio) in
    let w = suc-mul k remembered in
    let n : length o.detector ≡ remembered = stores_length linking.taps s (take i audio) ∙ length-take-le remembered detector (omega arith) in
    rw (take_at o.detector later.detector remembered n, drop_at o.detector later.detector remembered n)
    (ap (λ (l : List Voice). voice_of (linking.counts c) (get_or audio i nan) (peak_abs_of linking.taps o.detector (get_or audio i nan)) ∷ l)
    (voices_are linking (c + 1) k i o.peaks (drop remembered detector) (drop run_length audio) (rw (length-drop remembered detector) (omega arith))))

-- ---- what the detector remembers, a frame more
detector_next : (linking : Linking) (c k i : ℕ) (p : Float) (ps qs detector audio : List Float) → i < run_length → length detector ≡ k * remembered → k * run_length ≤ length audio
    → (linked_from linking c p (peaks_pass linking c k i ps detector audio).detector (frame_at nan run_length k i audio)).detector ≡ (peaks_pass linking c k (i + 1) qs detector audio).detector
unfolding linked_from peaks_pass channel_peaks frame_at
detector_next linking c zero i p ps qs detector audio h d a = refl
detector_next linking c (suc k) i p ps qs detector audio h d a =
    let s = take remembered detector in
    let x = get_or audio i nan in
    let o = channel_peaks linking c ps s (take i audio) in
    let r = channel_peaks linking c qs s (take (i + 1) audio) in
    let later = peaks_pass linking (c + 1) k i o.peaks (drop remembered detector) (drop run_length audio) in
    let q = peak_abs_of linking.taps o.detector x in
    let w = suc-mul k remembered in
    let v = suc-mul k run_length in
    let n : length o.detector ≡ remembered = stores_length linking.taps s (take i audio) ∙ length-take-le remembered detector (omega arith) in
    rw (take_at o.detector later.detector remembered n, drop_at o.detector later.detector remembered n, store_after linking.taps s audio i nan (omega arith))
    (ap (λ (l : List Float). q.store ++ l)
    (detector_next linking (c + 1) k i (heard (linking.counts c) p x q.peak) o.peaks r.peaks (drop remembered detector) (drop run_length audio) h (rw (length-drop remembered detector) (omega arith))
    (rw (length-drop run_length audio) (omega arith))))

-- before any frame
none_passed : (linking : Linking) (c k : ℕ) (ps detector audio : List Float) → length detector ≡ k * remembered → (peaks_pass linking c k 0 ps detector audio).detector ≡ detector
unfolding peaks_pass channel_peaks pushes_of
none_passed linking c zero ps detector audio d = refl
none_passed linking c (suc k) ps detector audio d =
    let w = suc-mul k remembered in
    let o = channel_peaks linking c ps (take remembered detector) [] in
    rw (none_passed linking (c + 1) k o.peaks (drop remembered detector) (drop run_length audio) (rw (length-drop remembered detector) (omega arith))) (take-append-drop remembered detector)

-- ---- the frames in turn
unfoldable places_all : Linking → List Float → List (List Float) → List PeakAt
places_all linking detector [] = []
places_all linking detector (f ∷ fs) =
    let o = linked_from linking 0 Number.zero detector f in
    peak_among o.peak (voices_from linking 0 detector f) ∷ places_all linking o.detector fs

told_in_turn : (rules : Rules) (weights : List Float) (coeff : Float) (look : ℕ) (target : Float) (m : Moving) (fs : List (List Float))
    → peaks_of_frames (frames_of rules weights coeff look target m fs).frames ≡ places_all rules.linking m.detector fs
unfolding frames_of frame_of places_all
told_in_turn rules weights coeff look target m [] = refl
told_in_turn rules weights coeff look target m (f ∷ fs) =
    let x = frame_of rules weights coeff look target m f in
    ap (λ (l : List PeakAt). x.at ∷ l) (told_in_turn rules weights coeff look target x.moving fs)

module _ (linking : Linking) (k : ℕ) (ps detector audio : List Float) (d : length detector ≡ k * remembered) (a : k * run_length ≤ length audio) where
  -- what the detector remembers before frame i
  abbrev before : ℕ → List Float
  before i = (peaks_pass linking 0 k i ps detector audio).detector

  places_from_lem : (n i : ℕ) → i + n ≤ run_length
      → places_all linking (before i) (frames_at nan run_length k i n audio) ≡ places_from linking k i (linked_all linking 0 (replicate n Number.zero) (before i) (frames_at nan run_length k i n audio)).peaks detector audio
  unfolding places_all places_from linked_all frames_at
  places_from_lem zero i h = refl
  places_from_lem (suc n) i h =
      rw (voices_are linking 0 k i ps detector audio d, detector_next linking 0 k i Number.zero ps ps detector audio (omega arith) d a)
      (ap (λ (l : List PeakAt). peak_among (linked_from linking 0 Number.zero (before i) (frame_at nan run_length k i audio)).peak (voices_pass linking 0 k i detector audio) ∷ l) (places_from_lem n (i + 1) (omega arith)))

-- ---- a run
module _ (rules : Rules) (weights : List Float) (coeff : Float) (look : ℕ) (target : Float) (channels n : ℕ) (m : Moving) (audio zs : List Float) where
  pub run_places : n ≤ run_length → length m.detector ≡ channels * remembered → channels * run_length ≤ length audio → zs ≡ replicate n Number.zero
      → places_from rules.linking channels 0 (peaks_pass rules.linking 0 channels n zs m.detector audio).peaks m.detector audio ≡ peaks_of_frames (frames_of rules weights coeff look target m (frames_in channels n audio)).frames
  run_places short d a z =
      let linking = rules.linking in
      let fs = frames_in channels n audio in
      let e = none_passed linking 0 channels zs m.detector audio d in
      let p = pass_linked linking channels 0 n zs m.detector audio short (zeros_length n zs z) d a in
      sym (told_in_turn rules weights coeff look target m fs
      ∙ ap (λ (l : List Float). places_all linking l fs) (sym e)
      ∙ places_from_lem linking channels zs m.detector audio d a n 0 (omega arith)
      ∙ ap (λ (l : List Float). places_from linking channels 0 (linked_all linking 0 (replicate n Number.zero) l fs).peaks m.detector audio) e
      ∙ ap (λ (l : List Float). places_from linking channels 0 (linked_all linking 0 l m.detector fs).peaks m.detector audio) (sym z)
      ∙ ap (λ (q : Peaks). places_from linking channels 0 q.peaks m.detector audio) p)
