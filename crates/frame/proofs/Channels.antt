-- The turns of the loops over a run's channels: the stores of the channels passed, and what the rest comes to, stay the whole.
use mathlib.Core.Path.{◌≡◌, refl, sym, ap, ◌∙◌, subst}
use mathlib.Core.Bool.{Bool, true}
use mathlib.Core.List.{List, [], ◌++◌, append-nil, append_assoc}
use Prim.Native.Nat.{ℕ, suc, ◌+◌, ◌-◌, ◌*◌, ◌≤◌, ◌<◌}
use native.Mathlib.Numerals.{add-one}
use native.Mathlib.Nat.{mul-le-mul_right, suc-mul, zero-mul}
use native.Mathlib.Omega.{arith}
use lib.ListN.{length, take, drop, length-append, length-drop, take-append-drop, drop_of_length-le}
use lib.Seq.{length-take-le, drop-append-le, drop-drop, take_at, drop_at}
use lib.Ieee.{Float}
use Rattle.detector.specs.Oversample.{remembered}
use Rattle.detector.specs.Run.{run_length, pushes_of}
use Rattle.detector.specs.Taps.{taps}
use Rattle.settings.specs.declared.LimiterSettings.{LimiterSettings}
use Rattle.settings.specs.Counted.{counts_in}
use Rattle.frame.specs.Rules.{Linking, taps_of, linking_of}
use Rattle.envelope.specs.Row.{pos_after}
use Rattle.frame.specs.Passes.{heard_all, Peaks, peaks_at, channel_peaks, peaks_pass, Outputs, outputs_at, Written, written_at, channel_outputs, outputs_pass}

-- ---- one channel's places in a flat store: w of them, from c × w on
pub one_more : (c w : ℕ) → (c + 1) * w ≡ c * w + w
one_more c w = rw (add-one c) (suc-mul c w)

pub places-end : (c channels w : ℕ) → c < channels → c * w + w ≤ channels * w
places-end c channels w h =
    let k : (c + 1) * w ≤ channels * w = mul-le-mul_right w (omega arith) in
    subst (λ (m : ℕ). m ≤ channels * w) (one_more c w) k

-- how many elements a part has
pub part_length : (l : List Float) (a w k : ℕ) → a + w ≤ length l → k ≡ w → length (take k (drop a l)) ≡ w
part_length l a w k h e = rw e (length-take-le w (drop a l) (rw (length-drop a l) (omega arith)))

-- past its end
past : (l : List Float) (a w : ℕ) → a + w ≤ length l → drop w (take w (drop a l)) ≡ []
past l a w h = drop_of_length-le (take w (drop a l)) {i = w} (rw (part_length l a w w h refl) (omega arith))

-- the store with ys in the channel's first m places
module _ (l ys : List Float) (a w m : ℕ) (h : a + w ≤ length l) (fits : m ≤ w) (n : length ys ≡ m) where
  abbrev rest : List Float
  rest = drop a l

  abbrev passed : List Float
  passed = take a l ++ (ys ++ drop m (take w rest))

  enough : w ≤ length rest
  enough = rw (length-drop a l) (omega arith)

  put : take a l ++ (ys ++ drop m rest) ≡ passed ++ drop w rest
  put =
      let d : drop m rest ≡ drop m (take w rest) ++ drop w rest =
      ap (drop m) (sym (take-append-drop w rest)) ∙ drop-append-le m (take w rest) (drop w rest) (rw (length-take-le w rest enough) fits)
      in
      ap (λ (z : List Float). take a l ++ (ys ++ z)) d
      ∙ ap (λ (z : List Float). take a l ++ z) (sym (append_assoc ys (drop m (take w rest)) (drop w rest)))
      ∙ sym (append_assoc (take a l) (ys ++ drop m (take w rest)) (drop w rest))

  passed_length : length passed ≡ a + w
  passed_length =
      length-append (take a l) (ys ++ drop m (take w rest))
      ∙ rw (length-take-le a l (omega arith), length-append ys (drop m (take w rest)), length-drop m (take w rest), length-take-le w rest enough, n) (omega arith)

  pub put_passed : take (a + w) (take a l ++ (ys ++ drop m rest)) ≡ take a l ++ (ys ++ drop m (take w rest))
  put_passed = ap (take (a + w)) put ∙ take_at passed (drop w rest) (a + w) passed_length

  pub put_ahead : drop (a + w) (take a l ++ (ys ++ drop m rest)) ≡ drop w (drop a l)
  put_ahead = ap (drop (a + w)) put ∙ drop_at passed (drop w rest) (a + w) passed_length

-- the same with all of its places replaced
pub put_whole : (l ys : List Float) (a w : ℕ) → a + w ≤ length l → length ys ≡ w → take (a + w) (take a l ++ (ys ++ drop w (drop a l))) ≡ take a l ++ ys
put_whole l ys a w h n = put_passed l ys a w w h (omega arith) n ∙ rw (past l a w h) (ap (λ (z : List Float). take a l ++ z) (append-nil ys))

-- ---- peaks
-- the stores of the channels passed, and what the rest comes to
abbrev pub peaks_since : Linking → ℕ → ℕ → ℕ → List Float → List Float → List Float → Peaks
peaks_since linking channels n c peaks detector audio =
    let later = peaks_pass linking c (channels - c) n peaks (drop (c * remembered) detector) (drop (c * run_length) audio) in
    peaks_at later.peaks (take (c * remembered) detector ++ later.detector)

pub peaks_start : (linking : Linking) (channels n : ℕ) (peaks detector audio : List Float) → peaks_since linking channels n 0 peaks detector audio ≡ peaks_pass linking 0 channels n peaks detector audio
peaks_start linking channels n peaks detector audio =
    let e : channels - 0 ≡ channels = omega arith in
    rw (e, zero-mul remembered, zero-mul run_length) refl

pub peaks_done : (linking : Linking) (channels n c : ℕ) (peaks detector audio : List Float) → channels ≤ c → peaks_at peaks detector ≡ peaks_since linking channels n c peaks detector audio
unfolding peaks_pass
peaks_done linking channels n c peaks detector audio h =
    let e : channels - c ≡ 0 = omega arith in
    rw (e, take-append-drop (c * remembered) detector) refl

module _ (linking : Linking) (channels n c : ℕ) (peaks l audio : List Float) where
  peaks_next : (o : Peaks) (l' : List Float) → c < channels → o ≡ channel_peaks linking c peaks (take remembered (drop (c * remembered) l)) (take n (drop (c * run_length) audio))
      → take ((c + 1) * remembered) l' ≡ take (c * remembered) l ++ o.detector → drop ((c + 1) * remembered) l' ≡ drop remembered (drop (c * remembered) l)
      → drop ((c + 1) * run_length) audio ≡ drop run_length (drop (c * run_length) audio)
      → peaks_since linking channels n (c + 1) o.peaks l' audio ≡ peaks_since linking channels n c peaks l audio
  unfolding peaks_pass
  peaks_next o l' h e t d s =
      let k = channels - (c + 1) in
      let b : channels - c ≡ suc k = omega arith in
      let later = peaks_pass linking (c + 1) k n o.peaks (drop remembered (drop (c * remembered) l)) (drop run_length (drop (c * run_length) audio)) in
      let x : peaks_since linking channels n (c + 1) o.peaks l' audio ≡ peaks_at later.peaks (take (c * remembered) l ++ (o.detector ++ later.detector)) =
      rw (d, s, t) (ap (peaks_at later.peaks) (append_assoc (take (c * remembered) l) o.detector later.detector))
      in
      x ∙ rw (b, e) refl

-- the same from what the code finds
pub peaks_more : (linking : Linking) (channels n c k1 k2 : ℕ) (peaks l audio peaks' ys : List Float) → c < channels → length l ≡ channels * remembered → k1 ≡ remembered → k2 ≡ n
    → length ys ≡ length (take k1 (drop (c * remembered) l)) → peaks_at peaks' ys ≡ channel_peaks linking c peaks (take k1 (drop (c * remembered) l)) (take k2 (drop (c * run_length) audio))
    → peaks_since linking channels n (c + 1) peaks' (take (c * remembered) l ++ (ys ++ drop k1 (drop (c * remembered) l))) audio ≡ peaks_since linking channels n c peaks l audio
peaks_more linking channels n c k1 k2 peaks l audio peaks' ys h f e1 e2 m o =
    let a = c * remembered in
    let within : a + remembered ≤ length l = rw f (places-end c channels remembered h) in
    let many : length ys ≡ remembered = m ∙ part_length l a remembered k1 within e1 in
    let l' = take a l ++ (ys ++ drop k1 (drop a l)) in
    let t : take ((c + 1) * remembered) l' ≡ take a l ++ ys = rw (one_more c remembered, e1) (put_whole l ys a remembered within many) in
    let d : drop ((c + 1) * remembered) l' ≡ drop remembered (drop a l) = rw (one_more c remembered, e1) (put_ahead l ys a remembered remembered within (omega arith) many) in
    let s : drop ((c + 1) * run_length) audio ≡ drop run_length (drop (c * run_length) audio) = rw (one_more c run_length) (sym (drop-drop run_length (c * run_length) audio)) in
    peaks_next linking channels n c peaks l audio (peaks_at peaks' ys) l' h (rw (e1, e2) at o) t d s

-- what the detector remembers, from peaks of which nothing is asked
pub record Storing (linking : Linking) (channels n c : ℕ) (detector audio : List Float) (total : Peaks) : Type 0 where
  pub whole : List Float
  pub since : peaks_since linking channels n c whole detector audio ≡ total

module _ (settings : LimiterSettings) (channels n : ℕ) where
  pub storing_start : (peaks detector audio : List Float) → Storing (linking_of settings) channels n 0 detector audio (peaks_pass (linking_of settings) 0 channels n peaks detector audio)
  storing_start peaks detector audio = record { whole = peaks; since = peaks_start (linking_of settings) channels n peaks detector audio }

  pub storing_done : (c : ℕ) (detector audio : List Float) (total : Peaks) → channels ≤ c → Storing (linking_of settings) channels n c detector audio total → detector ≡ total.detector
  storing_done c detector audio total h s = ap (λ (o : Peaks). o.detector) (peaks_done (linking_of settings) channels n c s.whole detector audio h ∙ s.since)

  pub storing_more : (c k1 k2 : ℕ) (l audio ys : List Float) (total : Peaks) → Storing (linking_of settings) channels n c l audio total → c < channels → length l ≡ channels * remembered → k1 ≡ remembered → k2 ≡ n
      → length ys ≡ length (take k1 (drop (c * remembered) l)) → ys ≡ (pushes_of taps (take k1 (drop (c * remembered) l)) (take k2 (drop (c * run_length) audio))).store
      → Storing (linking_of settings) channels n (c + 1) (take (c * remembered) l ++ (ys ++ drop k1 (drop (c * remembered) l))) audio total
  unfolding channel_peaks taps_of
  storing_more c k1 k2 l audio ys total s h f e1 e2 m o =
      let next = channel_peaks (linking_of settings) c s.whole (take k1 (drop (c * remembered) l)) (take k2 (drop (c * run_length) audio)) in
      record { whole = next.peaks; since = peaks_more (linking_of settings) channels n c k1 k2 s.whole l audio next.peaks ys h f e1 e2 m (ap (peaks_at next.peaks) o) ∙ s.since }

-- ---- the peaks alone, where the stores stay as they are: what the channels from c on make of them
abbrev pub shares_since : Linking → ℕ → ℕ → ℕ → List Float → List Float → List Float → List Float
shares_since linking channels n c peaks detector audio = (peaks_pass linking c (channels - c) n peaks (drop (c * remembered) detector) (drop (c * run_length) audio)).peaks

module _ (linking : Linking) (channels n c : ℕ) (peaks detector audio : List Float) where
  pub shares_done : channels ≤ c → shares_since linking channels n c peaks detector audio ≡ peaks
  shares_done h = ap (λ (o : Peaks). o.peaks) (sym (peaks_done linking channels n c peaks detector audio h))

  pub shares_more : (k1 k2 : ℕ) → c < channels → k1 ≡ remembered → k2 ≡ n
      → shares_since linking channels n (c + 1) (channel_peaks linking c peaks (take k1 (drop (c * remembered) detector)) (take k2 (drop (c * run_length) audio))).peaks detector audio ≡ shares_since linking channels n c peaks detector audio
  unfolding peaks_pass
  shares_more k1 k2 h e1 e2 =
      let b : channels - c ≡ suc (channels - (c + 1)) = omega arith in
      let d : drop ((c + 1) * remembered) detector ≡ drop remembered (drop (c * remembered) detector) = rw (one_more c remembered) (sym (drop-drop remembered (c * remembered) detector)) in
      let s : drop ((c + 1) * run_length) audio ≡ drop run_length (drop (c * run_length) audio) = rw (one_more c run_length) (sym (drop-drop run_length (c * run_length) audio)) in
      let heard_here : ℕ → ℕ → List Float = λ (j k : ℕ). (channel_peaks linking c peaks (take j (drop (c * remembered) detector)) (take k (drop (c * run_length) audio))).peaks in
      let rest : List Float → List Float → List Float → List Float = λ (ps l a : List Float). (peaks_pass linking (c + 1) (channels - (c + 1)) n ps l a).peaks in
      ap (λ (j : ℕ). rest (heard_here j k2) (drop ((c + 1) * remembered) detector) (drop ((c + 1) * run_length) audio)) e1
      ∙ ap (λ (k : ℕ). rest (heard_here remembered k) (drop ((c + 1) * remembered) detector) (drop ((c + 1) * run_length) audio)) e2
      ∙ ap (λ (l : List Float). rest (heard_here remembered n) l (drop ((c + 1) * run_length) audio)) d
      ∙ ap (λ (a : List Float). rest (heard_here remembered n) (drop remembered (drop (c * remembered) detector)) a) s
      ∙ sym (ap (λ (k : ℕ). (peaks_pass linking c k n peaks (drop (c * remembered) detector) (drop (c * run_length) audio)).peaks) b)

-- ---- outputs
abbrev pub outputs_since : (Float → Float) → ℕ → ℕ → List Float → ℕ → ℕ → ℕ → List Float → List Float → Written
outputs_since leaves look pos gains channels n c delay audio =
    let later = outputs_pass leaves look pos gains (channels - c) n (drop (c * look) delay) (drop (c * run_length) audio) in
    written_at (take (c * run_length) audio ++ later.audio) (take (c * look) delay ++ later.delay)

module _ (leaves : Float → Float) (look pos : ℕ) (gains : List Float) (channels n : ℕ) where
  pub outputs_start : (delay audio : List Float) → outputs_since leaves look pos gains channels n 0 delay audio ≡ outputs_pass leaves look pos gains channels n delay audio
  outputs_start delay audio =
      let e : channels - 0 ≡ channels = omega arith in
      rw (e, zero-mul look) refl

  pub outputs_end : (c : ℕ) (delay audio : List Float) → channels ≤ c → written_at audio delay ≡ outputs_since leaves look pos gains channels n c delay audio
  unfolding outputs_pass
  outputs_end c delay audio h =
      let e : channels - c ≡ 0 = omega arith in
      rw (e, take-append-drop (c * look) delay, take-append-drop (c * run_length) audio) refl

  outputs_next : (c : ℕ) (delay audio : List Float) (o : Outputs) (d' a' : List Float) → c < channels
      → o ≡ channel_outputs leaves look pos gains (take look (drop (c * look) delay)) (take n (drop (c * run_length) audio))
      → take ((c + 1) * look) d' ≡ take (c * look) delay ++ o.line → drop ((c + 1) * look) d' ≡ drop look (drop (c * look) delay)
      → take ((c + 1) * run_length) a' ≡ take (c * run_length) audio ++ (o.outputs ++ drop n (take run_length (drop (c * run_length) audio))) → drop ((c + 1) * run_length) a' ≡ drop run_length (drop (c * run_length) audio)
      → outputs_since leaves look pos gains channels n (c + 1) d' a' ≡ outputs_since leaves look pos gains channels n c delay audio
  unfolding outputs_pass
  outputs_next c delay audio o d' a' h e dt dd at ad =
      let k = channels - (c + 1) in
      let b : channels - c ≡ suc k = omega arith in
      let left = drop n (take run_length (drop (c * run_length) audio)) in
      let later = outputs_pass leaves look pos gains k n (drop look (drop (c * look) delay)) (drop run_length (drop (c * run_length) audio)) in
      let au : take (c * run_length) audio ++ (o.outputs ++ left) ++ later.audio ≡ take (c * run_length) audio ++ (o.outputs ++ (left ++ later.audio)) =
      append_assoc (take (c * run_length) audio) (o.outputs ++ left) later.audio ∙ ap (λ (z : List Float). take (c * run_length) audio ++ z) (append_assoc o.outputs left later.audio)
      in
      let x : outputs_since leaves look pos gains channels n (c + 1) d' a' ≡ written_at (take (c * run_length) audio ++ (o.outputs ++ (left ++ later.audio))) (take (c * look) delay ++ (o.line ++ later.delay)) =
      rw (dd, ad, dt, at, au, append_assoc (take (c * look) delay) o.line later.delay) refl
      in
      x ∙ rw (b, e) refl

  -- the same from what the code finds
  pub outputs_turn : (c k1 k2 : ℕ) (delay audio line ys : List Float) → c < channels → length delay ≡ channels * look → c * run_length + run_length ≤ length audio → n ≤ run_length → k1 ≡ look → k2 ≡ n
      → length line ≡ length (take k1 (drop (c * look) delay)) → length ys ≡ length (take k2 (drop (c * run_length) audio))
      → outputs_at ys line ≡ channel_outputs leaves (length (take k1 (drop (c * look) delay))) pos gains (take k1 (drop (c * look) delay)) (take k2 (drop (c * run_length) audio))
      → outputs_since leaves look pos gains channels n (c + 1) (take (c * look) delay ++ (line ++ drop k1 (drop (c * look) delay))) (take (c * run_length) audio ++ (ys ++ drop k2 (drop (c * run_length) audio)))
      ≡ outputs_since leaves look pos gains channels n c delay audio
  outputs_turn c k1 k2 delay audio line ys h f g p e1 e2 m1 m2 o =
      let a = c * look in
      let b = c * run_length in
      let within : a + look ≤ length delay = rw f (places-end c channels look h) in
      let many : length line ≡ look = m1 ∙ part_length delay a look k1 within e1 in
      let few : length ys ≡ n = m2 ∙ part_length audio b n k2 (omega arith) e2 in
      let d' = take a delay ++ (line ++ drop k1 (drop a delay)) in
      let a' = take b audio ++ (ys ++ drop k2 (drop b audio)) in
      let dt : take ((c + 1) * look) d' ≡ take a delay ++ line = rw (one_more c look, e1) (put_whole delay line a look within many) in
      let dd : drop ((c + 1) * look) d' ≡ drop look (drop a delay) = rw (one_more c look, e1) (put_ahead delay line a look look within (omega arith) many) in
      let at : take ((c + 1) * run_length) a' ≡ take b audio ++ (ys ++ drop n (take run_length (drop b audio))) = rw (one_more c run_length, e2) (put_passed audio ys b run_length n g p few) in
      let ad : drop ((c + 1) * run_length) a' ≡ drop run_length (drop b audio) = rw (one_more c run_length, e2) (put_ahead audio ys b run_length n g p few) in
      outputs_next c delay audio (outputs_at ys line) d' a' h (rw (e1, e2, part_length delay a look look within refl) at o) dt dd at ad

-- what lies ahead is as it was
pub ahead_turn : (n c k : ℕ) (before audio ys : List Float) → c * run_length + run_length ≤ length audio → n ≤ run_length → k ≡ n → length ys ≡ length (take k (drop (c * run_length) audio))
    → drop (c * run_length) audio ≡ drop (c * run_length) before
    → drop ((c + 1) * run_length) (take (c * run_length) audio ++ (ys ++ drop k (drop (c * run_length) audio))) ≡ drop ((c + 1) * run_length) before
ahead_turn n c k before audio ys g p e m d =
    let b = c * run_length in
    let few : length ys ≡ n = m ∙ part_length audio b n k (omega arith) e in
    let passed : drop (b + run_length) (take b audio ++ (ys ++ drop n (drop b audio))) ≡ drop (b + run_length) before =
    put_ahead audio ys b run_length n g p few ∙ ap (drop run_length) d ∙ drop-drop run_length b before
    in
    rw (one_more c run_length, e) passed

pub pos_turn : (look pos channels n c k1 k2 : ℕ) (delay audio : List Float) (next : ℕ) → c < channels → length delay ≡ channels * look → c * run_length + n ≤ length audio → k1 ≡ look → k2 ≡ n
    → next ≡ pos_after (length (take k1 (drop (c * look) delay))) pos (length (take k2 (drop (c * run_length) audio))) → next ≡ pos_after look pos n
pos_turn look pos channels n c k1 k2 delay audio next h f g e1 e2 o =
    rw (part_length delay (c * look) look k1 (rw f (places-end c channels look h)) e1, part_length audio (c * run_length) n k2 g e2) at o

-- ---- the peaks of one channel that counts, from what the calls find: the table is `taps`
pub channel_heard : (settings : LimiterSettings) (c : ℕ) (store samples peaks heard_peaks answers : List Float) → counts_in settings c ≡ true → answers ≡ (pushes_of taps store samples).peaks → heard_peaks ≡ heard_all true peaks samples answers
    → (heard_peaks ≡ (channel_peaks (linking_of settings) c peaks store samples).peaks) × (answers ≡ (pushes_of (taps_of settings) store samples).peaks)
unfolding channel_peaks taps_of
channel_heard settings c store samples peaks heard_peaks answers k a h = (h ∙ ap (heard_all true peaks samples) a ∙ ap (λ (b : Bool). heard_all b peaks samples (pushes_of taps store samples).peaks) (sym k), a)
