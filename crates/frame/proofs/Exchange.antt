-- A run in passes is the run frame by frame: each channel's store and line is its own, so its frames can be taken before the next channel's.
use mathlib.Core.Path.{◌≡◌, refl, sym, ap, ◌∙◌}
use mathlib.Core.Bool.{Bool}
use mathlib.Core.List.{List, [], ◌∷◌, ◌++◌, map}
use Prim.Native.Nat.{ℕ, zero, suc, ◌+◌, ◌*◌, ◌≤◌}
use native.Mathlib.Nat.{suc-mul, suc_inj}
use native.Mathlib.Omega.{arith}
use lib.ListN.{length, set, take, drop, replicate, length-set, length-drop, length-map, take-append-drop}
use lib.Seq.{take_at, drop_at, length-take-le}
use lib.Ieee.{Float, nan}
use Rattle.arithmetic.specs.Number
use Rattle.arithmetic.specs.Sanitize.{finite_or_zero}
use Rattle.audio.specs.Planar.{frame_at, frames_at, first_of, others_of, written}
use Rattle.detector.specs.Oversample.{remembered, peak_abs_of}
use Rattle.detector.specs.Run.{run_length, pushes_of}
use Rattle.detector.proofs.Store.{push_length, pushes_length}
use Rattle.envelope.specs.Row.{next_pos, pos_after}
use Rattle.envelope.specs.Step.{Enveloped, gain_step_of}
use Rattle.frame.specs.Rules.{Linking, Rules}
use Rattle.frame.specs.Frame.{heard, linked_from, required_gain, delayed_from, Moving, Framed, frame_of}
use Rattle.frame.specs.Run.{Frames, frames_of, frames_in, written_in, RunDone, run_of, gains_of_frames}
use Rattle.arithmetic.proofs.InTurn.{split}
use Rattle.frame.proofs.Heard.{zeros_length}
use Rattle.frame.specs.Passes.{heard_all, Peaks, peaks_at, channel_peaks, peaks_pass, required_all, Gains, gains_of, channel_outputs, Written, written_at, outputs_pass}

-- ---- the frames of a run, channel by channel
pub frames_length : (k n i : ℕ) (audio : List Float) → length (frames_at nan run_length k i n audio) ≡ n
unfolding frames_at
frames_length k zero i audio = refl
frames_length k (suc n) i audio = ap suc (frames_length k n (i + 1) audio)

-- a channel's samples each before the frame of the other channels' samples
unfoldable before : List Float → List (List Float) → List (List Float)
before [] frames = []
before (x ∷ xs) [] = []
before (x ∷ xs) (f ∷ fs) = (x ∷ f) ∷ before xs fs

frames_beside : (k n i : ℕ) (audio : List Float) → i + n ≤ length audio → frames_at nan run_length (suc k) i n audio ≡ before (take n (drop i audio)) (frames_at nan run_length k i n (drop run_length audio))
unfolding frames_at frame_at before
frames_beside k zero i audio h = refl
frames_beside k (suc n) i audio h = rw (split audio i (omega arith), frames_beside k n (i + 1) audio (omega arith)) refl

frames_none : (n i : ℕ) (audio : List Float) → frames_at nan run_length 0 i n audio ≡ replicate n []
unfolding frames_at frame_at
frames_none zero i audio = refl
frames_none (suc n) i audio = ap (λ (l : List (List Float)). [] ∷ l) (frames_none n (i + 1) audio)

-- each channel has n samples
module _ (n : ℕ) (short : n ≤ run_length) (k : ℕ) (audio : List Float) (h : suc k * run_length ≤ length audio) where
  samples_fit : n ≤ length audio
  samples_fit = let e = suc-mul k run_length in omega arith

  others_fit : k * run_length ≤ length (drop run_length audio)
  others_fit = let e = suc-mul k run_length in rw (length-drop run_length audio) (omega arith)

heard_length : (counts : Bool) (ps xs answers : List Float) → length xs ≡ length ps → length answers ≡ length ps → length (heard_all counts ps xs answers) ≡ length ps
unfolding heard_all
heard_length counts [] xs answers h k = refl
heard_length counts (p ∷ ps) [] answers h k = absurd (omega arith)
heard_length counts (p ∷ ps) (x ∷ xs) [] h k = absurd (omega arith)
heard_length counts (p ∷ ps) (x ∷ xs) (a ∷ later) h k = ap suc (heard_length counts ps xs later (omega arith) (omega arith))

-- ---- the peaks of a list of frames, frame by frame
unfoldable pub linked_all : Linking → ℕ → List Float → List Float → List (List Float) → Peaks
linked_all linking c [] detector fs = peaks_at [] detector
linked_all linking c (p ∷ ps) detector [] = peaks_at [] detector
linked_all linking c (p ∷ ps) detector (f ∷ fs) =
    let o = linked_from linking c p detector f in
    let later = linked_all linking c ps o.detector fs in
    peaks_at (o.peak ∷ later.peaks) later.detector

module _ (linking : Linking) where
  -- a channel and then the others
  abbrev channel_then : ℕ → List Float → List Float → List Float → List Float → List (List Float) → Peaks
  channel_then c ps s r xs fs =
      let o = channel_peaks linking c ps s xs in
      let later = linked_all linking (c + 1) o.peaks r fs in
      peaks_at later.peaks (o.detector ++ later.detector)

  -- one frame: its first channel, and then the others
  first_heard : (c : ℕ) (p x : Float) (f s r : List Float) → length s ≡ remembered
      → linked_from linking c p (s ++ r) (x ∷ f) ≡ (let q = peak_abs_of linking.taps s x in let l = linked_from linking (c + 1) (heard (linking.counts c) p x q.peak) r f in record { peak = l.peak; detector = q.store ++ l.detector })
  unfolding linked_from
  first_heard c p x f s r n = rw (take_at s r remembered n, drop_at s r remembered n) refl

  channel_first : (c : ℕ) (ps xs : List Float) (fs : List (List Float)) (s r : List Float) → length s ≡ remembered → length xs ≡ length ps → length fs ≡ length ps
      → linked_all linking c ps (s ++ r) (before xs fs) ≡ channel_then c ps s r xs fs
  unfolding linked_all before channel_peaks heard_all pushes_of
  channel_first c [] [] [] s r n h k = refl
  channel_first c [] (x ∷ xs) fs s r n h k = absurd (omega arith)
  channel_first c [] [] (f ∷ fs) s r n h k = absurd (omega arith)
  channel_first c (p ∷ ps) [] fs s r n h k = absurd (omega arith)
  channel_first c (p ∷ ps) (x ∷ xs) [] s r n h k = absurd (omega arith)
  channel_first c (p ∷ ps) (x ∷ xs) (f ∷ fs) s r n h k =
      let q = peak_abs_of linking.taps s x in
      let l = linked_from linking (c + 1) (heard (linking.counts c) p x q.peak) r f in
      rw (first_heard c p x f s r n, channel_first c ps xs fs q.store l.detector (push_length linking.taps s x ∙ n) (suc_inj h) (suc_inj k)) refl

  -- no channel: nothing is heard
  none_heard : (c : ℕ) (ps detector : List Float) → linked_all linking c ps detector (replicate (length ps) []) ≡ peaks_at ps detector
  unfolding linked_all linked_from
  none_heard c [] detector = refl
  none_heard c (p ∷ ps) detector = rw (none_heard c ps detector) refl

  heard_enough : (c : ℕ) (ps s xs : List Float) → length xs ≡ length ps → length (channel_peaks linking c ps s xs).peaks ≡ length ps
  unfolding channel_peaks
  heard_enough c ps s xs h = heard_length (linking.counts c) ps xs (pushes_of linking.taps s xs).peaks h (pushes_length linking.taps s xs ∙ h)

  -- channel by channel
  pub pass_linked : (k c n : ℕ) (ps detector audio : List Float) → n ≤ run_length → length ps ≡ n → length detector ≡ k * remembered → k * run_length ≤ length audio
      → linked_all linking c ps detector (frames_in k n audio) ≡ peaks_pass linking c k n ps detector audio
  unfolding peaks_pass
  pass_linked zero c n ps detector audio short m d a = rw (frames_none n 0 audio, ← m) (none_heard c ps detector)
  pass_linked (suc k) c n ps detector audio short m d a =
      let s = take remembered detector in
      let r = drop remembered detector in
      let xs = take n audio in
      let fs = frames_in k n (drop run_length audio) in
      let w = suc-mul k remembered in
      let xn = length-take-le n audio (samples_fit n short k audio a) in
      let fn = frames_length k n 0 (drop run_length audio) in
      let o = channel_peaks linking c ps s xs in
      let i = pass_linked k (c + 1) n o.peaks r (drop run_length audio) short (heard_enough c ps s xs (xn ∙ sym m) ∙ m) (rw (length-drop remembered detector) (omega arith)) (others_fit n short k audio a) in
      ap (linked_all linking c ps detector) (frames_beside k n 0 audio (omega (arith, samples_fit n short k audio a)))
      ∙ ap (λ (l : List Float). linked_all linking c ps l (before xs fs)) (sym (take-append-drop remembered detector))
      ∙ channel_first c ps xs fs s r (length-take-le remembered detector (omega arith)) (xn ∙ sym m) (fn ∙ sym m)
      ∙ ap (λ (later : Peaks). peaks_at later.peaks (o.detector ++ later.detector)) i

-- ---- the outputs of a list of frames, frame by frame
record AllDelayed : Type 0 where
  outputs : List (List Float)
  delay : List Float

unfoldable delayed_all : (Float → Float) → ℕ → ℕ → List Float → List Float → List (List Float) → AllDelayed
delayed_all leaves look pos [] delay fs = record { outputs = []; delay = delay }
delayed_all leaves look pos (g ∷ gs) delay [] = record { outputs = []; delay = delay }
delayed_all leaves look pos (g ∷ gs) delay (f ∷ fs) =
    let o = delayed_from leaves look pos g delay f in
    let later = delayed_all leaves look (next_pos look pos) gs o.delay fs in
    record { outputs = o.outputs ∷ later.outputs; delay = later.delay }

module _ (leaves : Float → Float) (look : ℕ) where
  -- a channel and the others beside it
  abbrev channel_beside : ℕ → List Float → List Float → List Float → List Float → List (List Float) → AllDelayed
  channel_beside pos gs s r xs fs =
      let o = channel_outputs leaves look pos gs s xs in
      let others = delayed_all leaves look pos gs r fs in
      record { outputs = before o.outputs others.outputs; delay = o.line ++ others.delay }

  channel_beside_lem : (pos : ℕ) (gs xs : List Float) (fs : List (List Float)) (s r : List Float) → length s ≡ look → length xs ≡ length gs → length fs ≡ length gs
      → delayed_all leaves look pos gs (s ++ r) (before xs fs) ≡ channel_beside pos gs s r xs fs
  unfolding delayed_all before channel_outputs delayed_from
  channel_beside_lem pos [] [] [] s r n h k = refl
  channel_beside_lem pos [] (x ∷ xs) fs s r n h k = absurd (omega arith)
  channel_beside_lem pos [] [] (f ∷ fs) s r n h k = absurd (omega arith)
  channel_beside_lem pos (g ∷ gs) [] fs s r n h k = absurd (omega arith)
  channel_beside_lem pos (g ∷ gs) (x ∷ xs) [] s r n h k = absurd (omega arith)
  channel_beside_lem pos (g ∷ gs) (x ∷ xs) (f ∷ fs) s r n h k =
      let l = delayed_from leaves look pos g r f in
      let y = finite_or_zero x in
      rw (take_at s r look n, drop_at s r look n, channel_beside_lem (next_pos look pos) gs xs fs (set s pos y) l.delay (length-set s pos y ∙ n) (suc_inj h) (suc_inj k)) refl

  -- no channel: nothing moves
  none_moved : (pos : ℕ) (gs delay : List Float) → (delayed_all leaves look pos gs delay (replicate (length gs) [])).delay ≡ delay
  unfolding delayed_all delayed_from
  none_moved pos [] delay = refl
  none_moved pos (g ∷ gs) delay = none_moved (next_pos look pos) gs delay

  outputs_many : (pos : ℕ) (gs s xs : List Float) → length xs ≡ length gs → length (channel_outputs leaves look pos gs s xs).outputs ≡ length gs
  unfolding channel_outputs
  outputs_many pos [] s xs h = refl
  outputs_many pos (g ∷ gs) s [] h = absurd (omega arith)
  outputs_many pos (g ∷ gs) s (x ∷ xs) h = ap suc (outputs_many (next_pos look pos) gs (set s pos (finite_or_zero x)) xs (suc_inj h))

  delayed_many : (pos : ℕ) (gs delay : List Float) (fs : List (List Float)) → length fs ≡ length gs → length (delayed_all leaves look pos gs delay fs).outputs ≡ length gs
  unfolding delayed_all
  delayed_many pos [] delay fs h = refl
  delayed_many pos (g ∷ gs) delay [] h = absurd (omega arith)
  delayed_many pos (g ∷ gs) delay (f ∷ fs) h = ap suc (delayed_many (next_pos look pos) gs (delayed_from leaves look pos g delay f).delay fs (suc_inj h))

-- the outputs of a channel stand first, and the others' after them
firsts : (xs : List Float) (fs : List (List Float)) → length xs ≡ length fs → map (λ (f : List Float). first_of nan f) (before xs fs) ≡ xs
unfolding before
firsts [] fs h = refl
firsts (x ∷ xs) [] h = absurd (omega arith)
firsts (x ∷ xs) (f ∷ fs) h = ap (λ (l : List Float). x ∷ l) (firsts xs fs (suc_inj h))

others : (xs : List Float) (fs : List (List Float)) → length xs ≡ length fs → map (λ (f : List Float). others_of f) (before xs fs) ≡ fs
unfolding before
others [] [] h = refl
others [] (f ∷ fs) h = absurd (omega arith)
others (x ∷ xs) [] h = absurd (omega arith)
others (x ∷ xs) (f ∷ fs) h = ap (λ (l : List (List Float)). f ∷ l) (others xs fs (suc_inj h))

module _ (leaves : Float → Float) (look pos : ℕ) (gs : List Float) where
  abbrev all_written : ℕ → ℕ → List Float → List Float → AllDelayed → Written
  all_written k n audio delay d = written_at (written_in k n audio d.outputs) d.delay

  -- channel by channel
  pass_delayed : (k n : ℕ) (delay audio : List Float) → n ≤ run_length → length gs ≡ n → length delay ≡ k * look → k * run_length ≤ length audio
      → all_written k n audio delay (delayed_all leaves look pos gs delay (frames_in k n audio)) ≡ outputs_pass leaves look pos gs k n delay audio
  unfolding outputs_pass written
  pass_delayed zero n delay audio short m d a = rw (frames_none n 0 audio, ← m) (ap (written_at audio) (none_moved leaves look pos gs delay))
  pass_delayed (suc k) n delay audio short m d a =
      let s = take look delay in
      let r = drop look delay in
      let xs = take n audio in
      let fs = frames_in k n (drop run_length audio) in
      let w = suc-mul k look in
      let xn = length-take-le n audio (samples_fit n short k audio a) in
      let fn = frames_length k n 0 (drop run_length audio) in
      let o = channel_outputs leaves look pos gs s xs in
      let later = delayed_all leaves look pos gs r fs in
      let i = pass_delayed k n r (drop run_length audio) short m (rw (length-drop look delay) (omega arith)) (others_fit n short k audio a) in
      let many = outputs_many leaves look pos gs s xs (xn ∙ sym m) ∙ sym (delayed_many leaves look pos gs r fs (fn ∙ sym m)) in
      let e = ap (delayed_all leaves look pos gs delay) (frames_beside k n 0 audio (omega (arith, samples_fit n short k audio a))) ∙ ap (λ (l : List Float). delayed_all leaves look pos gs l (before xs fs)) (sym (take-append-drop look delay)) ∙ channel_beside_lem leaves look pos gs xs fs s r (length-take-le look delay (omega arith)) (xn ∙ sym m) (fn ∙ sym m) in
      let left = drop n (take run_length audio) in
      ap (all_written (suc k) n audio delay) e
      ∙ rw (firsts o.outputs later.outputs many, others o.outputs later.outputs many) refl
      ∙ ap (λ (v : Written). written_at (o.outputs ++ (left ++ v.audio)) (o.line ++ v.delay)) i

-- ---- the frames in turn, taken apart into peaks, gain steps and outputs
module _ (rules : Rules) (weights : List Float) (coeff : Float) (look : ℕ) (target : Float) where
  abbrev outputs_of : List Framed → List (List Float)
  outputs_of fs = map (λ (f : Framed). f.outputs) fs

  abbrev peaks_of : Moving → List (List Float) → Peaks
  peaks_of m fs = linked_all rules.linking 0 (replicate (length fs) Number.zero) m.detector fs

  abbrev steps_of : Moving → List (List Float) → Gains
  steps_of m fs = gains_of weights coeff m.env (required_all target (peaks_of m fs).peaks)

  abbrev delays_of : Moving → List (List Float) → AllDelayed
  delays_of m fs = delayed_all rules.leaves look m.pos (steps_of m fs).gains m.delay fs

  record Apart (m : Moving) (fs : List (List Float)) (r : Frames) : Type 0 where
    gains : gains_of_frames r.frames ≡ (steps_of m fs).gains
    outs : outputs_of r.frames ≡ (delays_of m fs).outputs
    env : r.moving.env ≡ (steps_of m fs).env
    delay : r.moving.delay ≡ (delays_of m fs).delay
    pos : r.moving.pos ≡ pos_after look m.pos (length fs)
    detector : r.moving.detector ≡ (peaks_of m fs).detector

  apart : (m : Moving) (fs : List (List Float)) → Apart m fs (frames_of rules weights coeff look target m fs)
  unfolding frames_of frame_of linked_all gains_of delayed_all pos_after
  apart m [] = record { gains = refl; outs = refl; env = refl; delay = refl; pos = refl; detector = refl }
  apart m (f ∷ fs) =
      let x = frame_of rules weights coeff look target m f in
      let i = apart x.moving fs in
      record { gains = ap (λ (l : List Float). x.gain ∷ l) i.gains; outs = ap (λ (l : List (List Float)). x.outputs ∷ l) i.outs; env = i.env; delay = i.delay; pos = i.pos; detector = i.detector }

  -- ---- a run in passes
  linked_many : (c : ℕ) (ps detector : List Float) (fs : List (List Float)) → length fs ≡ length ps → length (linked_all rules.linking c ps detector fs).peaks ≡ length ps
  unfolding linked_all
  linked_many c [] detector fs h = refl
  linked_many c (p ∷ ps) detector [] h = absurd (omega arith)
  linked_many c (p ∷ ps) detector (f ∷ fs) h = ap suc (linked_many c ps (linked_from rules.linking c p detector f).detector fs (suc_inj h))

  gains_many : (e : Enveloped) (xs : List Float) → length (gains_of weights coeff e xs).gains ≡ length xs
  unfolding gains_of
  gains_many e [] = refl
  gains_many e (x ∷ xs) = ap suc (gains_many (gain_step_of weights coeff e x).env xs)

  abbrev run_done : Enveloped → List Float → ℕ → List Float → List Float → RunDone
  run_done e delay pos detector audio = record { moving = record { env = e; delay = delay; pos = pos; detector = detector }; audio = audio }

  same_run : (e e' : Enveloped) (d d' : List Float) (p p' : ℕ) (t t' a a' : List Float) → e ≡ e' → d ≡ d' → p ≡ p' → t ≡ t' → a ≡ a' → run_done e d p t a ≡ run_done e' d' p' t' a'
  same_run e e' d d' p p' t t' a a' E D P T A = rw (E, D, P, T, A) refl

  module _ (channels n : ℕ) (m : Moving) (audio : List Float) (short : n ≤ run_length) (delays : length m.delay ≡ channels * look) (detectors : length m.detector ≡ channels * remembered) (enough : channels * run_length ≤ length audio) where
    abbrev fs : List (List Float)
    fs = frames_in channels n audio

    so_many : length fs ≡ n
    so_many = frames_length channels n 0 audio

    -- the passes as the code makes them: from peaks that start at 0.0 to the outputs. Of the peaks it takes the required gains alone.
    abbrev passed : List Float → Peaks
    passed zs = peaks_pass rules.linking 0 channels n zs m.detector audio

    module _ (zs store rg : List Float) (G : Gains) (ze : zs ≡ replicate n Number.zero) (se : store ≡ (passed zs).detector) (re : rg ≡ required_all target (passed zs).peaks) (ge : G ≡ gains_of weights coeff m.env rg) where
      zeros : length zs ≡ n
      zeros = zeros_length n zs ze

      counted : peaks_of m fs ≡ linked_all rules.linking 0 zs m.detector fs
      counted = ap (λ (l : List Float). linked_all rules.linking 0 l m.detector fs) (ap (λ (k : ℕ). replicate k Number.zero) so_many ∙ sym ze)

      peaks_are : peaks_of m fs ≡ passed zs
      peaks_are = counted ∙ pass_linked rules.linking channels 0 n zs m.detector audio short zeros detectors enough

      steps_are : steps_of m fs ≡ G
      steps_are = ap (λ (q : Peaks). gains_of weights coeff m.env (required_all target q.peaks)) peaks_are ∙ sym (ge ∙ ap (gains_of weights coeff m.env) re)

      gains_so_many : length (steps_of m fs).gains ≡ n
      gains_so_many =
          gains_many m.env (required_all target (peaks_of m fs).peaks)
          ∙ length-map (peaks_of m fs).peaks (λ (q : Float). required_gain target q)
          ∙ ap (λ (q : Peaks). length q.peaks) counted
          ∙ linked_many 0 zs m.detector fs (so_many ∙ sym zeros)
          ∙ zeros

      -- the gains are those of the frames in turn
      run_gains : G.gains ≡ gains_of_frames (frames_of rules weights coeff look target m fs).frames
      run_gains = sym ((apart m fs).gains ∙ ap (λ (q : Gains). q.gains) steps_are)

      run_passes : (W : Written) (p : ℕ) → W ≡ outputs_pass rules.leaves look m.pos G.gains channels n m.delay audio → p ≡ pos_after look m.pos n
          → run_done G.env W.delay p store W.audio ≡ run_of rules weights coeff look target channels n m audio
      unfolding run_of
      run_passes W p we pos =
          let i = apart m fs in
          let gs = (steps_of m fs).gains in
          let written_is : all_written rules.leaves look m.pos gs channels n audio m.delay (delays_of m fs) ≡ W =
          pass_delayed rules.leaves look m.pos gs channels n m.delay audio short gains_so_many delays enough
          ∙ ap (λ (q : Gains). outputs_pass rules.leaves look m.pos q.gains channels n m.delay audio) steps_are
          ∙ sym we
          in
          let r = frames_of rules weights coeff look target m fs in
          same_run G.env r.moving.env W.delay r.moving.delay p r.moving.pos store r.moving.detector W.audio (written_in channels n audio (outputs_of r.frames))
          (sym (i.env ∙ ap (λ (q : Gains). q.env) steps_are))
          (sym (i.delay ∙ ap (λ (q : Written). q.delay) written_is))
          (pos ∙ sym (i.pos ∙ ap (pos_after look m.pos) so_many))
          (se ∙ sym (i.detector ∙ ap (λ (q : Peaks). q.detector) peaks_are))
          (sym (ap (written_in channels n audio) i.outs ∙ ap (λ (q : Written). q.audio) written_is))

      -- what the passes add up to
      pub run_done_lem : (W : Written) (p : ℕ) → W ≡ outputs_pass rules.leaves look m.pos G.gains channels n m.delay audio → p ≡ pos_after look m.pos n
          → (run_done G.env W.delay p store W.audio ≡ run_of rules weights coeff look target channels n m audio) × (G.gains ≡ gains_of_frames (frames_of rules weights coeff look target m fs).frames)
      run_done_lem W p we pos = (run_passes W p we pos, run_gains)
