-- What frames keep: an envelope in order, the stores' lengths, the position in its line, and a gain within 0 and 1.
use mathlib.Core.Path.{◌≡◌, refl, sym, ap, ◌∙◌}
use mathlib.Core.Bool.{true}
use mathlib.Core.List.{List, [], ◌∷◌, ◌++◌}
use Prim.Native.Nat.{ℕ, suc, ◌+◌, ◌≤◌, ◌<◌}
use native.Mathlib.Omega.{arith}
use lib.ListN.{length, set, take, drop, length-append, length-set, take-append-drop}
use lib.Ieee.{Float}
use Rattle.arithmetic.specs.Number
use Rattle.arithmetic.specs.Number.{one, within}
use Rattle.arithmetic.specs.Sanitize.{finite_or_zero}
use Rattle.detector.specs.Oversample.{remembered, peak_abs_of}
use Rattle.detector.proofs.Store.{push_length}
use Rattle.keeper.specs.InOrder.{most_frames}
use Rattle.keeper.specs.Keeper.{stepped_of, ordered}
use Rattle.keeper.proofs.Step.{order_after}
use Rattle.envelope.specs.Step.{Enveloped, gain_step_of, EnvReady}
use Rattle.envelope.specs.Row.{pushed, row_in_order}
use Rattle.envelope.proofs.Gain.{gain_unit, next_inside, pushed_in_order, step_floor_unit}
use Rattle.frame.specs.Rules.{Linking, Rules}
use Rattle.frame.specs.Frame.{heard, linked_from, required_gain, delayed_from, Moving, Framed, frame_of}
use Rattle.frame.specs.Run.{frame_first, frames_of}

-- ---- lengths of the stores
-- a part and the rest, each as long as it was
rejoined : (n : ℕ) (l first later : List Float) → length first ≡ length (take n l) → length later ≡ length (drop n l) → length (first ++ later) ≡ length l
rejoined n l first later f r =
    length-append first later ∙ rw (f, r) (sym (length-append (take n l) (drop n l)) ∙ ap (λ (z : List Float). length z) (take-append-drop n l))

pub detector_length : (linking : Linking) (c : ℕ) (peak : Float) (detector xs : List Float) → length (linked_from linking c peak detector xs).detector ≡ length detector
unfolding linked_from
detector_length linking c peak detector [] = refl
detector_length linking c peak detector (x ∷ xs) =
    let o = peak_abs_of linking.taps (take remembered detector) x in
    let next = heard (linking.counts c) peak x o.peak in
    rejoined remembered detector o.store (linked_from linking (c + 1) next (drop remembered detector) xs).detector
    (push_length linking.taps (take remembered detector) x) (detector_length linking (c + 1) next (drop remembered detector) xs)

module _ (leaves : Float → Float) (look pos : ℕ) (gain : Float) where
  pub delay_length : (delay xs : List Float) → length (delayed_from leaves look pos gain delay xs).delay ≡ length delay
  unfolding delayed_from
  delay_length delay [] = refl
  delay_length delay (x ∷ xs) =
      rejoined look delay (set (take look delay) pos (finite_or_zero x)) (delayed_from leaves look pos gain (drop look delay) xs).delay
      (length-set (take look delay) pos (finite_or_zero x)) (delay_length (drop look delay) xs)

-- ---- the envelope in order, with no word of room for a frame more
pub record EnvInOrder (weights : List Float) (e : Enveloped) : Type 0 where
  pub marks_fit : length e.keeping.marks ≡ e.keeping.keeper.look + 1
  pub minima_fit : length e.keeping.minima ≡ e.keeping.keeper.look + 1
  pub in_order : ordered e.keeping ≡ true
  pub row : row_in_order e.rowed.state e.rowed.row ≡ true
  pub weighed : length weights ≡ length e.rowed.row

module _ (weights : List Float) (e : Enveloped) where
  pub order_of_ready : EnvReady weights e → EnvInOrder weights e
  order_of_ready r = record { marks_fit = r.keeper.marks_fit; minima_fit = r.keeper.minima_fit; in_order = r.keeper.in_order; row = r.row; weighed = r.weighed }

  pub ready_of_order : EnvInOrder weights e → e.keeping.keeper.frame + 1 ≤ most_frames → EnvReady weights e
  ready_of_order o h = record {
    keeper = record { marks_fit = o.marks_fit; minima_fit = o.minima_fit; in_order = o.in_order; room = h };
    row = o.row;
    weighed = o.weighed;
  }

  -- a step keeps it, whether or not there is room for another
  pub step_in_order : (coeff x : Float) → EnvReady weights e → EnvInOrder weights (gain_step_of weights coeff e x).env
  unfolding gain_step_of pushed stepped_of
  step_in_order coeff x r = record {
    marks_fit = simp length-set r.keeper.marks_fit;
    minima_fit = simp length-set r.keeper.minima_fit;
    in_order = order_after e.keeping x r.keeper;
    row = pushed_in_order e.rowed.state e.rowed.row (stepped_of e.keeping x).floor r.row (step_floor_unit e.keeping x r.keeper);
    weighed = simp length-set r.weighed;
  }

-- ---- one frame
module _ (rules : Rules) (weights : List Float) (coeff : Float) (look : ℕ) (target : Float) where
  abbrev frame : Moving → List Float → Framed
  frame m xs = frame_of rules weights coeff look target m xs

  pub frame_gain : (m : Moving) (xs : List Float) → within Number.zero one (frame m xs).gain ≡ true
  unfolding frame_of gain_step_of
  frame_gain m xs =
      let g = gain_step_of weights coeff m.env (required_gain target (linked_from rules.linking 0 Number.zero m.detector xs).peak) in
      gain_unit m.env.gain g.mean coeff

  -- what frames keep, from before to after k of them
  pub record Kept (m after : Moving) (k : ℕ) : Type 0 where
    pub taken : after.env.keeping.keeper.frame ≡ m.env.keeping.keeper.frame + k
    pub order : EnvInOrder weights m.env → m.env.keeping.keeper.frame + k ≤ most_frames → EnvInOrder weights after.env
    pub delay : length after.delay ≡ length m.delay
    pub detector : length after.detector ≡ length m.detector
    pub place : m.pos < look → after.pos < look

  frame_kept : (m : Moving) (xs : List Float) → Kept m (frame m xs).moving 1
  unfolding frame_of gain_step_of stepped_of
  frame_kept m xs =
      let x = required_gain target (linked_from rules.linking 0 Number.zero m.detector xs).peak in
      let g = gain_step_of weights coeff m.env x in
      record {
        taken = refl;
        order = λ o h. step_in_order weights m.env coeff x (ready_of_order weights m.env o (omega arith));
        delay = delay_length rules.leaves look m.pos g.env.gain m.delay xs;
        detector = detector_length rules.linking 0 Number.zero m.detector xs;
        place = λ p. next_inside look m.pos p;
      }

  -- ---- frames in turn
  pub frames_kept : (fs : List (List Float)) (m : Moving) → Kept m (frames_of rules weights coeff look target m fs).moving (length fs)
  unfolding frames_of
  frames_kept [] m = record { taken = omega arith; order = λ o h. o; delay = refl; detector = refl; place = λ p. p }
  frames_kept (xs ∷ fs) m =
      let a = (frame m xs).moving in
      let one-frame = frame_kept m xs in
      let later = frames_kept fs a in
      record {
        taken = omega (arith, later.taken, one-frame.taken);
        order = λ o h. later.order (one-frame.order o (omega arith)) (omega (arith, one-frame.taken));
        delay = later.delay ∙ one-frame.delay;
        detector = later.detector ∙ one-frame.detector;
        place = λ p. later.place (one-frame.place p);
      }

  -- frames in two lists, one after the other: how a block goes on from run to run
  pub frames_append : (fs gs : List (List Float)) (m : Moving) → frames_of rules weights coeff look target m (fs ++ gs)
      ≡ (let first = frames_of rules weights coeff look target m fs in let later = frames_of rules weights coeff look target first.moving gs in record { frames = first.frames ++ later.frames; moving = later.moving })
  unfolding frames_of
  frames_append [] gs m = refl
  frames_append (xs ∷ fs) gs m = ap (frame_first (frame m xs)) (frames_append fs gs (frame m xs).moving)

  pub frames_many : (fs : List (List Float)) (m : Moving) → length (frames_of rules weights coeff look target m fs).frames ≡ length fs
  unfolding frames_of
  frames_many [] m = refl
  frames_many (xs ∷ fs) m = ap suc (frames_many fs (frame m xs).moving)
