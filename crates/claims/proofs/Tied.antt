-- The limiter tied to the book: what moves with the frames is what the book's frames make of it. A frame keeps the tie, and demand 3 holds of what it shows.
use mathlib.Core.Path.{◌≡◌, refl, sym, ap, subst, ◌∙◌}
use mathlib.Core.List.{List, [], ◌∷◌, map}
use Prim.Native.Nat.{ℕ, ◌+◌, ◌≤◌, ◌<◌}
use native.Mathlib.Omega.{arith}
use lib.ListN.{length, get_or}
use lib.Ieee.{Float, nan}
use Rattle.arithmetic.specs.Number
use Rattle.arithmetic.specs.Sanitize.{unit_gain}
use Rattle.keeper.specs.InOrder.{most_frames}
use Rattle.envelope.specs.Mean.{mean_of}
use Rattle.envelope.specs.Step.{gain_step_of}
use Rattle.frame.specs.Rules.{Linking, Rules}
use Rattle.frame.specs.Seat.{PeakAt}
use Rattle.frame.specs.Frame.{linked_from, required_gain, Moving, Framed, frame_of}
use Rattle.frame.specs.Run.{Frames, frames_of}
use Rattle.frame.proofs.Keeps.{frame_gain}
use Rattle.envelope.proofs.Gain.{next_inside}
use Rattle.claims.specs.Book.{Joined, peak_at_of, required_of, floors_of, attack_row, not_one, gain_after}
use Rattle.claims.specs.BookCalls.{join_all}
use Rattle.claims.specs.Claim.{FrameHolds, FramesHold, dropped_in}
use Rattle.claims.proofs.Peaks.{DetectorTied, detector_step}
use Rattle.claims.proofs.Delays.{DelayTied, delay_step}
use Rattle.claims.proofs.Floors.{EnvTied, StepTied, env_kept, env_step, quiet, floors_first}
use Rattle.claims.proofs.Leaving.{required_length, frames_leaving}

pub record MovingTied (linking : Linking) (look channels : ℕ) (weights : List Float) (coeff : Float) (mv : Moving) (fs : List Joined) : Type 0 where
  pub env : EnvTied look weights coeff mv.env (required_of linking channels fs)
  pub detector : DetectorTied channels mv.detector fs
  pub delay : DelayTied look channels mv.pos mv.delay fs
  pub place : mv.pos < look

-- drops since the start and entries kept are the frames taken
abbrev pub Counted : ℕ → Moving → List Joined → Type 0
Counted drops mv fs = drops + mv.env.keeping.keeper.len ≡ length fs

-- the samples of a frame at a target
abbrev pub joined_at : Float → List Float → Joined
joined_at target xs = record { samples = xs; target = target }

-- frames of so many channels
abbrev pub AllLong : ℕ → List (List Float) → Type 0
AllLong channels [] = Unit {0}
AllLong channels (xs ∷ xss) = (length xs ≡ channels) × AllLong channels xss

module _ (rules : Rules) (look channels : ℕ) (weights : List Float) (coeff target : Float) where
  -- ---- one frame
  module _ (mv : Moving) (fs : List Joined) (xs : List Float) (known : length xs ≡ channels) (t : MovingTied rules.linking look channels weights coeff mv fs) where
    abbrev asked : Float
    asked = required_gain target (linked_from rules.linking 0 Number.zero mv.detector xs).peak

    abbrev stepped_to : Framed
    stepped_to = frame_of rules weights coeff look target mv xs

    -- the book's required gain is the one that the limiter asks for
    required_is : unit_gain asked ∷ required_of rules.linking channels fs ≡ required_of rules.linking channels (joined_at target xs ∷ fs)
    unfolding required_of peak_at_of
    required_is = rw (ap (λ (p : PeakAt). p.peak) (detector_step rules.linking channels mv.detector fs xs target known t.detector).0) refl

    frame_env : length fs < most_frames → StepTied look weights coeff mv.env asked (required_of rules.linking channels fs)
    frame_env room = env_step look weights coeff mv.env asked (required_of rules.linking channels fs) t.env (rw (required_length rules.linking channels fs) room)

    pub frame_tied : length fs < most_frames → MovingTied rules.linking look channels weights coeff stepped_to.moving (joined_at target xs ∷ fs)
    unfolding frame_of
    frame_tied room =
        let g = gain_step_of weights coeff mv.env asked in
        record {
          env = subst (λ (gs : List Float). EnvTied look weights coeff g.env gs) required_is (frame_env room).env;
          detector = (detector_step rules.linking channels mv.detector fs xs target known t.detector).1;
          delay = (delay_step rules look channels mv.pos g.env.gain mv.delay fs xs target known t.place t.delay).1;
          place = next_inside look mv.pos t.place;
        }

    -- each frame comes in once
    pub frame_counted : (drops : ℕ) → length fs < most_frames → Counted drops mv fs → Counted (drops + stepped_to.dropped) stepped_to.moving (joined_at target xs ∷ fs)
    unfolding frame_of
    frame_counted drops room c = omega (arith, (frame_env room).dropped)

    pub frame_holds : (drops : ℕ) → 11 ≤ look → length fs < most_frames → Counted drops mv fs → FrameHolds rules look channels weights coeff drops (joined_at target xs ∷ fs) stepped_to
    unfolding frame_of
    frame_holds drops deep room c =
        let j = joined_at target xs in
        let s = frame_env room in
        let g = gain_step_of weights coeff mv.env asked in
        let gains = required_of rules.linking channels (j ∷ fs) in
        let mean : g.mean ≡ mean_of weights (attack_row look gains) = subst (λ (gs : List Float). g.mean ≡ mean_of weights (attack_row look gs)) required_is s.mean in
        record {
          at = (detector_step rules.linking channels mv.detector fs xs target known t.detector).0;
          floor = subst (λ (gs : List Float). g.floor ≡ get_or (floors_of look gs) 0 nan) required_is (s.floor ∙ sym (floors_first look (unit_gain asked) (required_of rules.linking channels fs)));
          kept = env_kept look weights coeff g.env gains (frame_tied room).env;
          dropped = frame_counted drops room c;
          tally = subst (λ (gs : List Float). g.env.rowed.state.tally ≡ not_one (attack_row look gs)) required_is s.tally;
          gain = frame_gain rules weights coeff look target mv xs;
          mean = mean;
          follows = subst (λ (gs : List Float). g.env.gain ≡ gain_after look weights coeff gs) required_is s.env.gain;
          quiet = λ all. mean ∙ quiet look weights gains all;
          outputs = (delay_step rules look channels mv.pos g.env.gain mv.delay fs xs target known t.place t.delay).0;
          leaving = λ far i k inside few. frames_leaving rules.linking look channels (j ∷ fs) deep far i k inside (omega arith);
        }

  -- ---- frames in turn, at one target
  abbrev later : Moving → List (List Float) → Frames
  later mv xss = frames_of rules weights coeff look target mv xss

  pub frames_tied : (xss : List (List Float)) (mv : Moving) (fs : List Joined) → AllLong channels xss → length fs + length xss ≤ most_frames → MovingTied rules.linking look channels weights coeff mv fs
      → MovingTied rules.linking look channels weights coeff (later mv xss).moving (join_all fs (map (joined_at target) xss))
  unfolding frames_of join_all
  frames_tied [] mv fs long room t = t
  frames_tied (xs ∷ xss) mv fs long room t =
      frames_tied xss (frame_of rules weights coeff look target mv xs).moving (joined_at target xs ∷ fs) long.1 (omega arith) (frame_tied mv fs xs long.0 t (omega arith))

  pub frames_hold : (xss : List (List Float)) (drops : ℕ) (mv : Moving) (fs : List Joined) → 11 ≤ look → AllLong channels xss → length fs + length xss ≤ most_frames → MovingTied rules.linking look channels weights coeff mv fs
      → Counted drops mv fs → FramesHold rules look channels weights coeff drops fs (map (joined_at target) xss) (later mv xss).frames
  unfolding frames_of
  frames_hold [] drops mv fs deep long room t c = tt
  frames_hold (xs ∷ xss) drops mv fs deep long room t c =
      let f = frame_of rules weights coeff look target mv xs in (
        frame_holds mv fs xs long.0 t drops deep (omega arith) c,
        frames_hold xss (drops + f.dropped) f.moving (joined_at target xs ∷ fs) deep long.1 (omega arith) (frame_tied mv fs xs long.0 t (omega arith)) (frame_counted mv fs xs long.0 t drops (omega arith) c),
      )

  -- and after them
  pub frames_counted : (xss : List (List Float)) (drops : ℕ) (mv : Moving) (fs : List Joined) → AllLong channels xss → length fs + length xss ≤ most_frames → MovingTied rules.linking look channels weights coeff mv fs
      → Counted drops mv fs → Counted (drops + dropped_in (later mv xss).frames) (later mv xss).moving (join_all fs (map (joined_at target) xss))
  unfolding frames_of join_all
  frames_counted [] drops mv fs long room t c = omega arith
  frames_counted (xs ∷ xss) drops mv fs long room t c =
      let f = frame_of rules weights coeff look target mv xs in
      let onward = frames_counted xss (drops + f.dropped) f.moving (joined_at target xs ∷ fs) long.1 (omega arith) (frame_tied mv fs xs long.0 t (omega arith)) (frame_counted mv fs xs long.0 t drops (omega arith) c) in
      omega (arith, onward)
