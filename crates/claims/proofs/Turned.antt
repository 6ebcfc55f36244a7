-- Frames through a limiter that is tied to the book, at one target or each at its own: they keep the tie and what 18, 16 and 19 judge of the kernel, and demand 3 holds of what they show.
use mathlib.Core.Path.{◌≡◌, refl, sym, ap, subst, ◌∙◌}
use mathlib.Core.Bool.{Bool, true, false, cond}
use mathlib.Core.List.{List, [], ◌∷◌, map}
use Prim.Native.Nat.{ℕ, suc, ◌+◌, ◌≤◌}
use native.Mathlib.Omega.{arith}
use lib.Dec.{eqb, leb}
use lib.ListN.{length}
use lib.Ieee.{Float}
use borrow.Author.Tests.{leb-true, ne_eqb}
use Rattle.arithmetic.proofs.Order.{and-true}
use Rattle.arithmetic.specs.Number
use Rattle.arithmetic.specs.Number.{one, within}
use Rattle.keeper.specs.InOrder.{most_frames}
use Rattle.settings.specs.Derived.{look_of}
use Rattle.frame.specs.Rules.{Linking, Rules}
use Rattle.frame.specs.Frame.{Moving, frame_of}
use Rattle.frame.specs.Run.{Frames, frames_of}
use Rattle.limiter.specs.Stores.{Stores}
use Rattle.limiter.specs.Order.{prepared}
use Rattle.limiter.specs.Run.{moving_of}
use Rattle.limiter.specs.declared.state.Limiter.{Limiter}
use Rattle.limiter.proofs.Judge.{fit}
use Rattle.limiter.proofs.Ready.{prepared_is}
use Rattle.turns.specs.Block.{Rendered, rendered}
use Rattle.turns.proofs.Kernel.{Kernel, Steady, same_steady, render_steady, render_kernel}
use Rattle.claims.specs.Book.{Joined}
use Rattle.claims.specs.BookCalls.{join_all, last_target}
use Rattle.claims.specs.Claim.{FramesHold, dropped_in}
use Rattle.claims.proofs.Leaving.{required_length}
use Rattle.claims.proofs.Tied.{MovingTied, Counted, AllLong, joined_at, frames_tied, frames_hold, frames_counted}
use Rattle.claims.proofs.Each.{render_each}

steady_steady : (l : Limiter) (s : Stores) (m : Limiter) (t : Stores) (n : Limiter) (u : Stores) → Steady l s m t → Steady m t n u → Steady l s n u
steady_steady l s m t n u a b = record {
  settings = b.settings ∙ a.settings;
  rate = b.rate ∙ a.rate;
  channels = b.channels ∙ a.channels;
  largest = b.largest ∙ a.largest;
  look = b.look ∙ a.look;
  coeff = b.coeff ∙ a.coeff;
  weights = b.weights ∙ a.weights;
}

-- joined frames of so many channels, each with a target within 0 and 1
abbrev pub AllFit : ℕ → List Joined → Type 0
AllFit channels [] = Unit {0}
AllFit channels (j ∷ js) = (length j.samples ≡ channels) × ((within Number.zero one j.target ≡ true) × AllFit channels js)

-- limiter and stores of so many channels, with this look and these weights
pub record Suited (look channels : ℕ) (weights : List Float) (coeff : Float) (l : Limiter) (s : Stores) : Type 0 where
  pub look_is : l.env.keeper.look ≡ look
  pub channels_is : l.channels ≡ channels
  pub weights_is : s.weights ≡ weights
  pub coeff_is : l.release_coeff ≡ coeff

-- the frames since the start, as the keeper counts them
pub frames_taken : (linking : Linking) (look channels : ℕ) (weights : List Float) (coeff : Float) (mv : Moving) (fs : List Joined) → MovingTied linking look channels weights coeff mv fs → mv.env.keeping.keeper.frame ≡ length fs
frames_taken linking look channels weights coeff mv fs t = t.env.follows.frame ∙ required_length linking channels fs

-- what is set up looks at least 11 frames ahead
pub deep_enough : (l : Limiter) → prepared l ≡ true → 11 ≤ l.env.keeper.look
deep_enough l h =
    let p = prepared_is l h in
    let look = look_of l.settings.lookahead_ms l.rate in
    rw p.look_is (leb-true 11 look (and-true (leb 11 look) (leb look 4096) p.rules.look_is).0)

module _ (rules : Rules) (look channels : ℕ) (weights : List Float) (coeff : Float) where
  -- what frames come to: js join fs, and r is what the limiter makes of them, after so many drops
  pub record Holding (drops : ℕ) (l : Limiter) (s : Stores) (fs js : List Joined) (r : Rendered) : Type 0 where
    pub tied : MovingTied rules.linking look channels weights coeff (moving_of r.limiter r.stores) (join_all fs js)
    pub kernel : Kernel r.limiter r.stores
    pub steady : Steady l s r.limiter r.stores
    pub frames : FramesHold rules look channels weights coeff drops fs js r.frames
    pub counted : Counted (drops + dropped_in r.frames) (moving_of r.limiter r.stores) (join_all fs js)

  -- ---- frames at one target
  -- look, weights and release coefficient are the limiter's own
  suited_frames : (xss : List (List Float)) (target : Float) (l : Limiter) (s : Stores) → Suited look channels weights coeff l s
      → frames_of rules weights coeff look target (moving_of l s) xss ≡ frames_of rules s.weights l.release_coeff l.env.keeper.look target (moving_of l s) xss
  suited_frames xss target l s u =
      let run : List Float → Float → ℕ → Frames = λ ws c n. frames_of rules ws c n target (moving_of l s) xss in
      sym (ap (λ (ws : List Float). run ws l.release_coeff l.env.keeper.look) u.weights_is ∙ ap (λ (c : Float). run weights c l.env.keeper.look) u.coeff_is ∙ ap (run weights coeff) u.look_is)

  pub rendered_holds : (xss : List (List Float)) (target : Float) (drops : ℕ) (l : Limiter) (s : Stores) (fs : List Joined)
      → Suited look channels weights coeff l s → Kernel l s → MovingTied rules.linking look channels weights coeff (moving_of l s) fs → AllLong channels xss → within Number.zero one target ≡ true → length fs + length xss ≤ most_frames → Counted drops (moving_of l s) fs
      → Holding drops l s fs (map (joined_at target) xss) (rendered rules l s target xss)
  unfolding rendered
  rendered_holds xss target drops l s fs u k t long unit room c =
      let js = map (joined_at target) xss in
      let same = suited_frames xss target l s u in
      let deep : 11 ≤ look = subst (λ (n : ℕ). 11 ≤ n) u.look_is (deep_enough l k.set_up) in
      let taken : l.env.keeper.frame ≡ length fs = frames_taken rules.linking look channels weights coeff (moving_of l s) fs t in
      record {
        tied = subst (λ (r : Frames). MovingTied rules.linking look channels weights coeff r.moving (join_all fs js)) same (frames_tied rules look channels weights coeff target xss (moving_of l s) fs long room t);
        kernel = render_kernel rules l s target xss k unit (omega arith);
        steady = render_steady rules l s target xss k;
        frames = subst (λ (r : Frames). FramesHold rules look channels weights coeff drops fs js r.frames) same (frames_hold rules look channels weights coeff target xss drops (moving_of l s) fs deep long room t c);
        counted = subst (λ (r : Frames). Counted (drops + dropped_in r.frames) r.moving (join_all fs js)) same (frames_counted rules look channels weights coeff target xss drops (moving_of l s) fs long room t c);
      }

  -- ---- frames each at its own target
  after_suited : (l : Limiter) (s : Stores) (after : Limiter) (left : Stores) → Suited look channels weights coeff l s → Steady l s after left → Suited look channels weights coeff after left
  after_suited l s after left u k = record { look_is = k.look ∙ u.look_is; channels_is = k.channels ∙ u.channels_is; weights_is = k.weights ∙ u.weights_is; coeff_is = k.coeff ∙ u.coeff_is }

  pub each_holds : (js : List Joined) (drops : ℕ) (l : Limiter) (s : Stores) (fs : List Joined)
      → Suited look channels weights coeff l s → Kernel l s → MovingTied rules.linking look channels weights coeff (moving_of l s) fs → AllFit channels js → length fs + length js ≤ most_frames
      → Counted drops (moving_of l s) fs → Holding drops l s fs js (render_each rules l s js)
  unfolding render_each join_all rendered frames_of
  each_holds [] drops l s fs u k t fit room c = record { tied = t; kernel = k; steady = same_steady l s; frames = tt; counted = omega arith }
  each_holds (j ∷ js) drops l s fs u k t fit room c =
      let r = rendered rules l s j.target (j.samples ∷ []) in
      let h = rendered_holds (j.samples ∷ []) j.target drops l s fs u k t (fit.0, tt) fit.1.0 (omega arith) c in
      let shown = frame_of rules s.weights l.release_coeff l.env.keeper.look j.target (moving_of l s) j.samples in
      let later = each_holds js (drops + shown.dropped) r.limiter r.stores (j ∷ fs) (after_suited l s r.limiter r.stores u h.steady) h.kernel h.tied fit.1.1 (omega arith) (omega (arith, h.counted)) in
      record {
        tied = later.tied;
        kernel = later.kernel;
        steady = steady_steady l s _ _ _ _ h.steady later.steady;
        frames = (h.frames.0, later.frames);
        counted = omega (arith, later.counted);
      }

  -- a frame shown for each
  pub each_many : (js : List Joined) (l : Limiter) (s : Stores) → length (render_each rules l s js).frames ≡ length js
  unfolding render_each rendered frames_of
  each_many [] l s = refl
  each_many (j ∷ js) l s = let r = rendered rules l s j.target (j.samples ∷ []) in ap suc (each_many js r.limiter r.stores)

  -- the target that is kept is the last one's, and the drained count 0 where a frame was rendered
  pub each_target : (js : List Joined) (l : Limiter) (s : Stores) → (render_each rules l s js).limiter.target ≡ last_target l.target js
  unfolding render_each last_target rendered
  each_target [] l s = refl
  each_target (j ∷ js) l s = let r = rendered rules l s j.target (j.samples ∷ []) in each_target js r.limiter r.stores

  pub each_drained : (js : List Joined) (l : Limiter) (s : Stores) → (render_each rules l s js).limiter.drained ≡ cond (eqb (length js) 0) l.drained 0
  unfolding render_each rendered
  each_drained [] l s = refl
  each_drained (j ∷ js) l s =
      let r = rendered rules l s j.target (j.samples ∷ []) in
      rw (ne_eqb (suc (length js)) 0 (λ z. omega arith)) (each_drained js r.limiter r.stores ∙ either (eqb (length js) 0) 0)
    where
      either : (b : Bool) (n : ℕ) → cond b n n ≡ n
      either true n = refl
      either false n = refl
