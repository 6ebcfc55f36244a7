-- Frames rendered one at a time, each at its own target; and a run at one target as such frames.
use mathlib.Core.Path.{◌≡◌, refl, sym, ap, ◌∙◌}
use mathlib.Core.List.{List, [], ◌∷◌, ◌++◌, append_assoc}
use Prim.Native.Nat.{ℕ}
use lib.Ieee.{Float}
use Rattle.frame.specs.Rules.{Rules}
use Rattle.frame.specs.Frame.{Moving, Framed, frame_of}
use Rattle.frame.specs.Run.{Frames, frames_of}
use Rattle.frame.proofs.Keeps.{frames_append}
use Rattle.keeper.specs.Keeper.{stepped_of}
use Rattle.envelope.specs.Step.{gain_step_of}
use Rattle.limiter.specs.Stores.{Stores}
use Rattle.limiter.specs.Run.{moving_of, envelope_of, moved_on, stores_of}
use Rattle.limiter.specs.declared.state.Limiter.{Limiter}
use Rattle.turns.specs.Block.{Rendered, rendered}
use Rattle.claims.specs.Book.{Joined}
use Rattle.claims.specs.Claim.{moving_after}

-- what was rendered first, and then what the later frames came to
abbrev pub and_later : Rendered → Rendered → Rendered
and_later first later = record { limiter = later.limiter; stores = later.stores; frames = first.frames ++ later.frames }

-- frames in turn, each at its own target
unfoldable pub render_each : Rules → Limiter → Stores → List Joined → Rendered
render_each rules l s [] = record { limiter = l; stores = s; frames = [] }
render_each rules l s (f ∷ fs) =
    let r = rendered rules l s f.target (f.samples ∷ []) in
    and_later r (render_each rules r.limiter r.stores fs)

-- frames all at one target
unfoldable pub all_at : Float → List (List Float) → List Joined
all_at target [] = []
all_at target (xs ∷ fs) = record { samples = xs; target = target } ∷ all_at target fs

-- frames keep the look
module _ (rules : Rules) (weights : List Float) (coeff : Float) (look : ℕ) (target : Float) where
  pub frames_look : (fs : List (List Float)) (m : Moving)
      → (frames_of rules weights coeff look target m fs).moving.env.keeping.keeper.look ≡ m.env.keeping.keeper.look
  unfolding frames_of frame_of gain_step_of stepped_of
  frames_look [] m = refl
  frames_look (xs ∷ fs) m = frames_look fs (frame_of rules weights coeff look target m xs).moving

  -- what they leave is what the last of them shows
  pub frames_left_lem : (fs : List (List Float)) (m : Moving)
      → (let r = frames_of rules weights coeff look target m fs in r.moving ≡ moving_after m r.frames)
  unfolding frames_of
  frames_left_lem [] m = refl
  frames_left_lem (xs ∷ fs) m = frames_left_lem fs (frame_of rules weights coeff look target m xs).moving

module _ (rules : Rules) where
  pub rendered_left : (target : Float) (fs : List (List Float)) (l : Limiter) (s : Stores)
      → (let r = rendered rules l s target fs in moving_of r.limiter r.stores ≡ moving_after (moving_of l s) r.frames)
  unfolding rendered
  rendered_left target fs l s = frames_left_lem rules s.weights l.release_coeff l.env.keeper.look target fs (moving_of l s)

  pub each_left : (fs : List Joined) (l : Limiter) (s : Stores)
      → (let r = render_each rules l s fs in moving_of r.limiter r.stores ≡ moving_after (moving_of l s) r.frames)
  unfolding render_each rendered frames_of
  each_left [] l s = refl
  each_left (f ∷ fs) l s =
      let r = rendered rules l s f.target (f.samples ∷ []) in
      each_left fs r.limiter r.stores

  -- frames in two lists, one after the other
  pub each_append : (fs gs : List Joined) (l : Limiter) (s : Stores)
      → render_each rules l s (fs ++ gs) ≡ (let first = render_each rules l s fs in and_later first (render_each rules first.limiter first.stores gs))
  unfolding render_each
  each_append [] gs l s = refl
  each_append (f ∷ fs) gs l s =
      let r = rendered rules l s f.target (f.samples ∷ []) in
      let first = render_each rules r.limiter r.stores fs in
      let later = render_each rules first.limiter first.stores gs in
      ap (and_later r) (each_append fs gs r.limiter r.stores)
      ∙ ap (λ (shown : List Framed). record { limiter = later.limiter; stores = later.stores; frames = shown }) (sym (append_assoc r.frames first.frames later.frames))

  -- the same at one target
  abbrev done : Limiter → Stores → Float → Frames → Rendered
  done l s target r = record { limiter = moved_on l (envelope_of r.moving.env) r.moving.pos target 0; stores = stores_of r.moving s.weights; frames = r.frames }

  pub rendered_append : (target : Float) (fs gs : List (List Float)) (l : Limiter) (s : Stores)
      → rendered rules l s target (fs ++ gs) ≡ (let first = rendered rules l s target fs in and_later first (rendered rules first.limiter first.stores target gs))
  unfolding rendered
  rendered_append target fs gs l s =
      let look = l.env.keeper.look in
      let first = frames_of rules s.weights l.release_coeff look target (moving_of l s) fs in
      ap (done l s target) (frames_append rules s.weights l.release_coeff look target fs gs (moving_of l s))
      ∙ ap (λ (k : ℕ). and_later (done l s target first) (done l s target (frames_of rules s.weights l.release_coeff k target first.moving gs)))
      (sym (frames_look rules s.weights l.release_coeff look target fs (moving_of l s)))

  -- a run at one target: its frames, all at that target
  pub rendered_each : (target : Float) (xs : List Float) (fs : List (List Float)) (l : Limiter) (s : Stores)
      → rendered rules l s target (xs ∷ fs) ≡ render_each rules l s (all_at target (xs ∷ fs))
  unfolding render_each all_at rendered frames_of
  rendered_each target xs [] l s = refl
  rendered_each target xs (ys ∷ fs) l s =
      let r = rendered rules l s target (xs ∷ []) in
      rendered_append target (xs ∷ []) (ys ∷ fs) l s ∙ ap (and_later r) (rendered_each target ys fs r.limiter r.stores)
