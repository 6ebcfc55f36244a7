-- With the right steps in their places, the limiter by given steps is `limiting`: the controls made by steps differ from it in the step named alone.
use Prim.Native.Nat.{ℕ}
use mathlib.Core.Path.{◌≡◌, refl, ap, fun_ext}
use mathlib.Core.List.{List, [], ◌∷◌}
use lib.Ieee.{Float}
use Rattle.keeper.specs.Keeper.{stepped_of}
use Rattle.envelope.specs.Step.{gain_step_of}
use Rattle.frame.specs.Rules.{Rules, rules_of}
use Rattle.frame.specs.Frame.{Moving, frame_of}
use Rattle.frame.specs.Run.{Frames, frame_first, frames_of}
use Rattle.limiter.specs.Stores.{Stores}
use Rattle.limiter.specs.Run.{moving_of, envelope_of, moved_on, stores_of}
use Rattle.limiter.specs.declared.state.Limiter.{Limiter}
use Rattle.turns.specs.Block.{Renderer, rendered, block_by}
use Rattle.turns.specs.Drain.{drain_by}
use Rattle.driver.specs.Calls.{reset_of}
use Rattle.claims.specs.Session.{Limiting, limiting}
use Rattle.claims.specs.Controls.{right_steps, stepped_by, gain_step_by, frame_by, frames_by, rendered_by, limiting_with, limiting_by}

frames_right : (rules : Rules) (weights : List Float) (coeff : Float) (look : ℕ) (target : Float) (m : Moving) (fs : List (List Float))
    → frames_by right_steps rules weights coeff look target m fs ≡ frames_of rules weights coeff look target m fs
unfolding frames_by frames_of frame_by frame_of gain_step_by gain_step_of stepped_by stepped_of
frames_right rules weights coeff look target m [] = refl
frames_right rules weights coeff look target m (xs ∷ later) =
    let f = frame_of rules weights coeff look target m xs in
    ap (λ (r : Frames). frame_first f r) (frames_right rules weights coeff look target f.moving later)

rendered_right : (rules : Rules) (l : Limiter) (s : Stores) (target : Float) (fs : List (List Float)) → rendered_by right_steps rules l s target fs ≡ rendered rules l s target fs
unfolding rendered_by rendered
rendered_right rules l s target fs =
    ap (λ (r : Frames). record { limiter = moved_on l (envelope_of r.moving.env) r.moving.pos target 0; stores = stores_of r.moving s.weights; frames = r.frames })
    (frames_right rules s.weights l.release_coeff l.env.keeper.look target (moving_of l s) fs)

same_renderer : rendered_by right_steps ≡ rendered
same_renderer = fun_ext (λ rules. fun_ext (λ l. fun_ext (λ s. fun_ext (λ target. fun_ext (λ fs. rendered_right rules l s target fs)))))

-- a limiter that renders by these rules
abbrev rendering_by : (Rules → Renderer) → Limiting
rendering_by render =
    limiting_with (λ format m position frames events bytes. block_by (render (rules_of m.limiter.settings format)) format m position frames events bytes)
    (λ format m frames bytes. drain_by (render (rules_of m.limiter.settings format)) format m frames bytes) (λ m. reset_of m)

pub by_right_steps : limiting_by right_steps ≡ limiting
by_right_steps = ap rendering_by same_renderer
