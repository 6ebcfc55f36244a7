-- Frames of a call's audio through the limiter: gathered, rendered, scattered.
use mathlib.Core.Path.{◌≡◌, refl, sym, ap, subst, ◌∙◌}
use mathlib.Core.Bool.{true}
use mathlib.Core.List.{List, map}
use Prim.Native.Nat.{ℕ, ◌+◌, ◌*◌, ◌≤◌, ◌<◌}
use native.Mathlib.Omega.{arith}
use lib.ListN.{length, length-map}
use lib.Ieee.{Float, nan}
use Rattle.arithmetic.specs.Number
use Rattle.arithmetic.specs.Number.{one, within, largest}
use Rattle.arithmetic.specs.Sanitize.{finite_or_zero}
use Rattle.audio.specs.Planar.{frames_at}
use Rattle.audio.specs.Format.{samples_of, sounds_of}
use Rattle.audio.specs.Inner.{PlacesCarried, HeldAll, Placed}
use Rattle.audio.specs.declared.format.Format.{Format}
use Rattle.audio.proofs.Planes.{frames_at_length, written_elsewhere}
use Rattle.audio.proofs.Written.{size_small, gathered, gathered_clean, placed_outputs}
use Rattle.detector.specs.Run.{run_length}
use Rattle.keeper.specs.InOrder.{most_frames}
use Rattle.frame.specs.Rules.{Rules, rules_of}
use Rattle.frame.specs.Frame.{Framed}
use Rattle.frame.specs.Run.{frames_in, peaks_of_frames, written_in, Sanitized, run_of}
use Rattle.frame.specs.Place.{highest_from}
use Rattle.frame.specs.declared.highest.Highest.{Highest}
use Rattle.frame.proofs.Clean.{frames_clean}
use Rattle.frame.proofs.Keeps.{frames_kept, frames_many}
use Rattle.frame.proofs.Held.{run_held}
use Rattle.frame.proofs.Found.{peaks_from_zero, frames_from_zero}
use Rattle.limiter.specs.Stores.{Stores, lengths_of, lengths_fit}
use Rattle.limiter.specs.Order
use Rattle.limiter.specs.Run.{moving_of, Ran, ran_at, render_of, peaks_in, KernelReady}
use Rattle.limiter.specs.declared.state.Limiter.{Limiter}
use Rattle.limiter.proofs.Frames.{bounds_of}
use Rattle.limiter.proofs.Keeping.{render_prepared, render_lengths, render_in_order}
use Rattle.turns.specs.Block.{Rendered, rendered, outputs_of}
use Rattle.turns.specs.Inner.{RunsReady, RunAsked, RunGiven}

-- ---- the kernel's run, as frames in turn
-- a run of its frames
pub ran_as : (rules : Rules) (l : Limiter) (target : Float) (n : ℕ) (s : Stores) (run : List Float)
    → (let r = rendered rules l s target (frames_in l.channels n run) in render_of rules l target n s run ≡ ran_at r.limiter r.stores (written_in l.channels n run (outputs_of r.frames)))
unfolding render_of run_of rendered
ran_as rules l target n s run = refl

pub shows_peaks : (rules : Rules) (l : Limiter) (target : Float) (n : ℕ) (s : Stores) (run : List Float) → peaks_in rules l target n s run ≡ peaks_of_frames (rendered rules l s target (frames_in l.channels n run)).frames
unfolding rendered
shows_peaks rules l target n s run = refl

-- none of them is below 0
pub shown_from_zero : (rules : Rules) (l : Limiter) (target : Float) (s : Stores) (fs : List (List Float)) → peaks_from_zero (peaks_of_frames (rendered rules l s target fs).frames) ≡ true
unfolding rendered
shown_from_zero rules l target s fs = frames_from_zero rules s.weights l.release_coeff l.env.keeper.look target (moving_of l s) fs

-- as many are shown as there are frames
pub shown_many : (rules : Rules) (l : Limiter) (target : Float) (s : Stores) (fs : List (List Float)) → length (rendered rules l s target fs).frames ≡ length fs
unfolding rendered
shown_many rules l target s fs = frames_many rules s.weights l.release_coeff l.env.keeper.look target fs (moving_of l s)

pub channels_kept : (rules : Rules) (l : Limiter) (target : Float) (s : Stores) (fs : List (List Float)) (after : Limiter) → after ≡ (rendered rules l s target fs).limiter → after.channels ≡ l.channels
unfolding rendered
channels_kept rules l target s fs after e = ap (λ (z : Limiter). z.channels) e

-- each of them counts
pub frames_counted : (rules : Rules) (l : Limiter) (target : Float) (s : Stores) (fs : List (List Float)) → (rendered rules l s target fs).limiter.env.keeper.frame ≡ l.env.keeper.frame + length fs
unfolding rendered
frames_counted rules l target s fs = (frames_kept rules s.weights l.release_coeff l.env.keeper.look target fs (moving_of l s)).taken

-- what the kernel asks
pub kernel_asks : (l : Limiter) (n : ℕ) (s : Stores) (run : List Float) → RunsReady l n s → 1 ≤ n → n ≤ run_length → length run ≡ 8 * run_length → KernelReady l n s run
kernel_asks l n s run r some short fit = record { set_up = r.set_up; lengths = r.lengths; order = r.order; room = r.room; some = some; short = short; audio_fit = fit }

-- 8 channels have room in a run
pub run_room : (l : Limiter) (run : List Float) → Order.prepared l ≡ true → length run ≡ 8 * run_length → l.channels * run_length ≤ length run
run_room l run h e = let b = bounds_of l h in omega (arith, b.most, e)

-- what a run gives out are values of the sample type, as scattering asks
pub render_held : (l : Limiter) (format : Format) (target : Float) (n : ℕ) (s : Stores) (run : List Float) → KernelReady l n s run
    → (after : Limiter) (stores : Stores) (run' : List Float) → ran_at after stores run' ≡ render_of (rules_of l.settings format) l target n s run → HeldAll format l.channels n run'
unfolding render_of
render_held l format target n s run k after stores run' e =
    subst (HeldAll format l.channels n) (sym (ap (λ (z : Ran). z.audio) e))
    (run_held format (rules_of l.settings format) refl s.weights l.release_coeff l.env.keeper.look target l.channels n (moving_of l s) run k.short (run_room l run k.set_up k.audio_fit))

-- nor are channels × frames as many as a call never asks for
pub audio_small : (l : Limiter) (width : ℕ) → Order.prepared l ≡ true → width ≤ 65536 → l.channels * width < largest
audio_small l width h short = size_small l.channels width (bounds_of l h).most short

-- a run leaves limiter and stores as ready as they were
pub still_ready : (rules : Rules) (l : Limiter) (target : Float) (n : ℕ) (s : Stores) (run : List Float) → KernelReady l n s run → within Number.zero one target ≡ true
    → (left : ℕ) → l.env.keeper.frame + (n + left) ≤ most_frames → (let r = rendered rules l s target (frames_in l.channels n run) in RunsReady r.limiter left r.stores)
unfolding rendered
still_ready rules l target n s run k unit left room =
    let e = ran_as rules l target n s run in
    let o = render_of rules l target n s run in
    let many = frames_at_length nan run_length l.channels 0 n run in
    let counted = frames_counted rules l target s (frames_in l.channels n run) in
    record {
      set_up = subst (λ (r : Ran). Order.prepared r.limiter ≡ true) e (render_prepared rules l target n s run k);
      lengths = subst (λ (r : Ran). lengths_fit l.channels r.limiter.env.keeper.look (lengths_of r.stores) ≡ true) e (render_lengths rules l target n s run k);
      order = subst (λ (r : Ran). Order.is_in_order r.limiter r.stores.marks r.stores.minima r.stores.row ≡ true) e (render_in_order rules l target n s run k unit);
      room = omega (arith, counted, many, room);
    }

-- what a call keeps of the limiter
pub settings_kept : (rules : Rules) (l : Limiter) (target : Float) (s : Stores) (fs : List (List Float)) (after : Limiter) → after ≡ (rendered rules l s target fs).limiter → after.settings ≡ l.settings
unfolding rendered
settings_kept rules l target s fs after e = ap (λ (z : Limiter). z.settings) e

-- sanitized before, the frames come to the same
rendered_clean : (rules : Rules) (l : Limiter) (target : Float) (s : Stores) (fs : List (List Float)) → rendered rules l s target (map (map finite_or_zero) fs) ≡ rendered rules l s target fs
unfolding rendered
rendered_clean rules l target s fs = rw (frames_clean rules s.weights l.release_coeff l.env.keeper.look target fs (moving_of l s)) refl

-- ---- gathered, rendered, scattered
-- a gathered run is sanitized
pub run_clean : (l : Limiter) (format : Format) (target : Float) (width first n : ℕ) (s : Stores) (bytes : List ℕ) (run₀ run : List Float) → RunAsked l format target width first n s bytes run₀
    → PlacesCarried nan l.channels n width first (sounds_of format bytes) run_length 0 run₀ run → Sanitized l.channels n run
run_clean l format target width first n s bytes run₀ run a g =
    gathered_clean format l.channels n width first bytes run₀ run a.lends.audio_fit (audio_small l width a.ready.set_up a.lends.short) a.inside g

module _ (l : Limiter) (format : Format) (target : Float) (width first n : ℕ) (s : Stores) (bytes : List ℕ) (run₀ run run' : List Float) (bytes' : List ℕ) (after : Limiter) (stores : Stores) (best highest : Highest) where
  abbrev rules : Rules
  rules = rules_of l.settings format

  -- its frames come to what the call's do
  abbrev frames : List (List Float)
  frames = frames_at nan width l.channels first n (samples_of format bytes)

  alike : PlacesCarried nan l.channels n width first (sounds_of format bytes) run_length 0 run₀ run → rendered rules l s target (frames_in l.channels n run) ≡ rendered rules l s target frames
  alike g =
      sym (rendered_clean rules l target s (frames_in l.channels n run))
      ∙ ap (rendered rules l s target) (gathered format l.channels n width first bytes run₀ run g)
      ∙ rendered_clean rules l target s frames

  pub run_given : RunAsked l format target width first n s bytes run₀ → length run ≡ length run₀ → PlacesCarried nan l.channels n width first (sounds_of format bytes) run_length 0 run₀ run
      → ran_at after stores run' ≡ render_of rules l target n s run → highest ≡ highest_from first best (peaks_in rules l target n s run) → Placed format l.channels n width first (frames_in l.channels n run') bytes bytes'
      → RunGiven l format target width first n s bytes run₀ after stores bytes' run' best highest
  run_given a m g r h c =
      let same = alike g in
      let k = kernel_asks l n s run a.ready a.some a.short (m ∙ a.run_fit) in
      let e = r ∙ ran_as rules l target n s run in
      let many = shown_many rules l target s (frames_in l.channels n run) ∙ frames_at_length nan run_length l.channels 0 n run in
      let shown = (rendered rules l s target (frames_in l.channels n run)).frames in
      record {
        limiter_is = ap (λ (z : Ran). z.limiter) e ∙ ap (λ (z : Rendered). z.limiter) same;
        stores_are = ap (λ (z : Ran). z.stores) e ∙ ap (λ (z : Rendered). z.stores) same;
        audio_is =
            subst (λ (z : Rendered). Placed format l.channels n width first (outputs_of z.frames) bytes bytes') same
            (placed_outputs format l.channels n run (outputs_of shown) width first bytes bytes' a.short (length-map shown (λ (x : Framed). x.outputs) ∙ many) (run_room l run a.ready.set_up (m ∙ a.run_fit))
            (subst (λ (z : List Float). Placed format l.channels n width first (frames_in l.channels n z) bytes bytes') (ap (λ (z : Ran). z.audio) e) c));
        run_is =
            ap (λ (z : Ran). z.audio) e
            ∙ ap (λ (z : Rendered). written_in l.channels n run (outputs_of z.frames)) same
            ∙ written_elsewhere nan run_length l.channels n run run₀ (outputs_of (rendered rules l s target frames).frames) a.short m (λ p h. g.elsewhere p (λ c q t. omega (arith, h c q (omega (arith, t)))));
        highest_is = h ∙ ap (highest_from first best) (shows_peaks rules l target n s run) ∙ ap (λ (z : Rendered). highest_from first best (peaks_of_frames z.frames)) same;
        still = λ left room. subst (λ (z : Ran). RunsReady z.limiter left z.stores) (sym e) (still_ready rules l target n s run k a.unit left room);
      }
