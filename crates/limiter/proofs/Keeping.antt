-- A run keeps the limiter set up and in order, so that neither 18 nor 19 arises on what only the limiter wrote.
use mathlib.Core.Path.{◌≡◌, refl, subst, ◌∙◌}
use mathlib.Core.Bool.{true}
use mathlib.Core.List.{List, [], ◌∷◌}
use Prim.Native.Nat.{ℕ, ◌+◌, ◌≤◌}
use native.Mathlib.Omega.{arith}
use lib.ListN.{length, replicate}
use lib.Ieee.{Float}
use borrow.Author.Tests.{le-leb, lt-ltb}
use Rattle.arithmetic.specs.Number
use Rattle.arithmetic.specs.Number.{one, within}
use Rattle.keeper.specs.Keeper.{stepped_of}
use Rattle.envelope.specs.Step.{Enveloped, gain_step_of}
use Rattle.frame.specs.Rules.{Rules}
use Rattle.frame.specs.Frame.{Moving, frame_of}
use Rattle.frame.specs.Run.{frames_of, frames_in, run_of}
use Rattle.frame.proofs.Keeps.{Kept, EnvInOrder, order_of_ready, frame_gain, frames_kept}
use Rattle.frame.proofs.Exchange.{frames_length}
use Rattle.limiter.specs.Stores.{Stores, lengths_of, lengths_fit}
use Rattle.limiter.specs.Order.{prepared, is_in_order}
use Rattle.limiter.specs.Run.{moving_of, render_of, drain_of, KernelReady}
use Rattle.limiter.specs.declared.state.Limiter.{Limiter}
use Rattle.limiter.proofs.Judge.{fit}
use Rattle.limiter.proofs.Frames.{order_is, env_asks, silent_ready}

-- ---- look stays, and the gain lies within 0 and 1
pub record Held (before after : Enveloped) : Type 0 where
  pub gain_is : within Number.zero one after.gain ≡ true
  pub look_is : after.keeping.keeper.look ≡ before.keeping.keeper.look

module _ (rules : Rules) (weights : List Float) (coeff : Float) (look : ℕ) (target : Float) where
  frame_held : (m : Moving) (xs : List Float) → Held m.env (frame_of rules weights coeff look target m xs).moving.env
  unfolding frame_of gain_step_of stepped_of
  frame_held m xs = record { gain_is = frame_gain rules weights coeff look target m xs; look_is = refl }

  pub frames_held : (fs : List (List Float)) (m : Moving) → within Number.zero one m.env.gain ≡ true → Held m.env (frames_of rules weights coeff look target m fs).moving.env
  unfolding frames_of
  frames_held [] m g = record { gain_is = g; look_is = refl }
  frames_held (xs ∷ fs) m g =
      let first = frame_held m xs in
      let later = frames_held fs (frame_of rules weights coeff look target m xs).moving first.gain_is in
      record { gain_is = later.gain_is; look_is = later.look_is ∙ first.look_is }

-- ---- a run that is rendered
module _ (rules : Rules) (l : Limiter) (target : Float) (n : ℕ) (s : Stores) (audio : List Float) (k : KernelReady l n s audio) where
  abbrev moved : Moving
  moved = (run_of rules s.weights l.release_coeff l.env.keeper.look target l.channels n (moving_of l s) audio).moving

  held : Held (moving_of l s).env moved.env
  unfolding run_of
  held =
      frames_held rules s.weights l.release_coeff l.env.keeper.look target (frames_in l.channels n audio) (moving_of l s)
      (order_is l s.marks s.minima s.row k.order).gain_is

  kept : Kept rules s.weights l.release_coeff l.env.keeper.look target (moving_of l s) moved n
  unfolding run_of
  kept =
      subst (λ (i : ℕ). Kept rules s.weights l.release_coeff l.env.keeper.look target (moving_of l s) moved i) (frames_length l.channels n 0 audio)
      (frames_kept rules s.weights l.release_coeff l.env.keeper.look target (frames_in l.channels n audio) (moving_of l s))

  order_kept : EnvInOrder s.weights moved.env
  order_kept = kept.order (order_of_ready s.weights (moving_of l s).env (env_asks l n s audio k)) k.room

  pub render_prepared : prepared (render_of rules l target n s audio).limiter ≡ true
  unfolding render_of prepared
  render_prepared = rw held.look_is k.set_up

  pub render_lengths : (let r = render_of rules l target n s audio in lengths_fit l.channels r.limiter.env.keeper.look (lengths_of r.stores) ≡ true)
  unfolding render_of
  render_lengths =
      let f = fit l.channels l.env.keeper.look (lengths_of s) k.lengths in
      let marks : length moved.env.keeping.marks ≡ length s.marks = rw (order_kept.marks_fit, held.look_is, f.marks_is) refl in
      let minima : length moved.env.keeping.minima ≡ length s.minima = rw (order_kept.minima_fit, held.look_is, f.minima_is) refl in
      let row : length moved.env.rowed.row ≡ length s.row = rw (← order_kept.weighed, f.weights_is, f.row_is) refl in
      rw (marks, minima, row, kept.delay, kept.detector, held.look_is) k.lengths

  pub render_in_order : within Number.zero one target ≡ true → (let r = render_of rules l target n s audio in is_in_order r.limiter r.stores.marks r.stores.minima r.stores.row ≡ true)
  unfolding render_of is_in_order
  render_in_order t =
      let look = moved.env.keeping.keeper.look in
      let place = kept.place (order_is l s.marks s.minima s.row k.order).place in
      rw (order_kept.in_order, order_kept.row, held.gain_is, t, lt-ltb moved.pos look (rw held.look_is place), le-leb 0 look (omega arith)) refl

-- ---- a run that is drained
module _ (rules : Rules) (l : Limiter) (n : ℕ) (s : Stores) (audio : List Float) (k : KernelReady l n s audio) where
  abbrev silence : List Float
  silence = replicate (length audio) Number.zero

  pub drain_prepared : prepared (drain_of rules l n s audio).limiter ≡ true
  unfolding drain_of prepared
  drain_prepared = render_prepared rules l l.target n s silence (silent_ready l n s audio k)

  pub drain_lengths : (let r = drain_of rules l n s audio in lengths_fit l.channels r.limiter.env.keeper.look (lengths_of r.stores) ≡ true)
  unfolding drain_of
  drain_lengths = render_lengths rules l l.target n s silence (silent_ready l n s audio k)

  -- no more than look frames are drained
  pub drain_in_order : l.drained + n ≤ l.env.keeper.look → (let r = drain_of rules l n s audio in is_in_order r.limiter r.stores.marks r.stores.minima r.stores.row ≡ true)
  unfolding drain_of is_in_order render_of
  drain_in_order h =
      let t = (order_is l s.marks s.minima s.row k.order).target_is in
      let quiet = silent_ready l n s audio k in
      let r = render_of rules l l.target n s silence in
      let o = order_is r.limiter r.stores.marks r.stores.minima r.stores.row (render_in_order rules l l.target n s silence quiet t) in
      let look = r.limiter.env.keeper.look in
      let e : look ≡ l.env.keeper.look = (held rules l l.target n s silence quiet).look_is in
      rw (o.ring_is, o.row_is, o.gain_is, t, lt-ltb r.limiter.delay_pos look o.place, le-leb (l.drained + n) look (rw e h)) refl
