-- What 18, 16 and 19 judge of the kernel, passed: frames, blocks and drains leave it so.
use mathlib.Core.Path.{◌≡◌, refl, sym, subst, ◌∙◌}
use mathlib.Core.Bool.{true, ◌&&◌}
use mathlib.Core.List.{List, [], ◌∷◌, ◌++◌}
use Prim.Native.Nat.{ℕ, ◌+◌, ◌≤◌}
use native.Mathlib.Omega.{arith}
use lib.ListN.{length, take, drop, replicate, length-replicate, length-append, take-append-drop}
use lib.Ieee.{Float, nan}
use borrow.Author.Tests.{leb-true, le-leb, lt-ltb}
use Rattle.arithmetic.specs.Number
use Rattle.arithmetic.specs.Number.{one, within}
use Rattle.arithmetic.specs.Reply.{numbered, unless, and_then, must}
use Rattle.arithmetic.proofs.Order.{and-true}
use Rattle.arithmetic.proofs.Passed.{passed_unless, passed_must, passed_then}
use Rattle.audio.specs.Planar.{frames_at}
use Rattle.audio.specs.Format.{size_of, samples_of}
use Rattle.audio.specs.declared.format.Format.{Format}
use Rattle.audio.proofs.Planes.{frames_at_length}
use Rattle.keeper.specs.InOrder.{most_frames}
use Rattle.settings.specs.Target.{target_of}
use Rattle.settings.proofs.Unit.{target_unit}
use Rattle.frame.specs.Rules.{Rules}
use Rattle.frame.specs.Frame.{Moving}
use Rattle.frame.specs.Run.{frames_of}
use Rattle.frame.proofs.Keeps.{Kept, EnvInOrder, frames_kept}
use Rattle.limiter.specs.Stores.{Stores, lengths_of, lengths_fit}
use Rattle.limiter.specs.Order
use Rattle.limiter.specs.Run.{moving_of}
use Rattle.limiter.specs.declared.state.Limiter.{Limiter}
use Rattle.limiter.proofs.Judge.{fit}
use Rattle.limiter.proofs.Frames.{order_is}
use Rattle.limiter.proofs.Keeping.{Held, frames_held}
use Rattle.turns.specs.Machine.{Machine, threshold_of, prepared, is_in_order, target_in_range, fits, ready_refusal}
use Rattle.turns.specs.Events.{Event, events_reply, latched}
use Rattle.turns.specs.Block.{rendered, runs_of, bank_at, turn_by, runs_through, sized, has_room, reaches, call_reply, block_reply, block_done}
use Rattle.turns.specs.Drain.{longest_drain, tail_reply, drain_reply, drainable, with_drained, silence, drain_done}

pub record Kernel (l : Limiter) (s : Stores) : Type 0 where
  pub set_up : Order.prepared l ≡ true
  pub lengths : lengths_fit l.channels l.env.keeper.look (lengths_of s) ≡ true
  pub order : Order.is_in_order l s.marks s.minima s.row ≡ true

-- what frames leave as it is
pub record Steady (l : Limiter) (s : Stores) (after : Limiter) (left : Stores) : Type 0 where
  pub settings : after.settings ≡ l.settings
  pub rate : after.rate ≡ l.rate
  pub channels : after.channels ≡ l.channels
  pub largest : after.max_block ≡ l.max_block
  pub look : after.env.keeper.look ≡ l.env.keeper.look
  pub coeff : after.release_coeff ≡ l.release_coeff
  pub weights : left.weights ≡ s.weights

pub same_steady : (l : Limiter) (s : Stores) → Steady l s l s
same_steady l s = record { settings = refl; rate = refl; channels = refl; largest = refl; look = refl; coeff = refl; weights = refl }

-- ---- frames at one target
module _ (rules : Rules) (l : Limiter) (s : Stores) (target : Float) (xss : List (List Float)) where
  abbrev moved : Moving
  moved = (frames_of rules s.weights l.release_coeff l.env.keeper.look target (moving_of l s) xss).moving

  kept : Kept rules s.weights l.release_coeff l.env.keeper.look target (moving_of l s) moved (length xss)
  kept = frames_kept rules s.weights l.release_coeff l.env.keeper.look target xss (moving_of l s)

  -- the frames since reset
  pub render_taken : (rendered rules l s target xss).limiter.env.keeper.frame ≡ l.env.keeper.frame + length xss
  unfolding rendered
  render_taken = kept.taken

  module _ (k : Kernel l s) where
    held : Held (moving_of l s).env moved.env
    held =
        frames_held rules s.weights l.release_coeff l.env.keeper.look target xss (moving_of l s)
        (order_is l s.marks s.minima s.row k.order).gain_is

    starts : EnvInOrder s.weights (moving_of l s).env
    starts =
        let f = fit l.channels l.env.keeper.look (lengths_of s) k.lengths in
        let o = order_is l s.marks s.minima s.row k.order in
        record { marks_fit = f.marks_is; minima_fit = f.minima_is; in_order = o.ring_is; row = o.row_is; weighed = f.weights_is ∙ sym f.row_is }

    pub render_steady : (let r = rendered rules l s target xss in Steady l s r.limiter r.stores)
    unfolding rendered
    render_steady = record { settings = refl; rate = refl; channels = refl; largest = refl; look = held.look_is; coeff = refl; weights = refl }

    pub render_kernel : within Number.zero one target ≡ true → l.env.keeper.frame + length xss ≤ most_frames → (let r = rendered rules l s target xss in Kernel r.limiter r.stores)
    unfolding rendered Order.prepared Order.is_in_order
    render_kernel unit room =
        let f = fit l.channels l.env.keeper.look (lengths_of s) k.lengths in
        let o = kept.order starts room in
        let look = moved.env.keeping.keeper.look in
        let marks : length moved.env.keeping.marks ≡ length s.marks = rw (o.marks_fit, held.look_is, f.marks_is) refl in
        let minima : length moved.env.keeping.minima ≡ length s.minima = rw (o.minima_fit, held.look_is, f.minima_is) refl in
        let row : length moved.env.rowed.row ≡ length s.row = rw (← o.weighed, f.weights_is, f.row_is) refl in
        let place = kept.place (order_is l s.marks s.minima s.row k.order).place in
        record {
          set_up = rw held.look_is k.set_up;
          lengths = rw (marks, minima, row, kept.delay, kept.detector, held.look_is) k.lengths;
          order = rw (o.in_order, o.row, held.gain_is, unit, lt-ltb moved.pos look (rw held.look_is place), le-leb 0 look (omega arith)) refl;
        }

-- another drained count, of at most look
pub drained_kernel : (l : Limiter) (s : Stores) (drained : ℕ) → drained ≤ l.env.keeper.look → Kernel l s → Kernel (with_drained l drained) s
unfolding Order.prepared Order.is_in_order
drained_kernel l s drained h k =
    let o = order_is l s.marks s.minima s.row k.order in
    let look = l.env.keeper.look in
    record {
      set_up = k.set_up;
      lengths = k.lengths;
      order = rw (o.ring_is, o.row_is, lt-ltb l.delay_pos look o.place, le-leb drained look h, o.gain_is, o.target_is) refl;
    }

-- ---- the runs of a block
parts : (n : ℕ) (fs : List (List Float)) → length (take n fs) + length (drop n fs) ≡ length fs
parts n fs = sym (length-append (take n fs) (drop n fs)) ∙ subst (λ (gs : List (List Float)). length (take n fs ++ drop n fs) ≡ length gs) (take-append-drop n fs) refl

pub runs_kernel : (rules : Rules) (ns : List ℕ) (position first : ℕ) (events : List Event) (fs : List (List Float)) (m : Machine) → Kernel m.limiter m.stores → m.limiter.env.keeper.frame + length fs ≤ most_frames
    → (let r = runs_through (rendered rules) position first ns events fs m in Kernel r.machine.limiter r.machine.stores)
unfolding runs_through
runs_kernel rules [] position first events fs m k room = k
runs_kernel rules (n ∷ ns) position first events fs m k room =
    let t = turn_by (rendered rules) position first events (take n fs) m in
    let b = bank_at position (latched first events m.bank).bank in
    let target = target_of (threshold_of b).cur m.limiter.settings.true_peak_margin_db in
    let p = parts n fs in
    let taken = render_taken rules m.limiter m.stores target (take n fs) in
    runs_kernel rules ns (position + n) (first + n) t.waiting (drop n fs) t.machine
    (render_kernel rules m.limiter m.stores target (take n fs) k (target_unit (threshold_of b).cur m.limiter.settings.true_peak_margin_db) (omega arith)) (omega (arith, taken))

-- ---- the calls
pub ready_kernel : (m : Machine) → ready_refusal m ≡ 0 → Kernel m.limiter m.stores
unfolding ready_refusal prepared is_in_order
ready_kernel m h =
    let p = passed_unless (prepared m.limiter m.bank) 17 (unless (fits m) 16 (unless (is_in_order m) 19 0)) h in
    let q = passed_unless (fits m) 15 (unless (is_in_order m) 19 0) p.1 in
    let o = passed_unless (is_in_order m) 18 0 q.1 in
    record {
      set_up = (and-true (Order.prepared m.limiter) _ p.0).0;
      lengths = q.0;
      order = (and-true (Order.is_in_order m.limiter m.stores.marks m.stores.minima m.stores.row) (target_in_range m.bank) o.0).0;
    }

module _ (rules : Rules) (format : Format) (m : Machine) (frames : ℕ) (bytes : List ℕ) where
  -- a block that is not refused
  pub block_kernel : (position : ℕ) (events : List Event) → (block_reply m position frames events (size_of format bytes)).number ≡ 0
      → (let o = block_done (rendered rules) format m position frames events bytes in Kernel o.machine.limiter o.machine.stores)
  unfolding block_reply
  block_kernel position events z =
      let fs = frames_at nan frames m.limiter.channels 0 frames (samples_of format bytes) in
      let p = passed_then (numbered (ready_refusal m)) (call_reply m position frames events (size_of format bytes)) z in
      let sizes = sized m m.limiter.max_block frames (size_of format bytes) in
      let roomy = reaches position frames && has_room m frames in
      let q = passed_then (must sizes 20) (and_then (events_reply frames 0 0 events) (must roomy 22)) p.1 in
      let r = passed_then (events_reply frames 0 0 events) (must roomy 22) q.1 in
      let room = leb-true (m.limiter.env.keeper.frame + frames) most_frames (and-true (reaches position frames) (has_room m frames) (passed_must roomy 21 r.1)).1 in
      runs_kernel rules (runs_of position frames) position 0 events fs m (ready_kernel m p.0) (omega (arith, room, frames_at_length nan frames m.limiter.channels 0 frames (samples_of format bytes)))

  -- and a drain
  pub drain_kernel : (drain_reply m frames (size_of format bytes)).number ≡ 0 → (let o = drain_done (rendered rules) format m frames bytes in Kernel o.machine.limiter o.machine.stores)
  unfolding drain_reply
  drain_kernel z =
      let l = m.limiter in
      let n = drainable l frames in
      let fs = silence l.channels n in
      let p = passed_then (numbered (ready_refusal m)) (tail_reply m frames (size_of format bytes)) z in
      let k = ready_kernel m p.0 in
      let o = order_is l m.stores.marks m.stores.minima m.stores.row k.order in
      let q = passed_then (must (sized m longest_drain frames (size_of format bytes)) 20) (must (has_room m frames) 22) p.1 in
      let room = leb-true (l.env.keeper.frame + frames) most_frames (passed_must (has_room m frames) 21 q.1) in
      let many = length-replicate n (replicate l.channels Number.zero) in
      let steady = render_steady rules l m.stores l.target fs k in
      let r = rendered rules l m.stores l.target fs in
      drained_kernel r.limiter r.stores (l.drained + n) (omega (arith, steady.look, o.drained_most))
      (render_kernel rules l m.stores l.target fs k o.target_is (omega (arith, room, many)))
