-- What a run asks, from what 18, 16 and 19 judge.
use mathlib.Core.Path.{◌≡◌, sym, ap, ◌∙◌}
use mathlib.Core.Bool.{true, ◌&&◌}
use mathlib.Core.List.{List}
use Prim.Native.Nat.{ℕ, ◌+◌, ◌*◌, ◌≤◌, ◌<◌}
use native.Mathlib.Omega.{arith}
use lib.Dec.{leb, ltb}
use lib.ListN.{length, replicate, length-replicate, get_or-replicate}
use lib.Ieee.{Float, nan}
use borrow.Author.Tests.{leb-true, ltb-true}
use Rattle.arithmetic.specs.Number
use Rattle.arithmetic.specs.Number.{one, within}
use Rattle.arithmetic.specs.Sanitize.{finite_or_zero}
use Rattle.arithmetic.proofs.Order.{and-true}
use Rattle.detector.specs.Run.{run_length}
use Rattle.keeper.specs.Keeper.{keeping_at, ordered}
use Rattle.envelope.specs.Row.{row_in_order}
use Rattle.settings.specs.Derived.{look_of}
use Rattle.envelope.specs.Step.{EnvReady}
use Rattle.envelope.specs.declared.env.Envelope.{Envelope}
use Rattle.frame.specs.Run.{Sanitized, RunReady, done_at}
use Rattle.frame.specs.Lent.{moving_in}
use Rattle.frame.specs.declared.stores.Lent.{Lent}
use Rattle.limiter.specs.Stores.{Stores, lengths_of, stores_in, with_weights}
use Rattle.limiter.specs.Order.{prepared, is_in_order}
use Rattle.limiter.specs.Run.{moving_of, moved_on, ran_at, ran_by, KernelReady}
use Rattle.limiter.specs.declared.state.Limiter.{Limiter}
use Rattle.limiter.proofs.Judge.{fit}
use Rattle.limiter.proofs.Ready.{prepared_is}

-- ---- what a run leaves: of the lent stores, only the weights are not written
pub ran_in : (s : Limiter) (weights : List Float) (target : Float) (drained : ℕ) (env : Envelope) (pos : ℕ) (l : Lent) (audio : List Float) → l.weights.now ≡ weights
    → ran_at (moved_on s env pos target drained) (stores_in l) audio ≡ ran_by s weights target drained (done_at (moving_in env pos l) audio)
ran_in s weights target drained env pos l audio e =
    ap (λ (w : List Float). ran_at (moved_on s env pos target drained) (with_weights w (stores_in l)) audio) e

-- ---- what 19 says
pub record Ordered (l : Limiter) (marks : List ℕ) (minima row : List Float) : Type 0 where
  pub ring_is : ordered (keeping_at l.env.keeper marks minima) ≡ true
  pub row_is : row_in_order l.env.attack row ≡ true
  pub place : l.delay_pos < l.env.keeper.look
  pub drained_most : l.drained ≤ l.env.keeper.look
  pub gain_is : within Number.zero one l.env.gain ≡ true
  pub target_is : within Number.zero one l.target ≡ true

pub order_is : (l : Limiter) (marks : List ℕ) (minima row : List Float) → is_in_order l marks minima row ≡ true → Ordered l marks minima row
unfolding is_in_order
order_is l marks minima row h =
    let look = l.env.keeper.look in
    let k = ordered (keeping_at l.env.keeper marks minima) in
    let r = row_in_order l.env.attack row in
    let p = ltb l.delay_pos look in
    let d = leb l.drained look in
    let g = within Number.zero one l.env.gain in
    let t = within Number.zero one l.target in
    let a = and-true k (r && (p && (d && (g && t)))) h in
    let b = and-true r (p && (d && (g && t))) a.1 in
    let c = and-true p (d && (g && t)) b.1 in
    let e = and-true d (g && t) c.1 in
    let f = and-true g t e.1 in
    record {
      ring_is = a.0;
      row_is = b.0;
      place = ltb-true l.delay_pos look c.0;
      drained_most = leb-true l.drained look e.0;
      gain_is = f.0;
      target_is = f.1;
    }

-- ---- the bounds of what is set up
pub record Bounds (l : Limiter) : Type 0 where
  pub some : 1 ≤ l.channels
  pub most : l.channels ≤ 8
  pub look_most : l.env.keeper.look ≤ 4096

pub bounds_of : (l : Limiter) → prepared l ≡ true → Bounds l
bounds_of l h =
    let p = prepared_is l h in
    let look = look_of l.settings.lookahead_ms l.rate in
    let c = and-true (leb 1 l.channels) (leb l.channels 8) p.rules.channels_is in
    let k = and-true (leb 11 look) (leb look 4096) p.rules.look_is in
    record { some = leb-true 1 l.channels c.0; most = leb-true l.channels 8 c.1; look_most = rw p.look_is (leb-true look 4096 k.1) }

module _ (l : Limiter) (n : ℕ) (s : Stores) (audio : List Float) (k : KernelReady l n s audio) where
  pub env_asks : EnvReady s.weights (moving_of l s).env
  env_asks =
      let f = fit l.channels l.env.keeper.look (lengths_of s) k.lengths in
      let o = order_is l s.marks s.minima s.row k.order in
      record {
        keeper = record { marks_fit = f.marks_is; minima_fit = f.minima_is; in_order = o.ring_is; room = omega (arith, k.room, k.some) };
        row = o.row_is;
        weighed = f.weights_is ∙ sym f.row_is;
      }

  pub run_asks : Sanitized l.channels n audio → RunReady s.weights l.env.keeper.look l.channels n (moving_of l s) audio
  run_asks clean =
      let b = bounds_of l k.set_up in
      let f = fit l.channels l.env.keeper.look (lengths_of s) k.lengths in
      record {
        env = env_asks;
        room = k.room;
        some = b.some;
        most = b.most;
        short = k.short;
        audio_fit = k.audio_fit;
        delay_fit = f.delay_is;
        detector_fit = f.detector_is;
        place = (order_is l s.marks s.minima s.row k.order).place;
        clean = clean;
      }

  -- silence of the same length is asked no more
  pub silent_ready : KernelReady l n s (replicate (length audio) Number.zero)
  silent_ready = record {
    set_up = k.set_up;
    lengths = k.lengths;
    order = k.order;
    room = k.room;
    some = k.some;
    short = k.short;
    audio_fit = length-replicate (length audio) Number.zero ∙ k.audio_fit;
  }

  -- and it is sanitized
  pub silent_clean : Sanitized l.channels n (replicate (length audio) Number.zero)
  silent_clean c i h g =
      let inside : c * run_length + i < length audio = omega (arith, k.audio_fit, k.short, (bounds_of l k.set_up).most) in
      let z = get_or-replicate (length audio) (c * run_length + i) Number.zero nan inside in
      ap finite_or_zero z ∙ sym z

  pub drained_few : l.drained + n ≤ 4128
  drained_few =
      let b = bounds_of l k.set_up in
      let o = order_is l s.marks s.minima s.row k.order in
      omega (arith, o.drained_most, b.look_most, k.short)
