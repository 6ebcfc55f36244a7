-- The turns of a drain: limiter, stores and audio now are those of so many frames of silence.
use mathlib.Core.Path.{◌≡◌, refl, sym, ap, subst, ◌∙◌}
use mathlib.Core.Bool.{true}
use mathlib.Core.List.{List, ◌++◌, map-append}
use Prim.Native.Nat.{ℕ, ◌+◌, ◌-◌, ◌*◌, ◌≤◌, ◌<◌, min}
use native.Mathlib.Omega.{arith}
use lib.ListN.{length, replicate, length-replicate, length-map, replicate-append-replicate}
use lib.Ieee.{Float}
use Rattle.arithmetic.specs.Number
use Rattle.arithmetic.specs.Number.{one, within}
use Rattle.audio.specs.Format.{size_of, written_bytes}
use Rattle.audio.specs.Inner.{HeldAll, Placed}
use Rattle.audio.specs.declared.format.Format.{Format}
use Rattle.audio.proofs.Written.{written_bytes_none, written_bytes_size, placed_outputs, placed_joins}
use Rattle.detector.specs.Run.{run_length}
use Rattle.frame.specs.Rules.{Rules, rules_of}
use Rattle.frame.specs.Frame.{Framed}
use Rattle.frame.specs.Run.{frames_of, frames_in, written_in}
use Rattle.frame.proofs.Keeps.{frames_append}
use Rattle.frame.proofs.Place.{silent_frames}
use Rattle.limiter.specs.Stores.{Stores, lengths_of, lengths_fit}
use Rattle.limiter.specs.Order
use Rattle.limiter.specs.Run
use Rattle.limiter.specs.Run.{moving_of, Ran, ran_at, render_of, drained_to, KernelReady}
use Rattle.limiter.specs.declared.state.Limiter.{Limiter}
use Rattle.limiter.proofs.Frames.{order_is}
use Rattle.limiter.proofs.Keeping.{frames_held, drain_prepared, drain_lengths, drain_in_order}
use Rattle.turns.specs.Block.{Rendered, rendered, outputs_of}
use Rattle.turns.specs.Drain.{silence, with_drained}
use Rattle.turns.specs.Inner.{RunsReady, silent, DrainAsked}
use Rattle.turns.proofs.Rendering.{ran_as, shown_many, frames_counted, channels_kept, kernel_asks, run_room, render_held, audio_small}

-- ---- frames in two lists, one after the other
-- a limiter whose gain lies within 0 and 1 keeps its look
look-kept : (rules : Rules) (l : Limiter) (s : Stores) (target : Float) (fs : List (List Float)) → within Number.zero one l.env.gain ≡ true → (rendered rules l s target fs).limiter.env.keeper.look ≡ l.env.keeper.look
unfolding rendered
look-kept rules l s target fs g = (frames_held rules s.weights l.release_coeff l.env.keeper.look target fs (moving_of l s) g).look_is

-- what two lists show
abbrev then : Rendered → Rendered → Rendered
then a b = record { limiter = b.limiter; stores = b.stores; frames = a.frames ++ b.frames }

rendered_append : (rules : Rules) (l : Limiter) (s : Stores) (target : Float) (fs gs : List (List Float)) → within Number.zero one l.env.gain ≡ true
    → (let a = rendered rules l s target fs in rendered rules l s target (fs ++ gs) ≡ then a (rendered rules a.limiter a.stores target gs))
unfolding rendered
rendered_append rules l s target fs gs g =
    let e = look-kept rules l s target fs g in
    rw (frames_append rules s.weights l.release_coeff l.env.keeper.look target fs gs (moving_of l s), e) refl

-- ---- the kernel's drain, as frames of silence
drain_as : (format : Format) (l : Limiter) (n : ℕ) (s : Stores) (run : List Float) → n ≤ run_length → l.channels * run_length ≤ length run
    → Run.drain_of (rules_of l.settings format) l n s run
    ≡ (let r = silent format l s n in ran_at (with_drained r.limiter (l.drained + n)) r.stores (written_in l.channels n (replicate (length run) Number.zero) (outputs_of r.frames)))
unfolding Run.drain_of
drain_as format l n s run short room =
    let rules = rules_of l.settings format in
    let quiet = replicate (length run) Number.zero in
    ap (λ (z : Ran). drained_to z (l.drained + n)) (ran_as rules l l.target n s quiet)
    ∙ ap (λ (fs : List (List Float)). let r = rendered rules l s l.target fs in ran_at (with_drained r.limiter (l.drained + n)) r.stores (written_in l.channels n quiet (outputs_of r.frames)))
    (silent_frames l.channels n 0 (length run) Number.zero (omega (arith, short)) room)

-- ---- the turns
module _ (format : Format) (l₀ : Limiter) (n width : ℕ) (s₀ : Stores) (bytes₀ : List ℕ) where
  abbrev k : ℕ
  k = l₀.channels

  abbrev rules : Rules
  rules = rules_of l₀.settings format

  -- so many frames of silence from the start
  abbrev pub at : ℕ → Rendered
  at i = silent format l₀ s₀ i

  pub record Drained (first : ℕ) (l : Limiter) (s : Stores) (bytes : List ℕ) (run : List Float) : Type 0 where
    pub inside : first ≤ n
    pub limiter_is : l ≡ with_drained (at first).limiter (l₀.drained + first)
    pub stores_are : s ≡ (at first).stores
    pub audio_is : bytes ≡ written_bytes format width k first bytes₀ (outputs_of (at first).frames)
    pub look_is : l.env.keeper.look ≡ l₀.env.keeper.look
    pub ready : RunsReady l (n - first) s
    pub run_fit : length run ≡ 8 * run_length

  pub drained_start : (run : List Float) → length run ≡ 8 * run_length → DrainAsked l₀ format n width s₀ bytes₀ → Drained 0 l₀ s₀ bytes₀ run
  unfolding rendered frames_of
  drained_start run fit a =
      let e : l₀.drained + 0 ≡ l₀.drained = omega arith in
      let f : n - 0 ≡ n = omega arith in
      record {
        inside = omega arith;
        limiter_is = rw e refl;
        stores_are = refl;
        audio_is = sym (written_bytes_none format width k bytes₀ a.lends.audio_fit (audio_small l₀ width a.ready.set_up a.lends.short));
        look_is = refl;
        ready = subst (λ (i : ℕ). RunsReady l₀ i s₀) (sym f) a.ready;
        run_fit = fit;
      }

  module _ (a : DrainAsked l₀ format n width s₀ bytes₀) (first len : ℕ) (l : Limiter) (s : Stores) (bytes : List ℕ) (run : List Float) (d : Drained first l s bytes run) (more : first < n) (N : len ≡ min (n - first) 32) where
    -- a run has a frame at least, and no more than are left
    pub tail_inside : (1 ≤ len) × (len ≤ run_length) × (first + len ≤ n)
    tail_inside = (omega (arith, N, more), omega (arith, N, more), omega (arith, N, more))

    pub channels_are : l.channels ≡ k
    unfolding rendered
    channels_are = ap (λ (z : Limiter). z.channels) d.limiter_is

    settings_are : l.settings ≡ l₀.settings
    unfolding rendered
    settings_are = ap (λ (z : Limiter). z.settings) d.limiter_is

    drained_is : l.drained ≡ l₀.drained + first
    drained_is = ap (λ (z : Limiter). z.drained) d.limiter_is

    -- ---- what the kernel is asked
    pub drain_asks : KernelReady l len s run
    drain_asks =
        kernel_asks l len s run (record { set_up = d.ready.set_up; lengths = d.ready.lengths; order = d.ready.order; room = omega (arith, d.ready.room, tail_inside.2) }) tail_inside.0 tail_inside.1 d.run_fit

    before_many : length (outputs_of (at first).frames) ≡ first
    before_many = length-map (at first).frames (λ (f : Framed). f.outputs) ∙ shown_many rules l₀ l₀.target s₀ (silence k first) ∙ length-replicate first (replicate k Number.zero)

    -- and what scattering asks of the audio
    pub audio_size : size_of format bytes ≡ k * width
    audio_size =
        ap (size_of format) d.audio_is
        ∙ written_bytes_size format width k bytes₀ a.lends.audio_fit (audio_small l₀ width a.ready.set_up a.lends.short) first (outputs_of (at first).frames) (omega (arith, d.inside, a.inside)) before_many

    -- and of the run
    pub drain_held : (after : Limiter) (stores : Stores) (run' : List Float) → ran_at after stores run' ≡ Run.drain_of (rules_of l.settings format) l len s run → HeldAll format k len run'
    unfolding Run.drain_of
    drain_held after stores run' e =
        let r = render_of (rules_of l.settings format) l l.target len s (replicate (length run) Number.zero) in
        let c : KernelReady l len s (replicate (length run) Number.zero) =
        kernel_asks l len s (replicate (length run) Number.zero) (record { set_up = d.ready.set_up; lengths = d.ready.lengths; order = d.ready.order; room = drain_asks.room }) tail_inside.0 tail_inside.1 (length-replicate (length run) Number.zero ∙ d.run_fit)
        in
        subst (λ (channels : ℕ). HeldAll format channels len run') channels_are
        (subst (HeldAll format l.channels len) (sym (ap (λ (z : Ran). z.audio) e))
        (render_held l format l.target len s (replicate (length run) Number.zero) c r.limiter r.stores r.audio refl))

    -- ---- the frames of this run join those before it
    abbrev this : Rendered
    this = silent format l s len

    this_is : this ≡ rendered rules (at first).limiter (at first).stores l₀.target (silence k len)
    unfolding rendered
    this_is = rw (d.limiter_is, d.stores_are) refl

    joined : at (first + len) ≡ then (at first) this
    joined =
        ap (λ (fs : List (List Float)). rendered rules l₀ s₀ l₀.target fs) (sym (replicate-append-replicate first len (replicate k Number.zero)))
        ∙ rendered_append rules l₀ s₀ l₀.target (silence k first) (silence k len) (order_is l₀ s₀.marks s₀.minima s₀.row a.ready.order).gain_is
        ∙ ap (then (at first)) (sym this_is)

    this_many : length (outputs_of this.frames) ≡ len
    this_many =
        length-map this.frames (λ (f : Framed). f.outputs)
        ∙ shown_many (rules_of l.settings format) l l.target s (silence l.channels len)
        ∙ length-replicate len (replicate l.channels Number.zero)

    -- ---- the next turn
    module _ (after : Limiter) (stores : Stores) (run' : List Float) (bytes' : List ℕ) (D : ran_at after stores run' ≡ Run.drain_of (rules_of l.settings format) l len s run) (R : length run' ≡ length run)
        (C : Placed format k len width first (frames_in k len run') bytes bytes') where
      room : l.channels * run_length ≤ length run
      room = run_room l run d.ready.set_up d.run_fit

      e : ran_at after stores run' ≡ ran_at (with_drained this.limiter (l.drained + len)) this.stores (written_in l.channels len (replicate (length run) Number.zero) (outputs_of this.frames))
      e = D ∙ drain_as format l len s run tail_inside.1 room

      placed : Placed format k len width first (outputs_of this.frames) bytes bytes'
      placed =
          placed_outputs format k len (replicate (length run) Number.zero) (outputs_of this.frames) width first bytes bytes' tail_inside.1 this_many (rw (length-replicate (length run) Number.zero, ← channels_are) room)
          (subst (λ (z : List Float). Placed format k len width first (frames_in k len z) bytes bytes') (ap (λ (z : Ran). z.audio) e ∙ ap (λ (c : ℕ). written_in c len (replicate (length run) Number.zero) (outputs_of this.frames)) channels_are) C)

      still : RunsReady after (n - (first + len)) stores
      still =
          let q = drain_asks in
          let rules' = rules_of l.settings format in
          let counted = frames_counted rules' l l.target s (silence l.channels len) in
          let many = length-replicate len (replicate l.channels Number.zero) in
          let frame : after.env.keeper.frame ≡ l.env.keeper.frame + len = ap (λ (z : Ran). z.limiter.env.keeper.frame) e ∙ counted ∙ ap (λ (i : ℕ). l.env.keeper.frame + i) many in
          let tail : l.drained + len ≤ l.env.keeper.look = omega (arith, drained_is, a.tail, d.look_is, tail_inside.2) in
          let channels : after.channels ≡ l.channels = ap (λ (z : Ran). z.limiter.channels) e ∙ this_channels in
          record {
            set_up = subst (λ (z : Ran). Order.prepared z.limiter ≡ true) (sym D) (drain_prepared rules' l len s run q);
            lengths = rw channels (subst (λ (z : Ran). lengths_fit l.channels z.limiter.env.keeper.look (lengths_of z.stores) ≡ true) (sym D) (drain_lengths rules' l len s run q));
            order = subst (λ (z : Ran). Order.is_in_order z.limiter z.stores.marks z.stores.minima z.stores.row ≡ true) (sym D) (drain_in_order rules' l len s run q tail);
            room = omega (arith, frame, d.ready.room, tail_inside.2);
          }
        where
          this_channels : this.limiter.channels ≡ l.channels
          this_channels = channels_kept (rules_of l.settings format) l l.target s (silence l.channels len) this.limiter refl

      pub drained_more : Drained (first + len) after stores bytes' run'
      drained_more =
          let count : l.drained + len ≡ l₀.drained + (first + len) = omega (arith, drained_is) in
          record {
            inside = tail_inside.2;
            limiter_is = ap (λ (z : Ran). z.limiter) e ∙ ap (λ (i : ℕ). with_drained this.limiter i) count ∙ ap (λ (r : Rendered). with_drained r.limiter (l₀.drained + (first + len))) (sym joined);
            stores_are = ap (λ (z : Ran). z.stores) e ∙ ap (λ (r : Rendered). r.stores) (sym joined);
            audio_is =
                placed_joins format k len width first (outputs_of this.frames) bytes bytes' placed tail_inside.1 this_many audio_size (audio_small l₀ width a.ready.set_up a.lends.short) (omega (arith, tail_inside.2, a.inside)) bytes₀
                (outputs_of (at first).frames) before_many a.lends.audio_fit d.audio_is
                ∙ ap (written_bytes format width k (first + len) bytes₀) (sym (map-append (λ (f : Framed). f.outputs) (at first).frames this.frames) ∙ ap (λ (r : Rendered). outputs_of r.frames) (sym joined));
            look_is =
                ap (λ (z : Ran). z.limiter.env.keeper.look) e
                ∙ look-kept (rules_of l.settings format) l s l.target (silence l.channels len) (order_is l s.marks s.minima s.row d.ready.order).gain_is
                ∙ d.look_is;
            ready = still;
            run_fit = R ∙ d.run_fit;
          }

  -- ---- to the end
  module _ (first : ℕ) (l : Limiter) (s : Stores) (bytes : List ℕ) (run : List Float) (d : Drained first l s bytes run) (done : n ≤ first) where
    over : first ≡ n
    over = omega (arith, done, d.inside)

    pub drained_limiter : l ≡ with_drained (at n).limiter (l₀.drained + n)
    drained_limiter = d.limiter_is ∙ ap (λ (i : ℕ). with_drained (at i).limiter (l₀.drained + i)) over

    pub drained_stores : s ≡ (at n).stores
    drained_stores = d.stores_are ∙ ap (λ (i : ℕ). (at i).stores) over

    pub drained_audio : bytes ≡ written_bytes format width k n bytes₀ (outputs_of (at n).frames)
    drained_audio = d.audio_is ∙ ap (λ (i : ℕ). written_bytes format width k i bytes₀ (outputs_of (at i).frames)) over
