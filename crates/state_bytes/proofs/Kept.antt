-- Every call leaves a limiter and a bank that 512 bytes hold: setup, block, drain, parameter call, reset and gain step; and what is read out of any bytes is such a pair too.
use mathlib.Core.Path.{◌≡◌, refl, sym, ap, ◌∙◌}
use mathlib.Core.Bool.{true, ◌&&◌}
use mathlib.Core.List.{List, [], ◌∷◌}
use Prim.Native.Nat.{ℕ, zero, suc, ◌+◌, ◌^◌, ◌≤◌, ◌<◌}
use native.Mathlib.Nat.{mod-lt, pow-suc, one-le-pow}
use native.Mathlib.Omega.{arith}
use lib.Dec.{eqb, leb}
use lib.ListN.{length, get_or, take, drop, replicate}
use lib.Seq.{get_or-drop}
use lib.Ieee.{Float, nan}
use borrow.Author.Tests.{eqb-true, leb-true}
use Rattle.arithmetic.specs.Reply.{numbered, and_then}
use Rattle.arithmetic.proofs.Order.{and-true, clash}
use Rattle.arithmetic.proofs.Passed.{passed_unless, passed_then}
use Rattle.audio.specs.Bytes.{word_of, cut, words_in}
use Rattle.audio.specs.Planar.{frames_at}
use Rattle.audio.specs.Format.{size_of, samples_of}
use Rattle.audio.specs.declared.format.Format.{Format}
use Rattle.keeper.specs.Keeper.{keeping_at, ordered, stepped_of}
use Rattle.keeper.proofs.Step.{order-of}
use Rattle.envelope.specs.Row.{row_in_order}
use Rattle.envelope.specs.Step.{Enveloped, enveloped_at, gain_step_of}
use Rattle.envelope.specs.declared.env.Envelope.{Envelope}
use Rattle.envelope.proofs.Tally.{bounded}
use Rattle.envelope.proofs.Tally
use Rattle.settings.specs.Derived.{row_of}
use Rattle.settings.specs.declared.LimiterSettings.{LimiterSettings}
use Rattle.settings.specs.declared.ProcessSpec.{ProcessSpec}
use Rattle.frame.specs.Rules.{Rules, rules_of}
use Rattle.frame.specs.Frame.{Moving, frame_of}
use Rattle.frame.specs.Run.{frames_of}
use Rattle.frame.proofs.Keeps.{step_in_order}
use Rattle.limiter.specs.State.{not_set_up, spec_of, started}
use Rattle.limiter.specs.Stores.{Stores, lengths_of}
use Rattle.limiter.specs.Order
use Rattle.limiter.specs.Prepare.{prepare_refusal, LimiterLeft, limiter_left, filled_for, prepare_of}
use Rattle.limiter.specs.Reset
use Rattle.limiter.specs.Run.{moving_of, moved_on}
use Rattle.limiter.specs.declared.state.Limiter.{Limiter}
use Rattle.limiter.proofs.Frames.{order_is, Bounds, bounds_of}
use Rattle.limiter.proofs.Judge.{fit}
use Rattle.limiter.proofs.Ready.{prepared_is, reset_prepared_lem, not_prepared}
use Rattle.limiter.proofs.Setup.{setup_ready}
use Rattle.bank.specs.Smoother.{immediate_set}
use Rattle.bank.specs.Bank.{unset, set_up_of, one_changed}
use Rattle.turns.specs.Machine.{Machine, machine_of, threshold_param, prepared, target_in_range, is_in_order, reset_refusal}
use Rattle.turns.specs.Events.{Event}
use Rattle.turns.specs.Block.{rendered, runs_of, turn_by, runs_through, block_reply, block_done, Outcome, refused_as, block_by, block_of}
use Rattle.turns.specs.Drain.{drainable, silence, drain_reply, drain_done, drain_by, drain_of}
use Rattle.turns.proofs.Kernel.{Kernel, block_kernel, drain_kernel}
use Rattle.driver.specs.Calls.{Left, left, with_rest, budget_reply, setup_of, parameter_reply, parameter_of, reset_done, reset_of, gain_fits, gain_reply, gain_of, gain_done, gain_step}
use Rattle.driver.specs.declared.state.KernelProcessor.{KernelProcessor}
use Rattle.driver.proofs.Judged.{prepared_is as machine-prepared}
use Rattle.std.proofs.Common.{Ok}
use Rattle.driver.proofs.Stepped.{gain_fit, gain_ready}
use Rattle.state_bytes.specs.State.{state_words, is_state, state_in, never, processor_in, processor_of}
use Rattle.state_bytes.proofs.Storable.{Fits, LimiterFits, LimiterSmall, Storable}
use Rattle.arithmetic.proofs.Fitting.{zero-fits}
use Rattle.state_bytes.proofs.Floats.{bits_fit, one_fits, target_fits, coefficient_fits, mean_fits, followed_fits}
use Rattle.state_bytes.proofs.Finished.{reset_set_up}
use Rattle.state_bytes.proofs.Banks.{chosen, AllFit, parameter_bank, reset_bank, gain_bank, drain_bank, block_bank, unset_fits, setup_bank, read_bank}

-- ---- numbers: what 18 and 19 accept is far below 2^64
record Bounded (l : Limiter) : Type 0 where
  rate : l.rate ≤ 192000
  largest : l.max_block ≤ 65536
  more : Bounds l

bounded_of : (l : Limiter) → Order.prepared l ≡ true → Bounded l
bounded_of l h =
    let p = prepared_is l h in
    record {
      rate = leb-true l.rate 192000 (and-true (leb 8000 l.rate) (leb l.rate 192000) p.rules.rate_is).1;
      largest = leb-true l.max_block 65536 p.rules.block_is;
      more = bounds_of l h;
    }

-- ring, row and positions in order
order_small : (l : Limiter) (marks : List ℕ) (minima row : List Float) → Order.prepared l ≡ true → ordered (keeping_at l.env.keeper marks minima) ≡ true → row_in_order l.env.attack row ≡ true
    → length row ≡ row_of l.env.keeper.look → l.delay_pos < l.env.keeper.look → l.drained ≤ l.env.keeper.look → LimiterSmall l
order_small l marks minima row set_up ring rowed long place drained =
    let k = l.env.keeper in
    let b = bounded_of l set_up in
    let o = order-of k.look k.head k.len k.frame marks minima ring in
    let r = Tally.ordered l.env.attack row rowed in
    record {
      rate = omega (arith, b.rate);
      channels = omega (arith, b.more.most);
      largest = omega (arith, b.largest);
      look = omega (arith, b.more.look_most);
      head = omega (arith, b.more.look_most, o.inside);
      len = omega (arith, b.more.look_most, o.few);
      frame = omega (arith, o.frames);
      pos = omega (arith, b.more.look_most, r.place, long);
      tally = omega (arith, b.more.look_most, r.true_tally, bounded row, long);
      delay = omega (arith, b.more.look_most);
      drained = omega (arith, b.more.look_most);
    }

kernel_small : (l : Limiter) (s : Stores) → Kernel l s → LimiterSmall l
kernel_small l s k =
    let o = order_is l s.marks s.minima s.row k.order in
    order_small l s.marks s.minima s.row k.set_up o.ring_is o.row_is (fit l.channels l.env.keeper.look (lengths_of s) k.lengths).row_is o.place o.drained_most

started_small : (s : LimiterSettings) (spec : ProcessSpec) → Order.prepared (started s spec) ≡ true → LimiterSmall (started s spec)
started_small s spec h =
    let b = bounded_of (started s spec) h in
    record {
      rate = omega (arith, b.rate);
      channels = omega (arith, b.more.most);
      largest = omega (arith, b.largest);
      look = omega (arith, b.more.look_most);
      head = omega arith;
      len = omega arith;
      frame = omega arith;
      pos = omega arith;
      tally = omega arith;
      delay = omega arith;
      drained = omega arith;
    }

-- ---- floats, and the channels left out
-- the settings' are handed on; all others are computed
pub record SettingsFit (s : LimiterSettings) : Type 0 where
  pub threshold : Fits s.threshold_db
  pub margin : Fits s.true_peak_margin_db
  pub lookahead : Fits s.lookahead_ms
  pub release : Fits s.release_ms
  pub left_out_mask : s.left_out < 256

started_fits : (s : LimiterSettings) (spec : ProcessSpec) → SettingsFit s → LimiterFits (started s spec)
started_fits s spec h = record {
  threshold = h.threshold;
  margin = h.margin;
  lookahead = h.lookahead;
  release = h.release;
  left_out_mask = h.left_out_mask;
  coeff = coefficient_fits s.release_ms spec.rate;
  gain = one_fits;
  target = target_fits s.threshold_db s.true_peak_margin_db;
}

moved_fits : (l : Limiter) (e : Envelope) (pos : ℕ) (target : Float) (drained : ℕ) → LimiterFits l → Fits e.gain → Fits target → LimiterFits (moved_on l e pos target drained)
moved_fits l e pos target drained h g t = record { threshold = h.threshold; margin = h.margin; lookahead = h.lookahead; release = h.release; left_out_mask = h.left_out_mask; coeff = h.coeff; gain = g; target = t }

step_gain : (weights : List Float) (coeff : Float) (e : Enveloped) (x : Float) → Fits (gain_step_of weights coeff e x).env.gain
unfolding gain_step_of
step_gain weights coeff e x = followed_fits e.gain _ coeff (mean_fits weights _)

module _ (rules : Rules) where
  frames_gain : (weights : List Float) (coeff : Float) (look : ℕ) (target : Float) (fs : List (List Float)) (m : Moving) → Fits m.env.gain → Fits (frames_of rules weights coeff look target m fs).moving.env.gain
  unfolding frames_of frame_of
  frames_gain weights coeff look target [] m h = h
  frames_gain weights coeff look target (xs ∷ fs) m h = frames_gain weights coeff look target fs (frame_of rules weights coeff look target m xs).moving (step_gain weights coeff m.env _)

  rendered_fits : (l : Limiter) (s : Stores) (target : Float) (fs : List (List Float)) → LimiterFits l → Fits target → LimiterFits (rendered rules l s target fs).limiter
  unfolding rendered
  rendered_fits l s target fs h t = moved_fits l _ _ target 0 h (frames_gain s.weights l.release_coeff l.env.keeper.look target fs (moving_of l s) h.gain) t

  runs_fits : (ns : List ℕ) (position first : ℕ) (events : List Event) (fs : List (List Float)) (m : Machine) → LimiterFits m.limiter → LimiterFits (runs_through (rendered rules) position first ns events fs m).machine.limiter
  unfolding runs_through
  runs_fits [] position first events fs m h = h
  runs_fits (n ∷ ns) position first events fs m h =
      let t = turn_by (rendered rules) position first events (take n fs) m in
      runs_fits ns (position + n) (first + n) t.waiting (drop n fs) t.machine (rendered_fits m.limiter m.stores _ (take n fs) h (target_fits _ _))

-- ---- the calls
abbrev Stored : Machine → Type 0
Stored m = Storable (processor_of m)

module _ (m : Machine) (h : Stored m) where
  pub block_storable : (format : Format) (position frames : ℕ) (events : List Event) (bytes : List ℕ) → AllFit events → Stored (block_of format m position frames events bytes).machine
  unfolding block_by
  block_storable format position frames events bytes e =
      let rules = rules_of m.limiter.settings format in
      let reply = block_reply m position frames events (size_of format bytes) in
      let done = block_done (rendered rules) format m position frames events bytes in
      record {
        floats = chosen (λ (o : Outcome). LimiterFits o.machine.limiter) (eqb reply.number 0) done (refused_as reply m bytes)
            (λ _. runs_fits rules (runs_of position frames) position 0 events (frames_at nan frames m.limiter.channels 0 frames (samples_of format bytes)) m h.floats) h.floats;
        numbers = chosen (λ (o : Outcome). LimiterSmall o.machine.limiter) (eqb reply.number 0) done (refused_as reply m bytes)
            (λ z. kernel_small _ done.machine.stores (block_kernel rules format m frames bytes position events (eqb-true reply.number 0 z))) h.numbers;
        bank = block_bank m h.bank format position frames events bytes e;
      }

  pub drain_storable : (format : Format) (frames : ℕ) (bytes : List ℕ) → Stored (drain_of format m frames bytes).machine
  unfolding drain_by
  drain_storable format frames bytes =
      let l = m.limiter in
      let rules = rules_of l.settings format in
      let reply = drain_reply m frames (size_of format bytes) in
      let done = drain_done (rendered rules) format m frames bytes in
      let r = rendered_fits rules l m.stores l.target (silence l.channels (drainable l frames)) h.floats h.floats.target in
      record {
        floats = chosen (λ (o : Outcome). LimiterFits o.machine.limiter) (eqb reply.number 0) done (refused_as reply m bytes) (λ _. moved_fits _ _ _ _ _ r r.gain r.target) h.floats;
        numbers = chosen (λ (o : Outcome). LimiterSmall o.machine.limiter) (eqb reply.number 0) done (refused_as reply m bytes)
            (λ z. kernel_small _ done.machine.stores (drain_kernel rules format m frames bytes (eqb-true reply.number 0 z))) h.numbers;
        bank = drain_bank m h.bank format frames bytes;
      }

  pub parameter_storable : (id : ℕ) (x : Float) → Fits x → Stored (parameter_of m id x).machine
  unfolding parameter_of
  parameter_storable id x f =
      let b = eqb (parameter_reply m id x).number 0 in
      let new = machine_of m.limiter (one_changed (immediate_set x) id m.bank) m.stores in
      record {
        floats = chosen (λ (n : Machine). LimiterFits n.limiter) b new m (λ _. h.floats) h.floats;
        numbers = chosen (λ (n : Machine). LimiterSmall n.limiter) b new m (λ _. h.numbers) h.numbers;
        bank = parameter_bank m h.bank id x f;
      }

  pub reset_storable : Stored (reset_of m).machine
  unfolding reset_of Reset.reset_of
  reset_storable =
      let l = m.limiter in
      let b = eqb (reset_refusal m) 0 in
      record {
        floats = chosen (λ (n : Machine). LimiterFits n.limiter) b (reset_done m) m
            (λ _. started_fits l.settings (spec_of l) (record { threshold = h.floats.threshold; margin = h.floats.margin; lookahead = h.floats.lookahead; release = h.floats.release; left_out_mask = h.floats.left_out_mask })) h.floats;
        numbers = chosen (λ (n : Machine). LimiterSmall n.limiter) b (reset_done m) m
            (λ z. started_small l.settings (spec_of l) (reset_prepared_lem l (machine-prepared l m.bank (reset_set_up m (eqb-true (reset_refusal m) 0 z))).kernel)) h.numbers;
        bank = reset_bank m h.bank;
      }

  step_small : (x : Float) → gain_reply m ≡ 0 → LimiterSmall (gain_done m (gain_of m x)).machine.limiter
  unfolding gain_reply is_in_order Order.prepared gain_step_of stepped_of
  step_small x z =
      let l = m.limiter in
      let s = m.stores in
      let e = enveloped_at l.env s.marks s.minima s.row in
      let p = passed_unless (prepared l m.bank) 17 _ z in
      let f = passed_unless (gain_fits l s) 15 _ p.1 in
      let k = Order.is_in_order l s.marks s.minima s.row in
      let q = passed_unless (k && target_in_range m.bank) 18 _ f.1 in
      let o = order_is l s.marks s.minima s.row (and-true k (target_in_range m.bank) q.0).0 in
      let after = step_in_order s.weights e l.release_coeff x (gain_ready m x (Ok tt) (ap numbered (sym z)) tt refl) in
      order_small (gain_done m (gain_of m x)).machine.limiter _ _ _ (machine-prepared l m.bank p.0).kernel after.in_order after.row (sym after.weighed ∙ (gain_fit l s f.0).weights_is) o.place o.drained_most

  pub gain_storable : (x : Float) → Stored (gain_step m x).machine
  unfolding gain_step
  gain_storable x =
      let l = m.limiter in
      let b = eqb (gain_reply m) 0 in
      let done = gain_done m (gain_of m x) in
      let kept = left (numbered (gain_reply m)) m in
      record {
        floats = chosen (λ (o : Left). LimiterFits o.machine.limiter) b done kept
            (λ _. moved_fits l _ l.delay_pos l.target l.drained h.floats (step_gain m.stores.weights l.release_coeff _ x) h.floats.target) h.floats;
        numbers = chosen (λ (o : Left). LimiterSmall o.machine.limiter) b done kept (λ e. step_small x (eqb-true (gain_reply m) 0 e)) h.numbers;
        bank = gain_bank m h.bank x;
      }

-- ---- setup
never_fits : LimiterFits not_set_up
never_fits = record { threshold = zero-fits; margin = zero-fits; lookahead = zero-fits; release = zero-fits; left_out_mask = omega arith; coeff = zero-fits; gain = one_fits; target = zero-fits }

never_small : LimiterSmall not_set_up
never_small = record {
  rate = omega arith;
  channels = omega arith;
  largest = omega arith;
  look = omega arith;
  head = omega arith;
  len = omega arith;
  frame = omega arith;
  pos = omega arith;
  tally = omega arith;
  delay = omega arith;
  drained = omega arith;
}

pub never_storable : Storable never
never_storable = record { floats = never_fits; numbers = never_small; bank = unset_fits }

module _ (s : LimiterSettings) (spec : ProcessSpec) (stores : Stores) (h : SettingsFit s) where
  abbrev own : LimiterLeft
  own = prepare_of s (with_rest spec) stores

  own_fits : LimiterFits own.limiter
  unfolding prepare_of
  own_fits =
      let r = prepare_refusal s (with_rest spec) (lengths_of stores) stores.weights in
      chosen (λ (o : LimiterLeft). LimiterFits o.limiter) (eqb r.number 0) (limiter_left r (started s (with_rest spec)) (filled_for s (with_rest spec) stores)) (limiter_left r not_set_up stores) (λ _. started_fits s (with_rest spec) h) never_fits

  -- a finished setup's numbers, and its rate
  own_small : Order.prepared own.limiter ≡ true → LimiterSmall own.limiter × (spec.rate < 2 ^ 32)
  unfolding prepare_of
  own_small =
      let r = prepare_refusal s (with_rest spec) (lengths_of stores) stores.weights in
      chosen (λ (o : LimiterLeft). Order.prepared o.limiter ≡ true → LimiterSmall o.limiter × (spec.rate < 2 ^ 32)) (eqb r.number 0) (limiter_left r (started s (with_rest spec)) (filled_for s (with_rest spec) stores)) (limiter_left r not_set_up stores)
      (λ _ p. (started_small s (with_rest spec) p, omega (arith, (bounded_of (started s (with_rest spec)) p).rate))) (λ p. clash (Order.prepared not_set_up) p not_prepared)

  pub setup_storable : Stored (setup_of s spec stores).machine
  unfolding setup_of
  setup_storable =
      let b = set_up_of (replicate 8 (threshold_param s)) 1 spec.rate in
      let reply = and_then b.reply (and_then (budget_reply spec.cap) own.reply) in
      chosen Stored (eqb reply.number 0) (machine_of own.limiter b.bank own.stores) (machine_of not_set_up unset stores)
      (λ e.
      let p = passed_then b.reply (and_then (budget_reply spec.cap) own.reply) (eqb-true reply.number 0 e) in
      let q = own_small (setup_ready s (with_rest spec) stores (passed_then (budget_reply spec.cap) own.reply p.1).1).0 in
      record { floats = own_fits; numbers = q.0; bank = setup_bank s spec.rate h.threshold q.1 })
      never_storable

-- ---- what is read out of bytes
word_small : (n : ℕ) (bytes : List ℕ) → ((i : ℕ) → get_or bytes i 0 < 256) → word_of (take n bytes) < 256 ^ n
unfolding word_of
word_small zero bytes h = omega arith
word_small (suc n) [] h = rw (pow-suc 256 n) (omega (arith, one-le-pow n 256 (omega arith)))
word_small (suc n) (b ∷ bytes) h = rw (pow-suc 256 n) (omega (arith, h 0, word_small n bytes (λ i. h (suc i))))

words_in_small : (n : ℕ) (bytes : List ℕ) → ((i : ℕ) → get_or bytes i 0 < 256) → (i : ℕ) → get_or (words_in 8 n bytes) i 0 < 2 ^ 64
unfolding cut
words_in_small zero bytes h i = omega arith
words_in_small (suc n) bytes h zero = word_small 8 bytes h
words_in_small (suc n) bytes h (suc i) = words_in_small n (drop 8 bytes) (λ j. rw (get_or-drop 8 bytes j 0) (h (8 + j))) i

pub read_storable : (state : List ℕ) → ((i : ℕ) → get_or state i 0 < 256) → Storable (processor_in state)
unfolding processor_in state_in
read_storable state bytes =
    let w = words_in_small state_words state bytes in
    let held = state_in (words_in 8 state_words state) in
    record {
      floats = chosen (λ (p : KernelProcessor). LimiterFits p.limiter) (is_state state) held never
          (λ _. record { threshold = bits_fit _; margin = bits_fit _; lookahead = bits_fit _; release = bits_fit _; left_out_mask = mod-lt _ (omega arith); coeff = bits_fit _; gain = bits_fit _; target = bits_fit _ }) never_fits;
      numbers = chosen (λ (p : KernelProcessor). LimiterSmall p.limiter) (is_state state) held never
          (λ _. record {
            rate = mod-lt _ (omega arith);
            channels = w 6;
            largest = w 7;
            look = w 9;
            head = w 10;
            len = w 11;
            frame = w 12;
            pos = w 13;
            tally = w 14;
            delay = w 16;
            drained = w 18;
          }) never_small;
      bank = read_bank state w;
    }
