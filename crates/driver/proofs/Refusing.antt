-- What a block or a drain refuses, from what the code finds; and what it may do where nothing is refused.
use mathlib.Core.Path.{◌≡◌, refl, sym, ap, ◌∙◌}
use mathlib.Core.Bool.{Bool, true, false, ◌&&◌}
use mathlib.Core.List.{List}
use Prim.Native.Nat.{ℕ, ◌+◌, ◌-◌, ◌*◌, ◌≤◌}
use native.Mathlib.Nat.{mul-le-mul_right}
use native.Mathlib.Omega.{arith}
use lib.Dec.{eqb, leb}
use Rattle.std.proofs.Common.{Result, Ok, Err}
use borrow.Author.Tests.{eqb-true, eq-eqb, leb-true, leb-false, le-leb, lt-leb}
use Rattle.arithmetic.specs.Reply.{Reply, numbered, unless, and_then, must}
use Rattle.arithmetic.proofs.Order.{and-true}
use Rattle.arithmetic.proofs.Passed.{passed_must, passed_then}
use Rattle.audio.specs.Format.{size_of, written_bytes}
use Rattle.audio.specs.declared.format.Format.{Format}
use Rattle.keeper.specs.InOrder.{most_frames}
use Rattle.limiter.specs.Order
use Rattle.limiter.specs.Stores.{Stores}
use Rattle.limiter.specs.declared.state.Limiter.{Limiter}
use Rattle.limiter.proofs.Frames.{bounds_of, order_is}
use Rattle.limiter.proofs.Ready
use Rattle.turns.specs.Machine.{Machine, machine_of, prepared, fits, is_in_order, target_in_range, ready_refusal}
use Rattle.turns.specs.Events.{Event, events_reply}
use Rattle.turns.specs.Block.{outputs_of, sized, has_room, reaches, farthest, call_reply, block_reply, rendered_in, block_done, block_by, block_of}
use Rattle.turns.specs.Drain.{longest_drain, drain_reply, drainable, with_drained, drain_by, drain_of}
use Rattle.turns.specs.Inner.{RunsReady, BlockAsked, silent, DrainAsked}
use Rattle.driver.specs.Answers.{refused_by, answer_reply, flush_reply, seen}
use Rattle.driver.specs.declared.answers.Refusal.{Refusal}
use Rattle.driver.proofs.Judged.{prepared_is}

-- ---- replies in turn
-- a first reply that is refused stands, and one that is finished gives way
module _ (r first next : Reply) (R : r ≡ first) (b : Bool) (B : b ≡ eqb r.number 0) where
  pub first_refused : b ≡ false → r ≡ and_then first next
  first_refused f = R ∙ rw (ap (λ (x : Reply). eqb x.number 0) (sym R) ∙ sym B ∙ f) refl

  pub first_passed : b ≡ true → (s : Reply) → s ≡ next → s ≡ and_then first next
  first_passed f s S = S ∙ rw (ap (λ (x : Reply). eqb x.number 0) (sym R) ∙ sym B ∙ f) refl

  pub first_finished : b ≡ true → first.number ≡ 0
  first_finished f = sym (ap (λ (x : Reply). x.number) R) ∙ eqb-true r.number 0 (sym B ∙ f)

-- ---- 18, 16 and 19
module _ (m : Machine) where
  -- what they say
  pub ready_is : ready_refusal m ≡ 0 → (left : ℕ) → m.limiter.env.keeper.frame + left ≤ most_frames → RunsReady m.limiter left m.stores
  unfolding ready_refusal is_in_order
  ready_is z left room = go (prepared m.limiter m.bank) (fits m) (Order.is_in_order m.limiter m.stores.marks m.stores.minima m.stores.row) (target_in_range m.bank) refl refl refl z
    where
      go : (p f o t : Bool) → prepared m.limiter m.bank ≡ p → fits m ≡ f → Order.is_in_order m.limiter m.stores.marks m.stores.minima m.stores.row ≡ o
          → unless p 18 (unless f 16 (unless (o && t) 19 0)) ≡ 0 → RunsReady m.limiter left m.stores
      go true true true t P F O y = record { set_up = (prepared_is m.limiter m.bank P).kernel; lengths = F; order = O; room = room }
      go true true false t P F O y = absurd (omega (arith, y))
      go true false o t P F O y = absurd (omega (arith, y))
      go false f o t P F O y = absurd (omega (arith, y))

  pub ready_kernel : ready_refusal m ≡ 0 → Order.prepared m.limiter ≡ true
  unfolding ready_refusal
  ready_kernel z = go (prepared m.limiter m.bank) refl z
    where
      go : (p : Bool) → prepared m.limiter m.bank ≡ p → unless p 18 (unless (fits m) 16 (unless (is_in_order m) 19 0)) ≡ 0 → Order.prepared m.limiter ≡ true
      go true P y = (prepared_is m.limiter m.bank P).kernel
      go false P y = absurd (omega (arith, y))

-- the largest block that setup takes
pub block_most : (l : Limiter) → Order.prepared l ≡ true → l.max_block ≤ 65536
block_most l h = leb-true l.max_block 65536 (Ready.prepared_is l h).rules.block_is

-- channels × frames does not wrap
pub size_most : (l : Limiter) (frames : ℕ) → Order.prepared l ≡ true → frames ≤ 65536 → l.channels * frames ≤ 524288
size_most l frames h s =
    let a : l.channels * frames ≤ 8 * frames = mul-le-mul_right frames (bounds_of l h).most in
    omega (arith, a)

-- a test that subtracts is the test that adds
pub less_room : (x n most : ℕ) → n ≤ most → leb x (most - n) ≡ leb (x + n) most
less_room x n most h = go (leb (x + n) most) refl
  where
    go : (b : Bool) → leb (x + n) most ≡ b → leb x (most - n) ≡ b
    go true e = le-leb x (most - n) (omega (arith, leb-true (x + n) most e))
    go false e = lt-leb x (most - n) (omega (arith, leb-false (x + n) most e))

-- ---- 21 and 22 of a block, where 20 does not arise
module _ (m : Machine) (position frames : ℕ) (events : List Event) (size : ℕ) (h : frames ≤ m.limiter.max_block) (e : size ≡ m.limiter.channels * frames) where
  module _ (r : Reply) (R : r ≡ events_reply frames 0 0 events) (b : Bool) (B : b ≡ eqb r.number 0) where
    pub event_refused : b ≡ false → r ≡ call_reply m position frames events size
    event_refused f = rw (le-leb frames m.limiter.max_block h, eq-eqb size (m.limiter.channels * frames) e, ← R, sym B ∙ f) refl

    pub far_judged : Order.prepared m.limiter ≡ true → b ≡ true → (t : Bool) → leb position (farthest - frames) && leb m.limiter.env.keeper.frame (most_frames - frames) ≡ t
        → must t 22 ≡ call_reply m position frames events size
    far_judged p f t T =
        let few = block_most m.limiter p in
        let x = less_room position frames farthest (omega (arith, few, h)) in
        let y = less_room m.limiter.env.keeper.frame frames most_frames (omega (arith, few, h)) in
        rw (le-leb frames m.limiter.max_block h, eq-eqb size (m.limiter.channels * frames) e, ← R, sym B ∙ f, ← T, x, y) refl

-- ---- what a block leaves
module _ (format : Format) (m : Machine) (position frames : ℕ) (events : List Event) (bytes : List ℕ) (size : ℕ) (S : size ≡ size_of format bytes) (r : Reply) (R : r ≡ block_reply m position frames events size) (b : Bool) (B : b ≡ eqb r.number 0) where
  pub passed : b ≡ true → eqb r.number 0 ≡ true
  passed f = sym B ∙ f

  reply_is : block_reply m position frames events (size_of format bytes) ≡ r
  reply_is = ap (block_reply m position frames events) (sym S) ∙ sym R

  pub block_left : b ≡ false → record { reply = r; machine = m; bytes = bytes } ≡ seen (block_of format m position frames events bytes)
  unfolding block_by
  block_left f = rw (reply_is, sym B ∙ f) refl

  -- where nothing is refused
  pub block_asks : b ≡ true → BlockAsked m format position frames bytes
  unfolding block_reply
  block_asks f =
      let z = ap (λ (x : Reply). x.number) (sym R) ∙ eqb-true r.number 0 (passed f) in
      let l = m.limiter in
      let geometry = must (sized m l.max_block frames size) 20 in
      let far = must (reaches position frames && has_room m frames) 22 in
      let a = passed_then (numbered (ready_refusal m)) (and_then geometry (and_then (events_reply frames 0 0 events) far)) z in
      let b = passed_then geometry (and_then (events_reply frames 0 0 events) far) a.1 in
      let c = passed_then (events_reply frames 0 0 events) far b.1 in
      let g = and-true (leb frames l.max_block) (eqb size (l.channels * frames)) (passed_must (sized m l.max_block frames size) 19 b.0) in
      let o = and-true (reaches position frames) (has_room m frames) (passed_must (reaches position frames && has_room m frames) 21 c.1) in
      let few = leb-true frames l.max_block g.0 in
      record {
        ready = ready_is m a.0 frames (leb-true (l.env.keeper.frame + frames) most_frames o.1);
        lends = record { short = omega (arith, few, block_most l (ready_kernel m a.0)); audio_fit = sym S ∙ eqb-true size (l.channels * frames) g.1 };
        far = leb-true (position + frames) farthest o.0;
      }

  pub block_finished : (told : Reply) (m' : Machine) (bytes' : List ℕ) → b ≡ true → (let o = block_done (rendered_in format m) format m position frames events bytes in told ≡ o.reply → m' ≡ o.machine → bytes' ≡ o.bytes
      → record { reply = told; machine = m'; bytes = bytes' } ≡ seen (block_of format m position frames events bytes))
  unfolding block_by
  block_finished told m' bytes' f T M A = rw (reply_is, passed f, T, M, A) refl

-- ---- no refusal is finished work
pub refused_some : (why : Refusal) → eqb (refused_by why).number 0 ≡ false
refused_some Refusal.NotSetUp = refl
refused_some Refusal.StoreLength = refl
refused_some Refusal.OutOfOrder = refl
refused_some Refusal.Geometry = refl
refused_some (Refusal.Event i) = refl
refused_some Refusal.TooFar = refl

-- ---- what a drain leaves
module _ (format : Format) (m : Machine) (frames : ℕ) (bytes : List ℕ) (size : ℕ) (S : size ≡ size_of format bytes) (r : Result (Unit {0}) Refusal) (N : answer_reply r ≡ drain_reply m frames size) where
  abbrev l : Limiter
  l = m.limiter

  drain_reply_is : drain_reply m frames (size_of format bytes) ≡ answer_reply r
  drain_reply_is = ap (drain_reply m frames) (sym S) ∙ sym N

  pub drain_left_lem : (why : Refusal) → r ≡ Err why → record { reply = refused_by why; machine = m; bytes = bytes } ≡ seen (drain_of format m frames bytes)
  unfolding drain_by
  drain_left_lem why W = rw (drain_reply_is, W, refused_some why) refl

  -- where nothing is refused
  module _ (u : Unit {0}) (F : r ≡ Ok u) where
    pub record Drainable : Type 0 where
      pub ready : RunsReady l frames m.stores
      pub short : frames ≤ longest_drain
      pub audio_fit : size_of format bytes ≡ l.channels * frames
      pub drained_most : l.drained ≤ l.env.keeper.look
      pub look_most : l.env.keeper.look ≤ 4096

    pub drain_may : Drainable
    unfolding drain_reply
    drain_may =
        let geometry = must (sized m longest_drain frames size) 20 in
        let far = must (has_room m frames) 22 in
        let a = passed_then (numbered (ready_refusal m)) (and_then geometry far) (ap (λ (x : Reply). x.number) (sym N ∙ ap answer_reply F)) in
        let b = passed_then geometry far a.1 in
        let g = and-true (leb frames longest_drain) (eqb size (l.channels * frames)) (passed_must (sized m longest_drain frames size) 19 b.0) in
        let r = ready_is m a.0 frames (leb-true (l.env.keeper.frame + frames) most_frames (passed_must (has_room m frames) 21 b.1)) in
        record {
          ready = r;
          short = leb-true frames longest_drain g.0;
          audio_fit = sym S ∙ eqb-true size (l.channels * frames) g.1;
          drained_most = (order_is l m.stores.marks m.stores.minima m.stores.row r.order).drained_most;
          look_most = (bounds_of l r.set_up).look_most;
        }

    pub drain_asked : (k : ℕ) → k ≡ drainable l frames → DrainAsked l format k frames m.stores bytes
    drain_asked k K =
        let a = drain_may in
        record {
          ready = record { set_up = a.ready.set_up; lengths = a.ready.lengths; order = a.ready.order; room = omega (arith, a.ready.room, K) };
          lends = record { short = a.short; audio_fit = a.audio_fit };
          tail = omega (arith, K, a.drained_most);
          inside = omega (arith, K);
        }

    pub drain_finished : (k : ℕ) (done : Bool) (after : Limiter) (stores : Stores) (bytes' : List ℕ) → k ≡ drainable l frames → done ≡ leb l.env.keeper.look (l.drained + k)
        → (let o = silent format l m.stores k in after ≡ with_drained o.limiter (l.drained + k) → stores ≡ o.stores → bytes' ≡ written_bytes format frames l.channels k bytes (outputs_of o.frames)
        → record { reply = flush_reply (Ok (record { written = k; done = done })); machine = machine_of after m.bank stores; bytes = bytes' } ≡ seen (drain_of format m frames bytes))
    unfolding drain_by
    drain_finished k done after stores bytes' K D A T W = rw (drain_reply_is, F, A, T, W, D, K) refl
