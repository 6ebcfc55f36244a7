-- The lone gain step, proved: the envelope's tie to its gains (Floors) and what 18, 16 and 19 judge, kept from step to step.
use mathlib.Core.Path.{◌≡◌, refl, sym, ap, subst, ◌∙◌}
use mathlib.Core.Bool.{true, false, cond}
use mathlib.Core.List.{List, [], ◌∷◌}
use Prim.Native.Nat.{ℕ, ◌+◌, ◌≤◌, ◌<◌}
use native.Mathlib.Decide.{dec_lt}
use native.Mathlib.Omega.{arith}
use lib.Dec.{leb, ltb}
use lib.ListN.{length}
use lib.Ieee.{Float}
use borrow.Author.Tests.{eq-eqb, ne_eqb, le-leb, lt-ltb, lt-leb, le-ltb}
use Rattle.arithmetic.specs.Number
use Rattle.arithmetic.specs.Number.{one, within}
use Rattle.arithmetic.specs.Sanitize.{unit_gain}
use Rattle.arithmetic.specs.Reply.{Reply, numbered, unless}
use Rattle.keeper.specs.InOrder.{most_frames}
use Rattle.keeper.specs.History.{drops_in}
use Rattle.envelope.specs.Step.{Enveloped, enveloped_at, GainStepped, gain_step_of}
use Rattle.envelope.proofs.Gain.{gain_unit}
use Rattle.settings.specs.Derived.{row_of}
use Rattle.frame.specs.Rules.{linking_of}
use Rattle.limiter.specs.Stores.{lengths_of}
use Rattle.limiter.specs.Order
use Rattle.limiter.proofs.Judge.{Fit, fit}
use Rattle.limiter.proofs.Frames.{order_is}
use Rattle.bank.specs.declared.smoother.Smoother.{Smoother}
use Rattle.turns.specs.Machine.{Machine, is_in_order}
use Rattle.driver.specs.Calls.{Left, left, gain_reply, gain_of, gain_done, gain_step}
use Rattle.claims.specs.GainSteps.{Told, GainHolds, taking, GainsHold, GainClaim}
use Rattle.claims.proofs.Floors.{EnvTied, StepTied, env_kept, env_step}
use Rattle.turns.proofs.Kernel.{Kernel}
use Rattle.claims.proofs.Machines.{Whole, first_slot, whole_set_up, whole_ready}
use Rattle.claims.proofs.Calls.{Tied, tied_whole, none_counted}
use Rattle.claims.proofs.Starts.{reset_answers, reset_opened}
use Rattle.claims.proofs.Setups.{setup_tied}
use Rattle.claims.specs.Book.{Book, look_in, coeff_in, required_of, kept_in}

-- the envelope with its stores
abbrev env_of : Machine → Enveloped
env_of m = enveloped_at m.limiter.env m.stores.marks m.stores.minima m.stores.row

-- state and stores that have taken these gains since the start
record GainsTied (t : Smoother) (look : ℕ) (m : Machine) (gains : List Float) : Type 0 where
  whole : Whole t m
  env : EnvTied look m.stores.weights m.limiter.release_coeff (env_of m) gains

module _ (t : Smoother) (look : ℕ) (m : Machine) (gains : List Float) (x : Float) (k : GainsTied t look m gains) where
  lengths_fit_lem : Fit m.limiter.channels m.limiter.env.keeper.look (lengths_of m.stores)
  lengths_fit_lem = fit m.limiter.channels m.limiter.env.keeper.look (lengths_of m.stores) k.whole.kernel.lengths

  -- what is left to judge is the room
  reply_is : gain_reply m ≡ unless (leb (m.limiter.env.keeper.frame + 1) most_frames) 22 0
  unfolding gain_reply is_in_order
  reply_is =
      let f = lengths_fit_lem in
      let n = m.limiter.env.keeper.look in
      let s = m.stores in
      rw (whole_set_up m t k.whole, eq-eqb (length s.marks) (n + 1) f.marks_is, eq-eqb (length s.minima) (n + 1) f.minima_is, eq-eqb (length s.weights) (row_of n) f.weights_is, eq-eqb (length s.row) (row_of n) f.row_is, k.whole.kernel.order, first_slot t m.bank k.whole.one.slots, k.whole.sound.inside) refl

  room_left : gain_reply m ≡ cond (ltb (length gains) most_frames) 0 22
  room_left = elim (dec_lt (length gains) most_frames) [
    | yes h ↦ rw (lt-ltb (length gains) most_frames h) (reply_is ∙ rw (le-leb (m.limiter.env.keeper.frame + 1) most_frames (omega (arith, k.env.follows.frame))) refl)
    | no h ↦ rw (le-ltb (length gains) most_frames (omega arith)) (reply_is ∙ rw (lt-leb (m.limiter.env.keeper.frame + 1) most_frames (omega (arith, k.env.follows.frame))) refl)
  ]

  spent_is : most_frames ≤ length gains → gain_step m x ≡ left (numbered 22) m
  unfolding gain_step
  spent_is h =
      let full : leb (m.limiter.env.keeper.frame + 1) most_frames ≡ false = lt-leb (m.limiter.env.keeper.frame + 1) most_frames (omega (arith, k.env.follows.frame)) in
      rw (reply_is, full) refl

  module _ (room : length gains < most_frames) where
    abbrev stepped_to : GainStepped
    stepped_to = gain_of m x

    finished_is : gain_step m x ≡ gain_done m stepped_to
    unfolding gain_step
    finished_is = rw (reply_is, le-leb (m.limiter.env.keeper.frame + 1) most_frames (omega (arith, k.env.follows.frame))) refl

    step : StepTied look m.stores.weights m.limiter.release_coeff (env_of m) x gains
    step = env_step look m.stores.weights m.limiter.release_coeff (env_of m) x gains k.env room

    abbrev left_machine : Machine
    left_machine = (gain_done m stepped_to).machine

    same_look : stepped_to.env.keeping.keeper.look ≡ m.limiter.env.keeper.look
    same_look = step.env.look_is ∙ sym k.env.look_is

    gain_inside : within Number.zero one stepped_to.env.gain ≡ true
    unfolding gain_step_of
    gain_inside = gain_unit m.limiter.env.gain stepped_to.mean m.limiter.release_coeff

    kernel_after : Kernel left_machine.limiter left_machine.stores
    unfolding Order.prepared Order.is_in_order
    kernel_after =
        let l = m.limiter in
        let s = m.stores in
        let o = order_is l s.marks s.minima s.row k.whole.kernel.order in
        let f = lengths_fit_lem in
        let e = step.env in
        let look-now = stepped_to.env.keeping.keeper.look in
        let marks : length stepped_to.env.keeping.marks ≡ length s.marks = rw (e.follows.marks_fit, same_look, f.marks_is) refl in
        let minima : length stepped_to.env.keeping.minima ≡ length s.minima = rw (e.follows.minima_fit, same_look, f.minima_is) refl in
        let row : length stepped_to.env.rowed.row ≡ length s.row = e.row_fit ∙ sym k.env.row_fit in
        record {
          set_up = rw same_look k.whole.kernel.set_up;
          lengths = rw (marks, minima, row, same_look) k.whole.kernel.lengths;
          order = rw (e.follows.in_order, e.row, gain_inside, lt-ltb l.delay_pos look-now (rw same_look o.place), le-leb l.drained look-now (rw same_look o.drained_most), o.target_is) refl;
        }

    tied_after : GainsTied t look left_machine (unit_gain x ∷ gains)
    tied_after = record {
      whole = record { kernel = kernel_after; one = k.whole.one; rate = k.whole.rate; sound = k.whole.sound };
      env = step.env;
    }

    kept_after_lem : stepped_to.env.keeping.keeper.len ≡ kept_in look (unit_gain x ∷ gains)
    kept_after_lem = env_kept look m.stores.weights m.limiter.release_coeff stepped_to.env (unit_gain x ∷ gains) step.env

-- what the step tells and leaves
module _ (t : Smoother) (look : ℕ) (m : Machine) (gains : List Float) (x : Float) (k : GainsTied t look m gains) (room : length gains < most_frames) where
  told : (drops : ℕ) → drops + m.limiter.env.keeper.len ≡ length gains → Told look m.stores.weights m.limiter.release_coeff drops (unit_gain x) gains m (gain_done m (gain_of m x))
  told drops c =
      let s = step t look m gains x k room in
      let kept = kept_after_lem t look m gains x k room in
      let after = tied_after t look m gains x k room in
      let n = (gain_done m (gain_of m x)).machine in
      record {
        dropped = (gain_of m x).dropped;
        reply = rw (s.floor, kept, s.tally, s.mean, s.env.gain) refl;
        counted = omega (arith, s.dropped, kept);
        kept = kept;
        ready = whole_ready n t after.whole;
        next = room_left t look n (unit_gain x ∷ gains) x after;
        apart = refl;
      }

-- ---- lists
module _ (t : Smoother) (look : ℕ) where
  abbrev Held : List Float → ℕ → List Float → Machine → Type 0
  Held xs drops gains m = GainsHold (λ n x. gain_step n x) look m.stores.weights m.limiter.release_coeff drops gains m xs

  abbrev Holding : List Float → Type 0
  Holding xs = (drops : ℕ) (gains : List Float) (m : Machine) → GainsTied t look m gains → drops + m.limiter.env.keeper.len ≡ length gains → Held xs drops gains m

  -- one more
  holding_more : (x : Float) (xs : List Float) → Holding xs → Holding (x ∷ xs)
  holding_more x xs later drops gains m k c = go (dec_lt (length gains) most_frames)
    where
      -- this step and the rest, after these gains, of what it leaves
      Both : List Float → Left → Type 0
      Both taken l =
          GainHolds look m.stores.weights m.limiter.release_coeff drops (unit_gain x) gains m l
          × GainsHold (λ n y. gain_step n y) look m.stores.weights m.limiter.release_coeff (drops + drops_in l.reply.values) taken l.machine xs

      go : Dec (length gains < most_frames) → Both (taking (unit_gain x) gains) (gain_step m x)
      go (yes room) =
          rw (lt-ltb (length gains) most_frames room)
          (subst (Both (unit_gain x ∷ gains)) (sym (finished_is t look m gains x k room)) (
            record { told = λ h. told t look m gains x k room drops c; spent = λ h. absurd (omega arith) },
            later (drops + (gain_of m x).dropped) (unit_gain x ∷ gains) (gain_done m (gain_of m x)).machine (tied_after t look m gains x k room) (omega (arith, (step t look m gains x k room).dropped)),
          ))
      go (no full) =
          rw (le-ltb (length gains) most_frames (omega arith))
          (subst (Both gains) (sym (spent_is t look m gains x k (omega arith))) (
            record { told = λ h. absurd (omega arith); spent = λ h. refl },
            subst (λ (d : ℕ). Held xs d gains m) (omega arith) (later drops gains m k c),
          ))

  gains_hold : (xs : List Float) → Holding xs
  gains_hold [] = λ drops gains m k c. tt
  gains_hold (x ∷ xs) = holding_more x xs (gains_hold xs)

-- ---- the claim
opened_gains : (b : Book) (m : Machine) → Tied b m → required_of (linking_of b.settings) b.spec.channels b.frames ≡ [] → length b.frames ≡ 0 → (xs : List Float)
    → GainsHold (λ n x. gain_step n x) (look_in b) b.weights (coeff_in b) 0 [] m xs
opened_gains b m t none empty xs =
    subst (λ (ws : List Float). GainsHold (λ n x. gain_step n x) (look_in b) ws (coeff_in b) 0 [] m xs) t.weights
    (subst (λ (c : Float). GainsHold (λ n x. gain_step n x) (look_in b) m.stores.weights c 0 [] m xs) t.coeff
    (gains_hold b.threshold (look_in b) xs 0 [] m (record { whole = tied_whole b m t; env = env }) (none_counted b m t empty ∙ empty)))
  where
    env : EnvTied (look_in b) m.stores.weights m.limiter.release_coeff (env_of m) []
    env =
        subst (λ (ws : List Float). EnvTied (look_in b) ws m.limiter.release_coeff (env_of m) []) (sym t.weights)
        (subst (λ (c : Float). EnvTied (look_in b) b.weights c (env_of m) []) (sym t.coeff)
        (subst (λ (gs : List Float). EnvTied (look_in b) b.weights (coeff_in b) (env_of m) gs) none t.moving.env))

first_judged : (m : Machine) (x : Float) → (gain_reply m ≡ 0 → ⊥) → gain_step m x ≡ left (numbered (gain_reply m)) m
unfolding gain_step
first_judged m x some = rw (ne_eqb (gain_reply m) 0 some) refl

pub gain_claim : GainClaim (λ m x. gain_step m x)
unfolding required_of
gain_claim = record {
  after_setup = λ s spec stores z xs. opened_gains _ _ (setup_tied s spec stores z) refl refl xs;
  after_reset = λ m z xs. opened_gains _ _ (reset_opened m (sym (ap (λ (r : Reply). r.number) (reset_answers m)) ∙ z)) refl refl xs;
  judged = first_judged;
}
