-- The lone gain step: its refusals in turn, what the envelope's step asks, and what it leaves.
use mathlib.Core.Path.{◌≡◌, refl, sym, ap, ◌∙◌}
use mathlib.Core.Bool.{Bool, true, false, ◌&&◌}
use Prim.Native.Nat.{ℕ, ◌+◌}
use lib.Dec.{eqb}
use lib.ListN.{length}
use lib.Ieee.{Float}
use Rattle.std.proofs.Common.{Result, Ok, Err}
use borrow.Author.Tests.{eqb-true, leb-true}
use Rattle.arithmetic.proofs.Order.{and-true}
use Rattle.arithmetic.proofs.Passed.{passed_unless}
use Rattle.keeper.specs.InOrder.{most_frames}
use Rattle.envelope.specs.Step.{GainStepped, enveloped_at, EnvReady}
use Rattle.arithmetic.specs.Reply.{Reply, numbered, must}
use Rattle.settings.specs.Derived.{row_of}
use Rattle.limiter.specs.Stores.{Stores}
use Rattle.limiter.specs.Order
use Rattle.limiter.specs.declared.state.Limiter.{Limiter}
use Rattle.limiter.proofs.Frames.{order_is}
use Rattle.turns.specs.Machine.{Machine, prepared, is_in_order, target_in_range}
use Rattle.turns.specs.Block.{has_room}
use Rattle.driver.specs.Calls.{left, gain_fits, gain_reply, gain_of, gain_done, gain_step}
use Rattle.driver.specs.Answers.{refused_by, answer_reply}
use Rattle.driver.specs.declared.answers.Refusal.{Refusal}
use Rattle.driver.proofs.Refusing.{refused_some}

-- ---- 16 of the four stores
pub record GainFit (l : Limiter) (s : Stores) : Type 0 where
  pub marks_is : length s.marks ≡ l.env.keeper.look + 1
  pub minima_is : length s.minima ≡ l.env.keeper.look + 1
  pub weights_is : length s.weights ≡ row_of l.env.keeper.look
  pub row_is : length s.row ≡ row_of l.env.keeper.look

pub gain_fit : (l : Limiter) (s : Stores) → gain_fits l s ≡ true → GainFit l s
gain_fit l s h =
    let look = l.env.keeper.look in
    let m = eqb (length s.marks) (look + 1) in
    let n = eqb (length s.minima) (look + 1) in
    let w = eqb (length s.weights) (row_of look) in
    let r = eqb (length s.row) (row_of look) in
    let a = and-true (m && n && w) r h in
    let b = and-true (m && n) w a.0 in
    let c = and-true m n b.0 in
    record {
      marks_is = eqb-true (length s.marks) (look + 1) c.0;
      minima_is = eqb-true (length s.minima) (look + 1) c.1;
      weights_is = eqb-true (length s.weights) (row_of look) b.1;
      row_is = eqb-true (length s.row) (row_of look) a.1;
    }

-- ---- 18, 16, 19, 22 in turn
module _ (m : Machine) where
  abbrev kernel : Bool
  kernel = Order.is_in_order m.limiter m.stores.marks m.stores.minima m.stores.row

  pub gain_not_set_up : prepared m.limiter m.bank ≡ false → numbered 18 ≡ numbered (gain_reply m)
  unfolding gain_reply
  gain_not_set_up h = rw h refl

  module _ (h : prepared m.limiter m.bank ≡ true) (f : Bool) (F : f ≡ gain_fits m.limiter m.stores) where
    pub gain_lengths : f ≡ false → numbered 16 ≡ numbered (gain_reply m)
    unfolding gain_reply
    gain_lengths z = rw (h, ← F, z) refl

    module _ (z : f ≡ true) (k t : Bool) (K : k ≡ kernel) (T : t ≡ target_in_range m.bank) where
      pub gain_disorder : k && t ≡ false → numbered 19 ≡ numbered (gain_reply m)
      unfolding gain_reply is_in_order
      gain_disorder o = rw (h, ← F, z, ← K, ← T, o) refl

      pub gain_room : k && t ≡ true → (r : Bool) → has_room m 1 ≡ r → must r 22 ≡ numbered (gain_reply m)
      unfolding gain_reply is_in_order
      gain_room o true e = rw (h, ← F, z, ← K, ← T, o, e) refl
      gain_room o false e = rw (h, ← F, z, ← K, ← T, o, e) refl

-- ---- refused, or done
module _ (m : Machine) (x : Float) (r : Result (Unit {0}) Refusal) (R : answer_reply r ≡ numbered (gain_reply m)) where
  number_is : gain_reply m ≡ (answer_reply r).number
  number_is = ap (λ (y : Reply). y.number) (sym R)

  pub gain_refused : (why : Refusal) → r ≡ Err why → left (refused_by why) m ≡ gain_step m x
  unfolding gain_step
  gain_refused why W =
      let n : eqb (gain_reply m) 0 ≡ false = ap (λ (k : ℕ). eqb k 0) (number_is ∙ ap (λ (a : Result (Unit {0}) Refusal). (answer_reply a).number) W) ∙ refused_some why in
      ap (λ (a : Result (Unit {0}) Refusal). left (answer_reply a) m) (sym W) ∙ ap (λ (y : Reply). left y m) R ∙ rw n refl

  module _ (u : Unit {0}) (F : r ≡ Ok u) where
    none : gain_reply m ≡ 0
    none = number_is ∙ ap (λ (a : Result (Unit {0}) Refusal). (answer_reply a).number) F

    pub gain_ready : EnvReady m.stores.weights (enveloped_at m.limiter.env m.stores.marks m.stores.minima m.stores.row)
    unfolding gain_reply is_in_order
    gain_ready =
        let k = Order.is_in_order m.limiter m.stores.marks m.stores.minima m.stores.row in
        let p = passed_unless (prepared m.limiter m.bank) 17 _ none in
        let f = passed_unless (gain_fits m.limiter m.stores) 15 _ p.1 in
        let o = passed_unless (k && target_in_range m.bank) 18 _ f.1 in
        let r = passed_unless (has_room m 1) 21 0 o.1 in
        let fit = gain_fit m.limiter m.stores f.0 in
        let order = order_is m.limiter m.stores.marks m.stores.minima m.stores.row (and-true k (target_in_range m.bank) o.0).0 in
        record {
          keeper = record { marks_fit = fit.marks_is; minima_fit = fit.minima_is; in_order = order.ring_is; room = leb-true (m.limiter.env.keeper.frame + 1) most_frames r.0 };
          row = order.row_is;
          weighed = fit.weights_is ∙ sym fit.row_is;
        }

    pub gain_done_lem : (g : GainStepped) → g ≡ gain_of m x → gain_done m g ≡ gain_step m x
    unfolding gain_step
    gain_done_lem g k = rw (k, none) refl
