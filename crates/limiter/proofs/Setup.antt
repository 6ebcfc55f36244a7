-- A finished setup leaves a limiter that is set up, with stores that fit and are in order.
use mathlib.Core.Path.{◌≡◌, refl, sym, subst, ◌∙◌}
use mathlib.Core.Bool.{Bool, true, false, cond}
use Prim.Native.Nat.{ℕ}
use lib.Dec.{eqb}
use lib.ListN.{length, replicate, length-replicate}
use borrow.Author.Tests.{eqb-false}
use Rattle.arithmetic.specs.Number
use Rattle.arithmetic.specs.Number.{one}
use Rattle.arithmetic.specs.Reply.{Reply}
use Rattle.settings.specs.Derived.{look_of, row_of}
use Rattle.settings.specs.declared.LimiterSettings.{LimiterSettings}
use Rattle.settings.specs.declared.ProcessSpec.{ProcessSpec}
use Rattle.limiter.specs.State.{not_set_up, started}
use Rattle.limiter.specs.Stores.{Stores, lengths_of, lengths_fit}
use Rattle.limiter.specs.Prepare.{prepare_refusal, limiter_left, filled_for, prepare_of}
use Rattle.limiter.specs.Order.{prepared, is_in_order}
use Rattle.limiter.proofs.Judge.{fit, Passed, passed, weights_ready}
use Rattle.limiter.proofs.Ready.{started_prepared, started_in_order}

module _ (s : LimiterSettings) (spec : ProcessSpec) (stores : Stores) where
  abbrev look : ℕ
  look = look_of s.lookahead_ms spec.rate

  abbrev reply : Reply
  reply = prepare_refusal s spec (lengths_of stores) stores.weights

  abbrev through : reply.number ≡ 0 → Passed s spec stores
  through z = passed s spec stores z

  -- the weights are as many as they were
  same_weights : (z : reply.number ≡ 0) → length (filled_for s spec stores).weights ≡ length stores.weights
  same_weights z = (weights_ready s spec stores (through z)).0 ∙ sym (fit spec.channels look (lengths_of stores) (through z).fitting).weights_is

  fills_fit : reply.number ≡ 0 → lengths_fit spec.channels look (lengths_of (filled_for s spec stores)) ≡ true
  fills_fit z =
      rw (length-replicate (length stores.delay) Number.zero, length-replicate {A = ℕ} (length stores.marks) 0, length-replicate (length stores.minima) Number.zero, length-replicate (length stores.row) one, length-replicate (length stores.detector) Number.zero, same_weights z)
      (through z).fitting

  row_full : reply.number ≡ 0 → length stores.row ≡ row_of look
  row_full z = (fit spec.channels look (lengths_of stores) (through z).fitting).row_is

  pub setup_ready : (let o = prepare_of s spec stores in o.reply.number ≡ 0
      → (prepared o.limiter ≡ true) × (lengths_fit spec.channels o.limiter.env.keeper.look (lengths_of o.stores) ≡ true) × (is_in_order o.limiter o.stores.marks o.stores.minima o.stores.row ≡ true))
  unfolding prepare_of
  setup_ready = go (eqb reply.number 0) refl
    where
      go : (b : Bool) → eqb reply.number 0 ≡ b → (let o = cond b (limiter_left reply (started s spec) (filled_for s spec stores)) (limiter_left reply not_set_up stores) in o.reply.number ≡ 0
          → (prepared o.limiter ≡ true) × (lengths_fit spec.channels o.limiter.env.keeper.look (lengths_of o.stores) ≡ true) × (is_in_order o.limiter o.stores.marks o.stores.minima o.stores.row ≡ true))
      go false e z = absurd (eqb-false reply.number 0 e z)
      go true e z =
          let n = (through z).none in (
            started_prepared s spec n,
            fills_fit z,
            subst (λ (k : ℕ). is_in_order (started s spec) (replicate (length stores.marks) 0) (replicate (length stores.minima) Number.zero) (replicate k one) ≡ true) (sym (row_full z))
                (started_in_order s spec n (replicate (length stores.marks) 0) (replicate (length stores.minima) Number.zero)),
          )
