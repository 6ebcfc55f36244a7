-- What 18, 16 and 19 say of the machine, and their order from what the code finds.
use mathlib.Core.Path.{◌≡◌, refl, ap, ◌∙◌, subst}
use mathlib.Core.Bool as Booleans
use mathlib.Core.Bool.{Bool, true, false, ◌&&◌, and-false}
use mathlib.Core.List.{List, [], ◌∷◌}
use Prim.Native.Nat.{ℕ}
use native.Mathlib.Omega.{arith}
use lib.Dec.{eqb, leb}
use lib.Ieee.{to_bits, of_bits}
use lib.ListN.{length, get_or, take}
use borrow.Author.Tests.{eqb-true}
use Rattle.arithmetic.proofs.Order.{and-true}
use Rattle.arithmetic.specs.Number.{within}
use Rattle.arithmetic.specs.Reply.{numbered, must}
use Rattle.settings.specs.declared.LimiterSettings.{LimiterSettings}
use Rattle.limiter.specs.Order
use Rattle.limiter.specs.declared.state.Limiter.{Limiter}
use Rattle.bank.specs.Bank
use Rattle.bank.specs.Bank.{slot_at, all_prepared}
use Rattle.bank.specs.Smoother.{slot_prepared}
use Rattle.bank.specs.declared.smoother.Smoother.{Smoother}
use Rattle.bank.specs.declared.smoother_bank.SmootherBank.{SmootherBank}
use Rattle.driver.specs.Parts.{shown_of}
use Rattle.driver.specs.declared.state.Threshold.{Threshold}
use Rattle.turns.specs.Machine.{Machine, threshold_of, declares, prepared, target_in_range, is_in_order, fits, ready_refusal, reset_refusal}

-- ---- what 18 says
pub record Prepared (l : Limiter) (b : SmootherBank) : Type 0 where
  pub kernel : Order.prepared l ≡ true
  pub bank : Bank.prepared b ≡ true
  pub one : b.count ≡ 1
  pub rate : b.rate ≡ l.rate
  pub declared : declares l.settings (threshold_of b) ≡ true

pub prepared_is : (l : Limiter) (b : SmootherBank) → prepared l b ≡ true → Prepared l b
unfolding prepared
prepared_is l b h =
    let d = declares l.settings (threshold_of b) in
    let r = eqb b.rate l.rate in
    let k = and-true (Order.prepared l) (Bank.prepared b && (eqb b.count 1 && (r && d))) h in
    let w = and-true (Bank.prepared b) (eqb b.count 1 && (r && d)) k.1 in
    let o = and-true (eqb b.count 1) (r && d) w.1 in
    let e = and-true r d o.1 in
    record { kernel = k.0; bank = w.0; one = eqb-true b.count 1 o.0; rate = eqb-true b.rate l.rate e.0; declared = e.1 }

-- a slot that is not there declares nothing
none_declares : (s : LimiterSettings) → declares s (slot_at 0 []) ≡ false
unfolding declares to_bits of_bits
none_declares s = refl

one_slot : (s : LimiterSettings) (ready e : Bool) (rate : ℕ) (ss : List Smoother)
    → (ready && slot_prepared rate 0 (slot_at 0 ss)) && (e && declares s (slot_at 0 ss)) ≡ (ready && all_prepared rate 0 (take 1 ss)) && (e && declares s (slot_at 0 ss))
unfolding all_prepared
one_slot s ready e rate [] = rw (none_declares s, and-false e, and-false (ready && slot_prepared rate 0 (slot_at 0 [])), and-false (ready && true)) refl
one_slot s ready e rate (t ∷ ss) = rw (Booleans.and-true (slot_prepared rate 0 t)) refl

-- 18 over a bank of one parameter is 18 over that parameter
pub one_judged : (l : Limiter) (b : SmootherBank)
    → (let t = threshold_of b in Order.prepared l && ((b.ready && slot_prepared b.rate 0 t) && (eqb b.count 1 && (eqb b.rate l.rate && declares l.settings t)))) ≡ prepared l b
unfolding prepared Bank.prepared
one_judged l b = ap (λ (x : Bool). Order.prepared l && x) (go (eqb b.count 1) refl)
  where
    go : (one : Bool) → eqb b.count 1 ≡ one → (let d = eqb b.rate l.rate && declares l.settings (threshold_of b) in
        (b.ready && slot_prepared b.rate 0 (threshold_of b)) && (eqb b.count 1 && d) ≡ (b.ready && (leb b.count 8 && all_prepared b.rate 0 (take b.count b.smoothers))) && (eqb b.count 1 && d))
    go false h = rw (h, and-false (b.ready && slot_prepared b.rate 0 (threshold_of b)), and-false (b.ready && (leb b.count 8 && all_prepared b.rate 0 (take b.count b.smoothers)))) refl
    go true h = rw (eqb-true b.count 1 h) (one_slot l.settings b.ready (eqb b.rate l.rate) b.rate b.smoothers)

-- ---- by what a bank shows
pub threshold_in_range : (b : SmootherBank) (p : Smoother) → p ≡ threshold_of b → (r : Bool) → r ≡ within p.low p.high p.target → r ≡ target_in_range b
threshold_in_range b p P r R = R ∙ ap (λ (p : Smoother). within p.low p.high p.target) P

module _ (b : SmootherBank) (t : Threshold) (e : shown_of b ≡ t) where
  -- 18, from what the code finds
  pub parts_judged : (l : Limiter) (k o d : Bool) → k ≡ Order.prepared l → o ≡ slot_prepared t.rate 0 t.smoother → d ≡ declares l.settings t.smoother
      → (k && ((t.ready && o) && (eqb t.count 1 && (eqb t.rate l.rate && d)))) ≡ prepared l b
  parts_judged l k o d K O D =
      rw (K, O, D) (subst (λ (t : Threshold). (Order.prepared l && ((t.ready && slot_prepared t.rate 0 t.smoother) && (eqb t.count 1 && (eqb t.rate l.rate && declares l.settings t.smoother)))) ≡ prepared l b) e (one_judged l b))

-- the first of eight slots, whatever stands for a slot that is not there
pub first_slot : (ss : List Smoother) (d : Smoother) → length ss ≡ 8 → get_or ss 0 d ≡ slot_at 0 ss
first_slot [] d e = absurd (omega (arith, e))
first_slot (s ∷ ss) d e = refl

-- ---- the refusals in turn
module _ (m : Machine) where
  pub not_set_up_lem : prepared m.limiter m.bank ≡ false → numbered 18 ≡ numbered (ready_refusal m)
  unfolding ready_refusal
  not_set_up_lem h = rw h refl

  module _ (h : prepared m.limiter m.bank ≡ true) where
    pub wrong_length : fits m ≡ false → numbered 16 ≡ numbered (ready_refusal m)
    unfolding ready_refusal
    wrong_length f = rw (h, f) refl

    pub order_judged : fits m ≡ true → (k t : Bool) → k ≡ Order.is_in_order m.limiter m.stores.marks m.stores.minima m.stores.row → t ≡ target_in_range m.bank → (o : Bool) → k && t ≡ o
        → must o 19 ≡ numbered (ready_refusal m)
    unfolding ready_refusal is_in_order
    order_judged f k t K T true e = rw (h, f, ← K, ← T, e) refl
    order_judged f k t K T false e = rw (h, f, ← K, ← T, e) refl

  -- ---- 18, then 16
  pub reset_not_set_up : prepared m.limiter m.bank ≡ false → numbered 18 ≡ numbered (reset_refusal m)
  unfolding reset_refusal
  reset_not_set_up h = rw h refl

  pub reset_lengths : prepared m.limiter m.bank ≡ true → (f : Bool) → fits m ≡ f → must f 16 ≡ numbered (reset_refusal m)
  unfolding reset_refusal
  reset_lengths h true k = rw (h, k) refl
  reset_lengths h false k = rw (h, k) refl
