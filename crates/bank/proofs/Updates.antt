-- A prepared bank over its updates, parameter by parameter: what holds of one smoother holds of each slot below the count.
use mathlib.Core.Path.{◌≡◌, refl, ap, ap₂, ◌∙◌}
use mathlib.Core.Bool.{true, false}
use mathlib.Core.List.{List, [], ◌∷◌}
use Prim.Native.Nat.{ℕ, zero, suc, ◌≤◌, ◌<◌}
use native.Mathlib.Omega.{arith}
use lib.Dec.{T}
use lib.ListN.{length, length-set}
use lib.Seq.{get_or-set_same}
use lib.Ieee.{Float, binary64, eq, le, fits}
use lib.Ieee.Scale.{finite}
use Rattle.arithmetic.specs.Number.{one, within, ceil_of}
use Rattle.bank.specs.Smoother.{ranged, target_set, stepped, after, vacant}
use Rattle.bank.specs.Bank.{prepared, slot_at, first_mapped, all_changed, one_changed, call_of, turn_reply, turn_of, set_target_of, step_of, bank_after}
use Rattle.bank.specs.declared.param.Smoothing.TheVariants.{Linear}
use Rattle.bank.specs.declared.smoother.Smoother.{Smoother}
use Rattle.bank.specs.declared.smoother_bank.SmootherBank.{SmootherBank}
use Rattle.bank.proofs.Ramp.{true→T, range_of, step_within, reaches, target_is, target_in_time}
use Rattle.bank.proofs.Prepared.{step_prepared, target_prepared, slot_faultless, slot_steps}
use Rattle.bank.proofs.Calls.{call_finished}
use Rattle.bank.proofs.Domain.{steps_least}

-- ---- slots
mapped_at : (f : Smoother → Smoother) (i n : ℕ) (ss : List Smoother) → i < n → i < length ss → slot_at i (first_mapped f n ss) ≡ f (slot_at i ss)
unfolding first_mapped
mapped_at f i zero ss h k = absurd (omega arith)
mapped_at f i (suc n) [] h k = absurd (omega arith)
mapped_at f zero (suc n) (s ∷ ss) h k = refl
mapped_at f (suc i) (suc n) (s ∷ ss) h k = mapped_at f i n ss (omega arith) (omega arith)

mapped_length : (f : Smoother → Smoother) (n : ℕ) (ss : List Smoother) → length (first_mapped f n ss) ≡ length ss
unfolding first_mapped
mapped_length f zero ss = refl
mapped_length f (suc n) [] = refl
mapped_length f (suc n) (s ∷ ss) = ap suc (mapped_length f n ss)

-- a parameter of a prepared bank: its index is below the count, and there is a slot for it
pub record Known (b : SmootherBank) (i : ℕ) : Type 0 where
  pub set_up : prepared b ≡ true
  pub below : i < b.count
  pub there : i < length b.smoothers

step_bank : (b : SmootherBank) → prepared b ≡ true → (step_of b).bank ≡ all_changed stepped b
unfolding turn_of turn_reply
step_bank b h = rw h refl

module _ (b : SmootherBank) (i : ℕ) (k : Known b i) where
  -- one call of `step` is one update of the slot
  step-at : slot_at i (step_of b).bank.smoothers ≡ stepped (slot_at i b.smoothers)
  step-at = ap (λ (c : SmootherBank). slot_at i c.smoothers) (step_bank b k.set_up) ∙ mapped_at stepped i b.count b.smoothers k.below k.there

  pub step_known : Known (step_of b).bank i
  step_known = record {
    set_up = step_prepared b ∙ k.set_up;
    below = rw (step_bank b k.set_up) k.below;
    there = rw (step_bank b k.set_up, mapped_length) k.there;
  }

  -- a value lies within its range after every step, whatever it was before
  pub bank_within : within (slot_at i b.smoothers).low (slot_at i b.smoothers).high (slot_at i (step_of b).bank.smoothers).cur ≡ true
  bank_within = rw step-at (step_within (slot_at i b.smoothers) (slot_faultless b k.set_up i k.below k.there).range)

pub after_at : (n : ℕ) (b : SmootherBank) (i : ℕ) → Known b i → slot_at i (bank_after n b).smoothers ≡ after n (slot_at i b.smoothers)
unfolding bank_after after
after_at zero b i k = refl
after_at (suc n) b i k = after_at n (step_of b).bank i (step_known b i k) ∙ ap (after n) (step-at b i k)

-- from any bank: a Linear parameter whose target lies within its range equals it within its own remaining updates, at least one
pub bank_reaches : (b : SmootherBank) (i : ℕ) → Known b i → (slot_at i b.smoothers).shape ≡ Linear → within (slot_at i b.smoothers).low (slot_at i b.smoothers).high (slot_at i b.smoothers).target ≡ true
    → (n : ℕ) → (slot_at i b.smoothers).updates_remaining ≤ suc n → eq (slot_at i (bank_after (suc n) b).smoothers).cur (slot_at i b.smoothers).target ≡ true
bank_reaches b i k l t n h =
    let s = slot_at i b.smoothers in
    rw (after_at (suc n) b i k)
    (reaches n s (record { shape = l; range = range_of s.low s.high (slot_faultless b k.set_up i k.below k.there).range; inside = t }) h)

-- after a `set_target` that changes the target
module _ (b : SmootherBank) (i : ℕ) (k : Known b i) (v : Float) (f : finite v ≡ true) (new : eq (ranged (slot_at i b.smoothers) v) (slot_at i b.smoothers).target ≡ false) where
  target_bank : (set_target_of b i v).bank ≡ one_changed (target_set v) i b
  unfolding call_of
  target_bank = rw (← call_finished b i v k.set_up f k.below) refl

  target_at : slot_at i (set_target_of b i v).bank.smoothers ≡ target_set v (slot_at i b.smoothers)
  target_at = ap (λ (c : SmootherBank). slot_at i c.smoothers) target_bank ∙ get_or-set_same b.smoothers i (target_set v (slot_at i b.smoothers)) vacant k.there

  target_known : Known (set_target_of b i v).bank i
  target_known = record {
    set_up = target_prepared b i v ∙ k.set_up;
    below = rw target_bank k.below;
    there = rw (target_bank, length-set) k.there;
  }

  -- a Linear value equals it within ceil(steps) updates
  pub bank_target_reached : (slot_at i b.smoothers).shape ≡ Linear → T (fits binary64 (slot_at i b.smoothers).steps) → (n : ℕ) → ceil_of (slot_at i b.smoothers).steps ≤ n
      → eq (slot_at i (bank_after n (set_target_of b i v).bank).smoothers).cur (slot_at i (set_target_of b i v).bank.smoothers).target ≡ true
  bank_target_reached l p n h =
      let s = slot_at i b.smoothers in
      let range = (slot_faultless b k.set_up i k.below k.there).range in
      let least : le one s.steps ≡ true = rw (slot_steps b k.set_up i k.below k.there p) (steps_least s.smoothing_ms b.rate) in
      let reached = after_at n (set_target_of b i v).bank i target_known ∙ ap (after n) target_at in
      let aimed = target_at ∙ target_is s v l range (true→T (finite v) f) new in
      ap₂ eq (ap (λ (r : Smoother). r.cur) reached) (ap (λ (r : Smoother). r.target) aimed) ∙ target_in_time s v l range (true→T (finite v) f) new least n h
