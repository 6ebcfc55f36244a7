-- 18 over the calls: a finished setup answers a prepared bank, and no call changes whether a bank is prepared.
use mathlib.Core.Path.{◌≡◌, refl, sym, ap, ◌∙◌}
use mathlib.Core.Bool.{Bool, true, false, cond, ◌&&◌, ◌||◌, not}
use mathlib.Core.List.{List, [], ◌∷◌}
use Prim.Native.Nat.{ℕ, zero, suc, ◌+◌, ◌≤◌, ◌<◌}
use native.Mathlib.Nat.{add-zero, zero-add, add-suc, suc-add}
use native.Mathlib.Omega.{arith}
use lib.Dec.{T, eqb, leb, ltb}
use lib.ListN.{length, take, length-take}
use lib.Seq.{get_or-take}
use lib.Ieee.{Float, binary64, div, lt, eq, is_nan, fits}
use lib.Ieee.Scale.{finite}
use lib.Ieee.Fits.{cond-fits, div-fits}
use borrow.Author.Tests.{eq-eqb, eqb-true, ltb-false, le-leb}
use Rattle.arithmetic.specs.Number.{bits, one, frames_of_ms, within, same_value}
use Rattle.arithmetic.specs.Reply.{Reply, refused}
use Rattle.arithmetic.proofs.Order.{and-true, and_yes, clash}
use Rattle.bank.specs.Param.{fault_of, fault_reply, range_holds, time_holds}
use Rattle.bank.specs.Smoother.{changed, ranged, info_of, derived, slot_prepared, smoother_of, steps_of, coeff_of, target_set, aimed, stepped}
use Rattle.bank.specs.Bank.{settled, unset, first_fault, declared_reply, slots_of, set_up_of, all_prepared, prepared, with_slots, slot_at, first_mapped, slot_mapped, all_changed, one_changed, call_reply, call_of, turn_reply, turn_of, set_target_of, step_of}
use Rattle.bank.specs.declared.param.ParamInfo.{ParamInfo}
use Rattle.bank.specs.declared.param.Smoothing.{Smoothing}
use Rattle.bank.specs.declared.param.Smoothing.TheVariants.{Step, Linear, OnePole}
use Rattle.bank.specs.declared.smoother.Smoother.{Smoother}
use Rattle.bank.specs.declared.smoother_bank.SmootherBank.{SmootherBank}
use Rattle.arithmetic.proofs.Same.{same_value_lem, same_self}
use Rattle.bank.proofs.Ramp.{stepped_is}
use Rattle.bank.proofs.Slots.{fault_number}

-- ---- the derived values fit binary64
pub one_fits : T (fits binary64 one)
unfolding fits
one_fits = tt

pub steps_fit : (ms : Float) (rate : ℕ) → T (fits binary64 (steps_of ms rate))
unfolding steps_of
steps_fit ms rate =
    let frames = frames_of_ms ms rate in
    let n = div binary64 frames (bits 0x4040_0000_0000_0000) in
    cond-fits binary64 (lt n one || is_nan n) one n one_fits (div-fits binary64 frames (bits 0x4040_0000_0000_0000))

-- ---- one smoother: 18 does not look at value, target, updates left and step size
module _ (rate index : ℕ) (s : Smoother) where
  changed_prepared : (x t : Float) (n : ℕ) (d : Float) → slot_prepared rate index (changed x t n d s) ≡ slot_prepared rate index s
  unfolding slot_prepared derived
  changed_prepared x t n d = refl

  step_slot : slot_prepared rate index (stepped s) ≡ slot_prepared rate index s
  step_slot = let m = stepped_is s in ap (slot_prepared rate index) m.is ∙ changed_prepared _ s.target m.left s.step_delta

  aimed_slot : (k : Smoothing) (t : Float) → slot_prepared rate index (aimed k t s) ≡ slot_prepared rate index s
  aimed_slot Step t = changed_prepared s.cur t s.updates_remaining s.step_delta
  aimed_slot Linear t = changed_prepared s.cur t _ _
  aimed_slot OnePole t = changed_prepared s.cur t s.updates_remaining s.step_delta

  target_slot : (v : Float) → slot_prepared rate index (target_set v s) ≡ slot_prepared rate index s
  unfolding target_set
  target_slot v = go (eq (ranged s v) s.target)
    where
      go : (b : Bool) → slot_prepared rate index (cond b s (aimed s.shape (ranged s v) s)) ≡ slot_prepared rate index s
      go true = refl
      go false = aimed_slot s.shape (ranged s v)

-- ---- the slots
module _ (rate : ℕ) (f : Smoother → Smoother) (keeps : (i : ℕ) (s : Smoother) → slot_prepared rate i (f s) ≡ slot_prepared rate i s) where
  mapped_prepared : (i m n : ℕ) (ss : List Smoother) → all_prepared rate i (take n (first_mapped f m ss)) ≡ all_prepared rate i (take n ss)
  unfolding all_prepared first_mapped
  mapped_prepared i zero n ss = refl
  mapped_prepared i (suc m) n [] = refl
  mapped_prepared i (suc m) zero (s ∷ ss) = refl
  mapped_prepared i (suc m) (suc n) (s ∷ ss) = rw (keeps i s, mapped_prepared (suc i) m n ss) refl

  set_prepared : (i j n : ℕ) (ss : List Smoother) → all_prepared rate i (take n (slot_mapped f j ss)) ≡ all_prepared rate i (take n ss)
  unfolding all_prepared
  set_prepared i j n [] = refl
  set_prepared i j zero (s ∷ ss) = refl
  set_prepared i zero (suc n) (s ∷ ss) = rw (keeps i s) refl
  set_prepared i (suc j) (suc n) (s ∷ ss) = rw (set_prepared (suc i) j n ss) refl

-- ---- no call changes whether a bank is prepared
module _ (b : SmootherBank) where
  slots_prepared : (ss : List Smoother) → all_prepared b.rate 0 (take b.count ss) ≡ all_prepared b.rate 0 (take b.count b.smoothers) → prepared (with_slots ss b) ≡ prepared b
  unfolding prepared
  slots_prepared ss e = ap (λ (x : Bool). b.ready && (leb b.count 8 && x)) e

  settled_prepared : (r : Reply) (new : SmootherBank) → prepared new ≡ prepared b → prepared (settled r new b).bank ≡ prepared b
  settled_prepared r new e = go (eqb r.number 0)
    where
      go : (t : Bool) → prepared (cond t new b) ≡ prepared b
      go true = e
      go false = refl

  module _ (f : Smoother → Smoother) (keeps : (i : ℕ) (s : Smoother) → slot_prepared b.rate i (f s) ≡ slot_prepared b.rate i s) where
    turn_prepared : prepared (turn_of f b).bank ≡ prepared b
    unfolding turn_of
    turn_prepared = settled_prepared (turn_reply b) (all_changed f b) (slots_prepared _ (mapped_prepared b.rate f keeps 0 b.count b.count b.smoothers))

    call_prepared : (id : ℕ) (v : Float) → prepared (call_of f b id v).bank ≡ prepared b
    unfolding call_of
    call_prepared id v = settled_prepared (call_reply b id v) (one_changed f id b) (slots_prepared _ (set_prepared b.rate f keeps 0 id b.count b.smoothers))

  pub step_prepared : prepared (step_of b).bank ≡ prepared b
  step_prepared = turn_prepared stepped (step_slot b.rate)

  pub target_prepared : (id : ℕ) (v : Float) → prepared (set_target_of b id v).bank ≡ prepared b
  target_prepared id v = call_prepared (target_set v) (λ i s. target_slot b.rate i s v) id v

-- ---- setup
module _ (rate : ℕ) where
  new_slot : (i : ℕ) (p : ParamInfo) → slot_prepared rate i (smoother_of rate p) ≡ eqb (fault_of i p) 0
  unfolding slot_prepared derived smoother_of
  new_slot i p = simp (same_self (steps_of p.smoothing_ms rate), same_self (coeff_of p.smoothing (steps_of p.smoothing_ms rate))) (and_yes (eqb (fault_of i p) 0))

  all_new : (i n : ℕ) (ps : List ParamInfo) → (first_fault i (take n ps)).number ≡ 0 → all_prepared rate i (take n (slots_of rate n ps)) ≡ true
  unfolding all_prepared slots_of first_fault
  all_new i zero [] h = refl
  all_new i (suc n) [] h = refl
  all_new i zero (p ∷ ps) h = refl
  all_new i (suc n) (p ∷ ps) h = go (eqb (fault_of i p) 0) refl (all_new (suc i) n ps)
    where
      go : (b : Bool) → eqb (fault_of i p) 0 ≡ b → ((first_fault (suc i) (take n ps)).number ≡ 0 → all_prepared rate (suc i) (take n (slots_of rate n ps)) ≡ true)
          → slot_prepared rate i (smoother_of rate p) && all_prepared rate (suc i) (take n (slots_of rate n ps)) ≡ true
      go true e rest = rw (new_slot i p, e) (rest (sym (ap (λ (t : Bool). (cond t (first_fault (suc i) (take n ps)) (fault_reply (fault_of i p) i)).number) e) ∙ h))
      go false e rest =
          let f = fault_of i p in
          clash (eqb f 0) (eq-eqb f 0 (sym (fault_number f i) ∙ sym (ap (λ (t : Bool). (cond t (first_fault (suc i) (take n ps)) (fault_reply f i)).number) e) ∙ h)) e

declared_finished : (ps : List ParamInfo) (n : ℕ) → (declared_reply ps n).number ≡ 0 → (n ≤ 8) × ((first_fault 0 (take n ps)).number ≡ 0)
unfolding declared_reply
declared_finished ps n h = go (ltb 8 n) refl
  where
    picked : (b : Bool) → ltb 8 n ≡ b → (cond b (refused 1 []) (first_fault 0 (take n ps))).number ≡ 0
    picked b e = sym (ap (λ (t : Bool). (cond t (refused 1 []) (first_fault 0 (take n ps))).number) e) ∙ h

    go : (b : Bool) → ltb 8 n ≡ b → (n ≤ 8) × ((first_fault 0 (take n ps)).number ≡ 0)
    go true e = absurd (omega (arith, picked true e))
    go false e = (ltb-false 8 n e, picked false e)

-- a finished setup answers a prepared bank
pub set_up_prepared : (ps : List ParamInfo) (n rate : ℕ) → (set_up_of ps n rate).reply.number ≡ 0 → prepared (set_up_of ps n rate).bank ≡ true
unfolding set_up_of prepared
set_up_prepared ps n rate h = let d = declared_finished ps n h in rw (eq-eqb (declared_reply ps n).number 0 h, le-leb n 8 d.0, all_new rate 0 n ps d.1) refl

-- every call refuses the bank that was never set up
pub unset_refused : prepared unset ≡ false
unfolding prepared
unset_refused = refl

-- ---- what 18 tells of a parameter
ladder : (a b c d e : Bool) → ◌≡◌ {A = ℕ} (cond (not a) 2 (cond (not b) 3 (cond (not c) 4 (cond (not d) 5 (cond (not e) 6 0))))) 0 → (a ≡ true) × (b ≡ true) × (c ≡ true) × (d ≡ true) × (e ≡ true)
ladder false b c d e h = absurd (omega arith)
ladder true false c d e h = absurd (omega arith)
ladder true true false d e h = absurd (omega arith)
ladder true true true false e h = absurd (omega arith)
ladder true true true true false h = absurd (omega arith)
ladder true true true true true h = (refl, refl, refl, refl, refl)

-- a declaration that passes 2 to 6
pub record Faultless (index : ℕ) (p : ParamInfo) : Type 0 where
  pub id : p.id ≡ index
  pub range : range_holds p.low p.high ≡ true
  pub default : finite p.default ≡ true
  pub inside : within p.low p.high p.default ≡ true
  pub time : time_holds p.smoothing_ms ≡ true

pub faultless : (index : ℕ) (p : ParamInfo) → fault_of index p ≡ 0 → Faultless index p
unfolding fault_of
faultless index p h =
    let l = ladder (eqb p.id index) (range_holds p.low p.high) (finite p.default) (within p.low p.high p.default) (time_holds p.smoothing_ms) h in
    record { id = eqb-true p.id index l.0; range = l.1; default = l.2; inside = l.3; time = l.4 }

module _ (rate : ℕ) where
  all-at : (i j : ℕ) (ss : List Smoother) → all_prepared rate i ss ≡ true → j < length ss → slot_prepared rate (i + j) (slot_at j ss) ≡ true
  unfolding all_prepared
  all-at i j [] h k = absurd (omega arith)
  all-at i zero (s ∷ ss) h k = rw add-zero (and-true (slot_prepared rate i s) (all_prepared rate (suc i) ss) h).0
  all-at i (suc j) (s ∷ ss) h k = rw add-suc (rw suc-add at (all-at (suc i) j ss (and-true (slot_prepared rate i s) (all_prepared rate (suc i) ss) h).1 (omega arith)))

module _ (b : SmootherBank) (h : prepared b ≡ true) (i : ℕ) (known : i < b.count) (there : i < length b.smoothers) where
  pub slot_prepared_lem : slot_prepared b.rate i (slot_at i b.smoothers) ≡ true
  unfolding prepared
  slot_prepared_lem =
      let c = and-true (leb b.count 8) (all_prepared b.rate 0 (take b.count b.smoothers)) (and-true b.ready _ h).1 in
      rw (zero-add, get_or-take) at (all-at b.rate 0 i (take b.count b.smoothers) c.1 (simp length-take (omega arith)))

  pub slot_faultless : Faultless i (info_of (slot_at i b.smoothers))
  unfolding slot_prepared
  slot_faultless =
      let s = slot_at i b.smoothers in
      faultless i (info_of s) (eqb-true (fault_of i (info_of s)) 0 (and-true (eqb (fault_of i (info_of s)) 0) (derived b.rate s) slot_prepared_lem).0)

  -- the stored number of steps is the one derived, so at least 1, for an f64 as a program has it
  pub slot_steps : T (fits binary64 (slot_at i b.smoothers).steps) → (slot_at i b.smoothers).steps ≡ steps_of (slot_at i b.smoothers).smoothing_ms b.rate
  unfolding slot_prepared derived
  slot_steps f =
      let s = slot_at i b.smoothers in
      let d = and-true (eqb (fault_of i (info_of s)) 0) (derived b.rate s) slot_prepared_lem in
      same_value_lem s.steps (steps_of s.smoothing_ms b.rate) f (steps_fit s.smoothing_ms b.rate) (and-true (same_value s.steps (steps_of s.smoothing_ms b.rate)) _ d.1).0
