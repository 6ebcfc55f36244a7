-- State and stores of which none of 18, 16 and 19 arises: the kernel, and the one parameter.
use mathlib.Core.Path.{◌≡◌, refl, sym, ap, subst, ◌∙◌}
use mathlib.Core.Bool.{Bool, true, false, cond, ◌&&◌}
use mathlib.Core.List.{List, [], ◌∷◌}
use Prim.Native.Nat.{ℕ, zero, suc}
use native.Mathlib.Omega.{arith}
use lib.Dec.{eqb, leb}
use lib.ListN.{drop}
use lib.Ieee.{Float, to_bits, of_bits, eq}
use lib.Ieee.Scale.{finite}
use borrow.Author.Tests.{eqb-true, eq-eqb, ne_eqb, le-leb}
use Rattle.arithmetic.specs.Number.{within}
use Rattle.arithmetic.specs.Reply.{finished, refused, float, unless}
use Rattle.arithmetic.proofs.Order.{and-true, clash}
use Rattle.arithmetic.proofs.Passed.{passed_unless}
use Rattle.arithmetic.proofs.Within.{clamp_within}
use Rattle.settings.specs.declared.LimiterSettings.{LimiterSettings}
use Rattle.limiter.specs.Order
use Rattle.limiter.specs.declared.state.Limiter.{Limiter}
use Rattle.bank.specs.Smoother.{info_of, derived, slot_prepared, changed, ranged, aimed, target_set, immediate_set, reset_one, stepped}
use Rattle.bank.specs.Param.{fault_of}
use Rattle.bank.specs.Bank
use Rattle.bank.specs.Bank.{slot_at, all_prepared, value_of}
use Rattle.bank.specs.declared.param.Smoothing.{Smoothing}
use Rattle.bank.specs.declared.param.Smoothing.TheVariants.{Step, Linear, OnePole}
use Rattle.bank.specs.declared.smoother.Smoother.{Smoother}
use Rattle.bank.specs.declared.smoother_bank.SmootherBank.{SmootherBank}
use Rattle.bank.proofs.Prepared.{faultless}
use Rattle.bank.proofs.Ramp.{range_of, stepped_is, true→T}
use Rattle.turns.specs.Machine.{Machine, threshold_of, declares, prepared, target_in_range, is_in_order, fits, ready_refusal, reset_refusal}
use Rattle.driver.proofs.Judged.{prepared_is}
use Rattle.turns.proofs.Kernel.{Kernel}

-- ---- the threshold's smoother: what 18 and 19 ask of it
pub record Declared (rate : ℕ) (settings : LimiterSettings) (t : Smoother) : Type 0 where
  pub slot : slot_prepared rate 0 t ≡ true
  pub is : declares settings t ≡ true

pub record Sound (rate : ℕ) (settings : LimiterSettings) (t : Smoother) : Type 0 where
  pub declared : Declared rate settings t
  pub inside : within t.low t.high t.target ≡ true

module _ (rate : ℕ) (settings : LimiterSettings) (t : Smoother) where
  -- neither looks at value, updates left and step size; 18 does not look at the target either
  pub changed_declared : (x target : Float) (n : ℕ) (d : Float) → Declared rate settings t → Declared rate settings (changed x target n d t)
  unfolding slot_prepared derived declares
  changed_declared x target n d k = record { slot = k.slot; is = k.is }

  changed_sound : (x target : Float) (n : ℕ) (d : Float) → Declared rate settings t → within t.low t.high target ≡ true → Sound rate settings (changed x target n d t)
  changed_sound x target n d k h = record { declared = changed_declared x target n d k; inside = h }

  -- what is kept within the range is within it
  ranged_inside : (v : Float) → Declared rate settings t → finite v ≡ true → within t.low t.high (ranged t v) ≡ true
  unfolding slot_prepared
  ranged_inside v k h =
      let p = faultless 0 (info_of t) (eqb-true (fault_of 0 (info_of t)) 0 (and-true (eqb (fault_of 0 (info_of t)) 0) (derived rate t) k.slot).0) in
      let r = range_of t.low t.high p.range in
      clamp_within t.low t.high r.low r.high v (true→T (finite v) h) r.ordered

  pub default_inside : Declared rate settings t → within t.low t.high t.default ≡ true
  unfolding slot_prepared
  default_inside k = (faultless 0 (info_of t) (eqb-true (fault_of 0 (info_of t)) 0 (and-true (eqb (fault_of 0 (info_of t)) 0) (derived rate t) k.slot).0)).inside

  pub immediate_sound : (v : Float) → finite v ≡ true → Declared rate settings t → Sound rate settings (immediate_set v t)
  unfolding immediate_set
  immediate_sound v h k = changed_sound (ranged t v) (ranged t v) 0 t.step_delta k (ranged_inside v k h)

  pub reset_sound : Declared rate settings t → Sound rate settings (reset_one t)
  unfolding reset_one
  reset_sound k = changed_sound t.default t.default 0 t.step_delta k (default_inside k)

  pub stepped_sound : Sound rate settings t → Sound rate settings (stepped t)
  stepped_sound k = let m = stepped_is t in rw m.is (changed_sound _ t.target m.left t.step_delta k.declared k.inside)

  aimed_sound : (shape : Smoothing) (v : Float) → Declared rate settings t → within t.low t.high v ≡ true → Sound rate settings (aimed shape v t)
  aimed_sound Step v k h = changed_sound t.cur v t.updates_remaining t.step_delta k h
  aimed_sound Linear v k h = changed_sound t.cur v _ _ k h
  aimed_sound OnePole v k h = changed_sound t.cur v t.updates_remaining t.step_delta k h

  pub target_sound : (v : Float) → finite v ≡ true → Sound rate settings t → Sound rate settings (target_set v t)
  unfolding target_set
  target_sound v h k = go (eq (ranged t v) t.target)
    where
      go : (b : Bool) → Sound rate settings (cond b t (aimed t.shape (ranged t v) t))
      go true = k
      go false = aimed_sound t.shape (ranged t v) k.declared (ranged_inside v k.declared h)

-- ---- the whole
-- a bank whose one parameter is the threshold t
pub record OneParameter (t : Smoother) (bank : SmootherBank) : Type 0 where
  pub slots : bank.smoothers ≡ t ∷ drop 1 bank.smoothers
  pub count : bank.count ≡ 1
  pub ready : bank.ready ≡ true

-- what 18 says
pub record SetUp (t : Smoother) (l : Limiter) (bank : SmootherBank) : Type 0 where
  pub kernel : Order.prepared l ≡ true
  pub one : OneParameter t bank
  pub rate : bank.rate ≡ l.rate
  pub declared : Declared l.rate l.settings t

-- what 18, 16 and 19 say
pub record Whole (t : Smoother) (m : Machine) : Type 0 where
  pub kernel : Kernel m.limiter m.stores
  pub one : OneParameter t m.bank
  pub rate : m.bank.rate ≡ m.limiter.rate
  pub sound : Sound m.limiter.rate m.limiter.settings t

-- 18 over such a bank is 18 over its parameter
pub one_prepared : (t : Smoother) (b : SmootherBank) → b.smoothers ≡ t ∷ drop 1 b.smoothers → b.count ≡ 1 → Bank.prepared b ≡ b.ready && (slot_prepared b.rate 0 t && true)
unfolding Bank.prepared all_prepared
one_prepared t b e n = rw (n, e) refl

-- a bank that declares the threshold has a slot for it
has_slot : (settings : LimiterSettings) (ss : List Smoother) → declares settings (slot_at 0 ss) ≡ true → ss ≡ slot_at 0 ss ∷ drop 1 ss
unfolding declares to_bits of_bits
has_slot settings [] h = clash false h refl
has_slot settings (t ∷ ss) h = refl

pub first_slot : (t : Smoother) (b : SmootherBank) → b.smoothers ≡ t ∷ drop 1 b.smoothers → threshold_of b ≡ t
first_slot t b e = ap (slot_at 0) e

module _ (l : Limiter) (b : SmootherBank) where
  pub set_up_of_lem : prepared l b ≡ true → SetUp (threshold_of b) l b
  set_up_of_lem h =
      let t = threshold_of b in
      let p = prepared_is l b h in
      let slots = has_slot l.settings b.smoothers p.declared in
      let o = and-true b.ready (slot_prepared b.rate 0 t && true) (sym (one_prepared t b slots p.one) ∙ p.bank) in
      record {
        kernel = p.kernel;
        one = record { slots = slots; count = p.one; ready = o.0 };
        rate = p.rate;
        declared = record { slot = subst (λ (n : ℕ). slot_prepared n 0 t ≡ true) p.rate (and-true (slot_prepared b.rate 0 t) true o.1).0; is = p.declared };
      }

  pub set_up_is : (t : Smoother) → SetUp t l b → prepared l b ≡ true
  unfolding prepared
  set_up_is t s =
      rw (s.kernel, one_prepared t b s.one.slots s.one.count, s.one.ready, s.rate, s.declared.slot, s.one.count, eq-eqb l.rate l.rate refl, first_slot t b s.one.slots, s.declared.is) refl

module _ (m : Machine) where
  pub whole_of : ready_refusal m ≡ 0 → Whole (threshold_of m.bank) m
  unfolding ready_refusal is_in_order
  whole_of h =
      let p = passed_unless (prepared m.limiter m.bank) 17 (unless (fits m) 16 (unless (is_in_order m) 19 0)) h in
      let q = passed_unless (fits m) 15 (unless (is_in_order m) 19 0) p.1 in
      let s = set_up_of_lem m.limiter m.bank p.0 in
      let o = and-true (Order.is_in_order m.limiter m.stores.marks m.stores.minima m.stores.row) (target_in_range m.bank) (passed_unless (is_in_order m) 18 0 q.1).0 in
      record { kernel = record { set_up = s.kernel; lengths = q.0; order = o.0 }; one = s.one; rate = s.rate; sound = record { declared = s.declared; inside = o.1 } }

  module _ (t : Smoother) (w : Whole t m) where
    pub whole_set_up : prepared m.limiter m.bank ≡ true
    whole_set_up = set_up_is m.limiter m.bank t (record { kernel = w.kernel.set_up; one = w.one; rate = w.rate; declared = w.sound.declared })

    pub whole_ready : ready_refusal m ≡ 0
    unfolding ready_refusal is_in_order
    whole_ready = rw (whole_set_up, w.kernel.lengths, w.kernel.order, first_slot t m.bank w.one.slots, w.sound.inside) refl

    pub whole_resets : reset_refusal m ≡ 0
    unfolding reset_refusal
    whole_resets = rw (whole_set_up, w.kernel.lengths) refl

    -- the value that is read is the threshold's; there is no other parameter
    pub whole_values : (id : ℕ) → value_of m.bank id ≡ cond (eqb id 0) (finished (float t.cur ∷ [])) (refused 24 [])
    unfolding value_of
    whole_values id = rw (one_prepared t m.bank w.one.slots w.one.count, w.one.ready, w.rate, w.sound.declared.slot, w.one.count) (go id)
      where
        go : (id : ℕ) → cond (leb 1 id) (refused 24 []) (finished (float (slot_at id m.bank.smoothers).cur ∷ [])) ≡ cond (eqb id 0) (finished (float t.cur ∷ [])) (refused 24 [])
        go zero = rw (first_slot t m.bank w.one.slots) refl
        go (suc id) = rw (le-leb 1 (suc id) (omega arith), ne_eqb (suc id) 0 (λ z. omega arith)) refl
