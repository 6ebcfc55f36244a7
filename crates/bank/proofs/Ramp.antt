-- One smoother over its updates: a value lies within its range after every update, and a Linear value reaches its target in time and stays there.
use mathlib.Core.Path.{◌≡◌, refl, sym, ap, ◌∙◌, subst}
use mathlib.Core.Bool.{Bool, true, false, ◌&&◌}
use Prim.Native.Nat.{ℕ, zero, suc, ◌+◌, ◌-◌, ◌*◌, ◌/◌, ◌≤◌, ◌<◌}
use native.Mathlib.Nat.{le-div_iff_mul-le}
use native.Mathlib.Omega.{arith}
use lib.Dec.{T, leb}
use lib.Ieee.{Float, nan, inf, fin, binary64, up, down, add, sub, mul, div, eq, le}
use lib.Ieee.Fits.{down_pos}
use lib.Ieee.Scale.{finite}
use borrow.Author.Tests.{leb-true, leb-false, eqb-true, eq-eqb}
use Rattle.arithmetic.specs.Number.{one, abs_of, within, ceil_of, copysign_of}
use Rattle.arithmetic.specs.Sanitize.{finite_or_zero}
use Rattle.arithmetic.proofs.Order.{left, right, eq_is, le_is, clash, and-true, eq→le, le_self, le_then_le, le-both→eq}
use Rattle.arithmetic.proofs.Within.{within→finite, clamp_inside, clamp_within, sanitized_finite, sanitized_same}
use Rattle.bank.specs.Param.{range_holds}
use Rattle.bank.specs.Smoother.{changed, ranged, target_set, linear_moved, moved_by, moved, kept, stepped, after}
use Rattle.bank.proofs.One.{target_linear, linear_still, linear_lands, linear_goes}
use Rattle.bank.specs.declared.param.Smoothing.{Smoothing}
use Rattle.bank.specs.declared.param.Smoothing.TheVariants.{Step, Linear, OnePole}
use Rattle.bank.specs.declared.smoother.Smoother.{Smoother}

-- ---- what an update leaves alone
pub record Moved (s r : Smoother) : Type 0 where
  pub cur : Float
  pub left : ℕ
  pub is : r ≡ changed cur s.target left s.step_delta s

linear_is : (s : Smoother) → Moved s (linear_moved s)
linear_is s = go (eq s.cur s.target) refl (leb s.updates_remaining 1) refl
  where
    go : (p : Bool) → eq s.cur s.target ≡ p → (q : Bool) → leb s.updates_remaining 1 ≡ q → Moved s (linear_moved s)
    go true e q f = record { cur = s.cur; left = 0; is = rw e refl }
    go false e true f = record { cur = s.target; left = 0; is = rw (e, f) refl }
    go false e false f = record {
      cur = add binary64 s.cur (copysign_of s.step_delta (sub binary64 s.target s.cur));
      left = s.updates_remaining - 1;
      is = rw (e, f) refl;
    }

by_shape : (k : Smoothing) (s : Smoother) → Moved s (moved_by k s)
by_shape Step s = record { cur = s.target; left = s.updates_remaining; is = refl }
by_shape Linear s = linear_is s
by_shape OnePole s = record { cur = add binary64 s.cur (mul binary64 (sub binary64 s.target s.cur) s.coeff); left = s.updates_remaining; is = refl }

-- an update gives the value, finite and within the range, and the number of updates left; all else stays
pub record Stepped (s : Smoother) : Type 0 where
  pub cur : Float
  pub left : ℕ
  pub is : stepped s ≡ changed (ranged s (finite_or_zero cur)) s.target left s.step_delta s

pub stepped_is : (s : Smoother) → Stepped s
unfolding stepped
stepped_is s = let m = by_shape s.shape s in record { cur = m.cur; left = m.left; is = ap kept m.is }

-- ---- the range
pub true→T : (b : Bool) → b ≡ true → T b
true→T b e = subst T (sym e) tt

pub record Range (lo hi : Float) : Type 0 where
  pub low : T (finite lo)
  pub high : T (finite hi)
  pub ordered : le lo hi ≡ true

pub range_of : (lo hi : Float) → range_holds lo hi ≡ true → Range lo hi
range_of lo hi h =
    let a = and-true (finite lo) (finite hi && le lo hi) h in
    let b = and-true (finite hi) (le lo hi) a.1 in
    record { low = true→T (finite lo) a.0; high = true→T (finite hi) b.0; ordered = b.1 }

-- whatever the value was before
pub step_within : (s : Smoother) → range_holds s.low s.high ≡ true → within s.low s.high (stepped s).cur ≡ true
step_within s h =
    let r = range_of s.low s.high h in
    let m = stepped_is s in
    rw m.is (clamp_within s.low s.high r.low r.high (finite_or_zero m.cur) (sanitized_finite m.cur) r.ordered)

-- ---- what equals a value within a range
eq_finite : (x t : Float) → T (finite t) → eq x t ≡ true → T (finite x)
unfolding eq
eq_finite nan t p h = clash false h refl
eq_finite (inf s) nan p h = absurd p
eq_finite (inf s) (inf u) p h = absurd p
eq_finite (inf s) (fin u n d) p h = clash false h refl
eq_finite (fin s m e) t p h = tt

eq_swap : (x t : Float) → T (finite x) → T (finite t) → eq x t ≡ true → eq t x ≡ true
eq_swap x t p q h = eq_is t x q p ∙ eq-eqb (left t x) (right t x) (sym (eqb-true (left x t) (right x t) (sym (eq_is x t p q) ∙ h)))

eq_self : (x : Float) → T (finite x) → eq x x ≡ true
eq_self x p = le-both→eq x x p p (le_self x p) (le_self x p)

eq_within : (lo hi x t : Float) → T (finite lo) → T (finite hi) → within lo hi t ≡ true → eq x t ≡ true → within lo hi x ≡ true
eq_within lo hi x t p q h e =
    let k = and-true (le lo t) (le t hi) h in
    let f = within→finite lo hi p q t h in
    let g = eq_finite x t f e in
    rw (le_then_le lo t x p f g k.0 (eq→le t x (eq_swap x t g f e)), le_then_le x t hi g f q (eq→le x t e) k.1) refl

-- ---- a Linear ramp
pub record Ramp (s : Smoother) : Type 0 where
  pub shape : s.shape ≡ Linear
  pub range : Range s.low s.high
  pub inside : within s.low s.high s.target ≡ true

module _ (s : Smoother) (r : Ramp s) where
  as_linear : moved s ≡ linear_moved s
  as_linear = ap (λ (k : Smoothing). moved_by k s) r.shape

  -- what lies within the range is kept as it is
  same_kept : (x : Float) → within s.low s.high x ≡ true → ranged s (finite_or_zero x) ≡ x
  same_kept x h = rw (sanitized_same x (within→finite s.low s.high r.range.low r.range.high x h)) (clamp_inside s.low s.high r.range.low r.range.high x h)

  still : eq s.cur s.target ≡ true → stepped s ≡ changed s.cur s.target 0 s.step_delta s
  unfolding stepped
  still e =
      ap kept (as_linear ∙ sym (linear_still s e))
      ∙ ap (λ (x : Float). changed x s.target 0 s.step_delta s) (same_kept s.cur (eq_within s.low s.high s.cur s.target r.range.low r.range.high r.inside e))

  lands : eq s.cur s.target ≡ false → leb s.updates_remaining 1 ≡ true → stepped s ≡ changed s.target s.target 0 s.step_delta s
  unfolding stepped
  lands e f = ap kept (as_linear ∙ sym (linear_lands s e (leb-true s.updates_remaining 1 f))) ∙ ap (λ (x : Float). changed x s.target 0 s.step_delta s) (same_kept s.target r.inside)

  abbrev gone : Float
  gone = ranged s (finite_or_zero (add binary64 s.cur (copysign_of s.step_delta (sub binary64 s.target s.cur))))

  goes : eq s.cur s.target ≡ false → leb s.updates_remaining 1 ≡ false → stepped s ≡ changed gone s.target (s.updates_remaining - 1) s.step_delta s
  unfolding stepped
  goes e f = ap kept (as_linear ∙ sym (linear_goes s e (leb-false s.updates_remaining 1 f) (copysign_of s.step_delta (sub binary64 s.target s.cur)) refl))

  on : (x : Float) (n : ℕ) → Ramp (changed x s.target n s.step_delta s)
  on x n = record { shape = r.shape; range = r.range; inside = r.inside }

pub after_none : (s : Smoother) → after zero s ≡ s
unfolding after
after_none s = refl

pub after_one : (n : ℕ) (s : Smoother) → after (suc n) s ≡ after n (stepped s)
unfolding after
after_one n s = refl

-- a value that equals its target goes on doing so
stays : (n : ℕ) (s : Smoother) → Ramp s → eq s.cur s.target ≡ true → eq (after n s).cur s.target ≡ true
stays zero s r e = rw after_none e
stays (suc n) s r e = rw (after_one, still s r e) (stays n (changed s.cur s.target 0 s.step_delta s) (on s r s.cur 0) e)

-- the first update, by the tests of a Linear one; the rest, where it neither stands nor lands, is given
first_update : (n : ℕ) (s : Smoother) (r : Ramp s) → s.updates_remaining ≤ suc n → (1 < s.updates_remaining → eq (after n (changed (gone s r) s.target (s.updates_remaining - 1) s.step_delta s)).cur s.target ≡ true)
    → eq (after (suc n) s).cur s.target ≡ true
first_update n s r h rest = rw after_one (go (eq s.cur s.target) refl (leb s.updates_remaining 1) refl)
  where
    go : (p : Bool) → eq s.cur s.target ≡ p → (q : Bool) → leb s.updates_remaining 1 ≡ q → eq (after n (stepped s)).cur s.target ≡ true
    go true e q f = rw (still s r e) (stays n (changed s.cur s.target 0 s.step_delta s) (on s r s.cur 0) e)
    go false e true f =
        rw (lands s r e f)
        (stays n (changed s.target s.target 0 s.step_delta s) (on s r s.target 0) (eq_self s.target (within→finite s.low s.high r.range.low r.range.high s.target r.inside)))
    go false e false f = rw (goes s r e f) (rest (leb-false s.updates_remaining 1 f))

-- from any Linear smoother whose target lies within its range: within its own remaining updates, at least one
pub reaches : (n : ℕ) (s : Smoother) → Ramp s → s.updates_remaining ≤ suc n → eq (after (suc n) s).cur s.target ≡ true
reaches zero s r h = first_update zero s r h (λ k. absurd (omega arith))
reaches (suc n) s r h =
    first_update (suc n) s r h (λ k. reaches n (changed (gone s r) s.target (s.updates_remaining - 1) s.step_delta s) (on s r (gone s r) (s.updates_remaining - 1)) (omega arith))

-- at least one step is at least one update
ceil_least : (x : Float) → le one x ≡ true → 1 ≤ ceil_of x
unfolding le
ceil_least nan h = clash false h refl
ceil_least (inf true) h = clash false h refl
ceil_least (inf false) h = omega arith
ceil_least (fin true m e) h = absurd (omega (arith, down_pos e, leb-true (left one (fin true m e)) (right one (fin true m e)) (sym (le_is one (fin true m e) tt tt) ∙ h)))
ceil_least (fin false m e) h =
    let k : down e ≤ m * up e = omega (arith, leb-true (left one (fin false m e)) (right one (fin false m e)) (sym (le_is one (fin false m e) tt tt) ∙ h)) in
    let l : 1 ≤ (m * up e + (down e - 1)) / down e = (le-div_iff_mul-le (down_pos e)).1 (omega arith) in
    omega arith

-- after a `set_target` that changes the target
module _ (s : Smoother) (v : Float) (l : s.shape ≡ Linear) (range : range_holds s.low s.high ≡ true) (f : T (finite v)) (new : eq (ranged s v) s.target ≡ false) where
  pub target_is : target_set v s ≡ changed s.cur (ranged s v) (ceil_of s.steps) (div binary64 (abs_of (sub binary64 (ranged s v) s.cur)) s.steps) s
  target_is = sym (target_linear v (ranged s v) s refl new l (ceil_of s.steps) (abs_of (sub binary64 (ranged s v) s.cur)) refl refl)

  pub target_reached : (n : ℕ) → ceil_of s.steps ≤ suc n → eq (after (suc n) (target_set v s)).cur (ranged s v) ≡ true
  target_reached n h =
      let r = range_of s.low s.high range in
      rw target_is
      (reaches n (changed s.cur (ranged s v) (ceil_of s.steps) (div binary64 (abs_of (sub binary64 (ranged s v) s.cur)) s.steps) s)
      (record { shape = l; range = r; inside = clamp_within s.low s.high r.low r.high v f r.ordered }) h)

  -- with at least one step, as every derived number of steps is: within ceil(steps) updates
  pub target_in_time : le one s.steps ≡ true → (n : ℕ) → ceil_of s.steps ≤ n → eq (after n (target_set v s)).cur (ranged s v) ≡ true
  target_in_time k zero h = absurd (omega (arith, ceil_least s.steps k))
  target_in_time k (suc n) h = target_reached n h
