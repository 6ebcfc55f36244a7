-- `exp` lies within 0 and 1 on its domain.
use Rattle.std.proofs.Common.{◌≡◌, ℕ, ◌*◌, ◌<◌, ◌≤◌, Bool, true, false, cond, ltb, leb, ℤ, refl, arith, lit<, lit≤, ltb-false, ltb-true, leb-false, leb-true}
use lib.Ieee.{Float, nan, inf, fin, binary64, up, down, neg, add, sub, le, of_bits}
use lib.Ieee.Fits.{down_pos}
use Rattle.arithmetic.specs.Number
use Rattle.arithmetic.specs.Number.{one, within}
use Rattle.arithmetic.specs.Exp.{minus700, in_domain, high_of, cut_of, steps_of, scaled, reduced, exp_of}
use Rattle.arithmetic.proofs.Order.{clash, and-true}
use Rattle.arithmetic.proofs.Within.{unit→finite}
use Rattle.arithmetic.proofs.Cut.{magnitude, cut_bounded}
use Rattle.arithmetic.proofs.Exp.{in_domain_lem}
use Rattle.arithmetic.proofs.UnitBound.{le→numbers, numbers→le, not_plus, not_minus}
use Rattle.arithmetic.proofs.UnitScaled.{Small, widen, one_more, scaled_none}
use Rattle.arithmetic.proofs.UnitHigh.{past_first, within_none, past_none, within_one, past_one}
use Rattle.arithmetic.proofs.UnitReduced.{Reduced, reduced_small, reduced_unit, near_one, near_cut}

-- ---- the magnitude of what is within the domain
at_most : (s : Bool) (m : ℕ) (e : ℤ) → le minus700 (fin s m e) ≡ true → le (fin s m e) Number.zero ≡ true → m * up e ≤ 700 * down e
at_most true m e h k = magnitude m e h
at_most false m e h k = omega (arith, not_plus m e k)

-- ---- past the middle x has its sign, since it is not zero: −k is 1 to 1010, and reduces x
pub record Steps (x : Float) (n : ℕ) : Type 0 where
  pub some : 0 < n
  pub few : n ≤ 1010
  pub reduces : Reduced x n

past_middle : (s : Bool) (m : ℕ) (e : ℤ) → le minus700 (fin s m e) ≡ true → le (fin s m e) Number.zero ≡ true → 0x3fd6_2e42 < high_of (fin s m e) → (b : Bool) → ltb (high_of (fin s m e)) 0x3ff0_a2b2 ≡ b
    → Steps (fin s m e) (cond b 1 (cut_of (fin s m e)))
past_middle false m e low high k b t = absurd (omega (arith, not_plus m e high, past_none false m e (at_most false m e low high) k, down_pos e))
past_middle true m e low high k true t =
    let l = at_most true m e low high in
    let r = near_one m e (past_none true m e l k) (within_one true m e l (ltb-true (high_of (fin true m e)) 0x3ff0_a2b2 t)) in
    record { some = lit< tt; few = lit≤ tt; reduces = reduced_small 1 m e (lit≤ tt) r }
past_middle true m e low high k false t =
    let l = at_most true m e low high in
    let n = cut_of (fin true m e) in
    let N = (cut_bounded (fin true m e) (in_domain_lem (fin true m e) low high) (omega arith)).small in
    let r = near_cut n m e l (omega arith) refl (past_one true m e l (ltb-false (high_of (fin true m e)) 0x3ff0_a2b2 t)) in
    record { some = r.0; few = N; reduces = reduced_small n m e (omega arith) r.1 }

-- ---- the ranges of h
module _ (s : Bool) (m : ℕ) (e : ℤ) (low : le minus700 (fin s m e) ≡ true) (high : le (fin s m e) Number.zero ≡ true) where
  abbrev x : Float
  x = fin s m e

  small : high_of x ≤ 0x3fd6_2e42 → Small 24 x
  small k = record { known = tt; most = omega (arith, within_none s m e (at_most s m e low high) k) }

  abbrev past : Bool → Float
  past b = cond b (scaled x x Number.zero 0) (reduced x (cond (ltb (high_of x) 0x3ff0_a2b2) 1 (cut_of x)))

  second : (b : Bool) → leb (high_of x) 0x3fd6_2e42 ≡ b → 0x3e30_0000 < high_of x → within Number.zero one (past b) ≡ true
  second true t k = scaled_none x (small (leb-true (high_of x) 0x3fd6_2e42 t)) high (past_first s m e (at_most s m e low high) k)
  second false t k =
      let n = steps_of (high_of x) x in
      let r = past_middle s m e low high (leb-false (high_of x) 0x3fd6_2e42 t) (ltb (high_of x) 0x3ff0_a2b2) refl in
      reduced_unit x n r.some r.reduces

  first : (b : Bool) → leb (high_of x) 0x3e30_0000 ≡ b → within Number.zero one (cond b (add binary64 one x) (past (leb (high_of x) 0x3fd6_2e42))) ≡ true
  first true t =
      let h = leb-true (high_of x) 0x3e30_0000 t in
      one_more x (widen 64 x (lit≤ tt) (small (omega arith))) high
  first false t = second (leb (high_of x) 0x3fd6_2e42) refl (leb-false (high_of x) 0x3e30_0000 t)

-- a law of every finite x in the domain
pub at_finite : (P : Float → Type 0) → ((s : Bool) (m : ℕ) (e : ℤ) → le minus700 (fin s m e) ≡ true → le (fin s m e) Number.zero ≡ true → P (fin s m e)) → (x : Float) → in_domain x ≡ true → P x
unfolding le of_bits
at_finite P f nan d = clash false d refl
at_finite P f (inf true) d = clash false d refl
at_finite P f (inf false) d = clash false d refl
at_finite P f (fin s m e) d =
    let x = fin s m e in
    let k = and-true (le minus700 x) (le x Number.zero) d in
    f s m e k.0 k.1

-- x where k is 0
pub unreduced : (x : Float) → in_domain x ≡ true → high_of x ≤ 0x3fd6_2e42 → Small 24 x
unreduced = at_finite (λ (x : Float). high_of x ≤ 0x3fd6_2e42 → Small 24 x) small

-- −k where it is not 0
pub steps : (x : Float) → in_domain x ≡ true → 0x3fd6_2e42 < high_of x → Steps x (steps_of (high_of x) x)
steps = at_finite (λ (x : Float). 0x3fd6_2e42 < high_of x → Steps x (steps_of (high_of x) x)) (λ s m e low high k. past_middle s m e low high k (ltb (high_of (fin s m e)) 0x3ff0_a2b2) refl)

pub exp_unit : (x : Float) → in_domain x ≡ true → within Number.zero one (exp_of x) ≡ true
unfolding exp_of
exp_unit = at_finite (λ (x : Float). within Number.zero one (exp_of x) ≡ true) (λ s m e low high. first s m e low high (leb (high_of (fin s m e)) 0x3e30_0000) refl)

-- ---- what 1 less such a value is
pub complement_unit : (v : Float) → within Number.zero one v ≡ true → within Number.zero one (sub binary64 one v) ≡ true
unfolding sub neg
complement_unit nan h = absurd (unit→finite nan h)
complement_unit (inf s) h = absurd (unit→finite (inf s) h)
complement_unit (fin s m e) h =
    let k = and-true (le Number.zero (fin s m e)) (le (fin s m e) one) h in
    one_more (neg (fin s m e)) (record { known = tt; most = size s k.0 k.1 }) (low s k.0)
  where
    size : (s : Bool) → le Number.zero (fin s m e) ≡ true → le (fin s m e) one ≡ true → m * up e * 64 ≤ 64 * down e
    size true h k = omega (arith, not_minus m e h)
    size false h k = omega (arith, le→numbers (fin false m e) one tt tt k)

    low : (s : Bool) → le Number.zero (fin s m e) ≡ true → le (neg (fin s m e)) Number.zero ≡ true
    low true h = numbers→le (fin false m e) Number.zero tt tt (omega (arith, not_minus m e h))
    low false h = numbers→le (fin true m e) Number.zero tt tt (omega arith)
