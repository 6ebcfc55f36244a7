-- What the branches of `exp` come to, on plain values.
use Rattle.std.proofs.Common.{◌≡◌, ℕ, ◌<◌, ◌≤◌, true, false, [], ◌∷◌, Result, Ok, Err, refl, ap, ◌∙◌, arith, le-leb}
use Rattle.std.specs.Result.{result_unwrap_or}
use lib.Ieee.{Float, le}
use borrow.Author.Tests.{lt-leb}
use Rattle.arithmetic.specs.Number
use Rattle.arithmetic.specs.Reply.{Reply, finished, refused, float}
use Rattle.arithmetic.specs.Answers.{reply_of}
use Rattle.arithmetic.specs.declared.math.OutOfDomain.{OutOfDomain}
use Rattle.arithmetic.specs.Exp.{minus700, in_domain, high_of, steps_of, scaled, reduced, exp_at, exp_of, exp_reply}

pub in_domain_lem : (x : Float) → le minus700 x ≡ true → le x Number.zero ≡ true → in_domain x ≡ true
in_domain_lem x h k = rw (h, k) refl

pub replied : (x r : Float) → in_domain x ≡ true → r ≡ exp_at (high_of x) x → finished (float r ∷ []) ≡ exp_reply x
unfolding exp_reply
replied x r d e = rw (d, e) refl

pub refused_below : (x : Float) → le minus700 x ≡ false → refused 26 [] ≡ exp_reply x
unfolding exp_reply
refused_below x h = rw h refl

pub refused_above : (x : Float) → le minus700 x ≡ true → le x Number.zero ≡ false → refused 26 [] ≡ exp_reply x
unfolding exp_reply
refused_above x h k = rw (h, k) refl

-- ---- the ranges of h
module _ (h : ℕ) (x r : Float) where
  pub at_middle : 0x3e30_0000 < h → h ≤ 0x3fd6_2e42 → r ≡ scaled x x Number.zero 0 → r ≡ exp_at h x
  at_middle a b e = rw (lt-leb h 0x3e30_0000 a, le-leb h 0x3fd6_2e42 b) e

  pub past : 0x3fd6_2e42 < h → exp_at h x ≡ reduced x (steps_of h x)
  past a = rw (lt-leb h 0x3e30_0000 (omega arith), lt-leb h 0x3fd6_2e42 a) refl

-- ---- for callers whose argument is within the domain: the answer is the value
pub exp_value : (x : Float) → in_domain x ≡ true → (a : Result Float OutOfDomain) → reply_of a ≡ exp_reply x → a ≡ Ok (exp_of x)
unfolding exp_reply exp_of
exp_value x d (Ok v) e =
    let k : finished (float v ∷ []) ≡ finished (float (exp_of x) ∷ []) = e ∙ rw d refl in
    let l : float v ∷ [] ≡ float (exp_of x) ∷ [] = ap (λ (r : Reply). r.values) k in
    cc
exp_value x d (Err w) e =
    let k : refused 26 [] ≡ finished (float (exp_of x) ∷ []) = e ∙ rw d refl in
    absurd (let z : ◌≡◌ {A = ℕ} 26 0 = ap (λ (r : Reply). r.number) k in omega arith)

-- the same of the value that a caller takes, whatever stands for a refusal
pub value_or : (x : Float) → in_domain x ≡ true → (a : Result Float OutOfDomain) (other : Float) → reply_of a ≡ exp_reply x → result_unwrap_or a other ≡ exp_of x
value_or x d a other e = rw (exp_value x d a e) refl
