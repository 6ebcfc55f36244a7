-- A position that goes on, round at the end: so many places at once.
use mathlib.Core.Path.{◌≡◌, refl, sym, ap, ◌∙◌}
use mathlib.Core.Bool.{Bool, cond}
use Prim.Native.Nat.{ℕ, zero, suc, ◌+◌, ◌-◌, ◌≤◌, ◌<◌}
use native.Mathlib.Omega.{arith}
use borrow.Author.Tests.{eq-eqb, ne_eqb}
use Rattle.envelope.specs.Row.{next_pos, pos_after}

module _ (l : ℕ) where
  -- so many, and so many more
  pub after_add : (p m n : ℕ) → pos_after l p (m + n) ≡ pos_after l (pos_after l p m) n
  unfolding pos_after
  after_add p zero n = let e : zero + n ≡ n = omega arith in rw e refl
  after_add p (suc m) n = let e : suc m + n ≡ suc (m + n) = omega arith in rw e (after_add (next_pos l p) m n)

  -- short of the end
  pub next_up : (p : ℕ) → p + 1 < l → next_pos l p ≡ p + 1
  next_up p h = ap (λ (b : Bool). cond b 0 (p + 1)) (ne_eqb (p + 1) l (λ e. omega arith))

  pub after_up : (p m : ℕ) → p + m < l → pos_after l p m ≡ p + m
  unfolding pos_after
  after_up p zero h = omega arith
  after_up p (suc m) h = let e : p + 1 + m ≡ p + suc m = omega arith in rw (next_up p (omega arith)) (after_up (p + 1) m (omega arith) ∙ e)

  -- a place, and m more, as far as the end
  pub after_last : (p m : ℕ) → p + suc m ≤ l → pos_after l p (suc m) ≡ next_pos l (p + m)
  unfolding pos_after
  after_last p m h = let e : suc m ≡ m + 1 = omega arith in ap (pos_after l p) e ∙ after_add p m 1 ∙ ap (λ (q : ℕ). pos_after l q 1) (after_up p m (omega arith))

  -- from the last place to the first
  next_round : (p : ℕ) → p + 1 ≡ l → next_pos l p ≡ 0
  next_round p h = ap (λ (b : Bool). cond b 0 (p + 1)) (eq-eqb (p + 1) l h)

  -- as far as the end
  pub after_round : (p m : ℕ) → p < l → p + m ≡ l → pos_after l p m ≡ 0
  after_round p zero h e = absurd (omega arith)
  after_round p (suc m) h e = after_last p m (omega arith) ∙ next_round (p + m) (omega arith)

  -- from the start
  pub after_start : (pos n : ℕ) → pos < l → pos_after l 0 (pos + n) ≡ pos_after l pos n
  after_start pos n h = after_add 0 pos n ∙ ap (λ (p : ℕ). pos_after l p n) (after_up 0 pos (omega arith) ∙ omega arith)

  pub after_less : (p : ℕ) → 0 < l → l ≤ p → pos_after l 0 (p - l) ≡ pos_after l 0 p
  after_less p h k =
      let e : l + (p - l) ≡ p = omega arith in
      sym (rw e at (after_add 0 l (p - l) ∙ ap (λ (q : ℕ). pos_after l q (p - l)) (after_round 0 l h (omega arith))))

  pub after_end : (p : ℕ) → p < l → p ≡ pos_after l 0 p
  after_end p h = sym (after_up 0 p (omega arith) ∙ omega arith)
