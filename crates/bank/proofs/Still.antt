-- What a step leaves alone: a Linear smoother at its target, and a bank whose one slot it is.
use mathlib.Core.Path.{◌≡◌, refl, sym, ap, ◌∙◌, subst}
use mathlib.Core.Bool.{Bool, true, not, ◌&&◌}
use mathlib.Core.List.{List, [], ◌∷◌}
use Prim.Native.Nat.{ℕ, ◌<◌}
use native.Mathlib.Omega.{arith}
use lib.Dec.{T, eqb}
use lib.ListN.{length, get_or}
use lib.Ieee.{Float, eq, lt}
use lib.Ieee.Scale.{finite}
use denote.Enum.Bare.{sameb}
use borrow.Author.Tests.{eqb-true, not-true}
use Rattle.arithmetic.specs.Sanitize.{finite_or_zero}
use Rattle.arithmetic.proofs.Order.{and-true}
use Rattle.arithmetic.proofs.Within.{sanitized_same}
use Rattle.bank.specs.Smoother.{changed, ranged, moved_by, kept, stepped}
use Rattle.bank.specs.Bank.{with_slots, first_mapped, all_changed}
use Rattle.bank.specs.contracts.param.Smoothing.{the_type}
use Rattle.bank.specs.declared.param.Smoothing.{Smoothing}
use Rattle.bank.specs.declared.param.Smoothing.TheVariants.{Linear}
use Rattle.bank.specs.declared.smoother.Smoother.{Smoother}
use Rattle.bank.specs.declared.smoother_bank.SmootherBank.{SmootherBank}
use Rattle.bank.proofs.One.{is_linear, linear_still}

-- ---- one smoother
module _ (s : Smoother) where
  -- a finite value within the range is kept as it is, a zero with its sign
  kept_same : finite s.cur ≡ true → not (lt s.cur s.low) ≡ true → not (lt s.high s.cur) ≡ true → ranged s (finite_or_zero s.cur) ≡ s.cur
  kept_same f l h = rw (sanitized_same s.cur (subst T (sym f) tt), not-true (lt s.cur s.low) l, not-true (lt s.high s.cur) h) refl

  -- by the tests of `is_still`
  pub linear_rests : (linear f : Bool) → linear ≡ sameb the_type s.shape Linear → f ≡ finite s.cur
      → linear && (eq s.cur s.target && eqb s.updates_remaining 0) && (not (lt s.cur s.low) && not (lt s.high s.cur)) && f ≡ true → stepped s ≡ s
  unfolding stepped
  linear_rests linear f k e h =
      let c = and-true (linear && (eq s.cur s.target && eqb s.updates_remaining 0) && (not (lt s.cur s.low) && not (lt s.high s.cur))) f h in
      let b = and-true (linear && (eq s.cur s.target && eqb s.updates_remaining 0)) (not (lt s.cur s.low) && not (lt s.high s.cur)) c.0 in
      let a = and-true linear (eq s.cur s.target && eqb s.updates_remaining 0) b.0 in
      let stands = and-true (eq s.cur s.target) (eqb s.updates_remaining 0) a.1 in
      let inside = and-true (not (lt s.cur s.low)) (not (lt s.high s.cur)) b.1 in
      ap kept (ap (λ (x : Smoothing). moved_by x s) (is_linear s.shape linear k a.0) ∙ sym (linear_still s stands.0))
      ∙ ap (λ (x : Float). changed x s.target 0 s.step_delta s) (kept_same (sym e ∙ c.1) inside.0 inside.1)
      ∙ ap (λ (n : ℕ). changed s.cur s.target n s.step_delta s) (sym (eqb-true s.updates_remaining 0 stands.1))

-- ---- a bank
pub first_rests : (ss : List Smoother) (d : Smoother) → 0 < length ss → stepped (get_or ss 0 d) ≡ get_or ss 0 d → first_mapped stepped 1 ss ≡ ss
unfolding first_mapped
first_rests [] d h e = absurd (omega arith)
first_rests (s ∷ ss) d h e = ap (λ (x : Smoother). x ∷ ss) e

pub bank_rests : (b : SmootherBank) (first : Bool) → (first ≡ true → first_mapped stepped 1 b.smoothers ≡ b.smoothers) → eqb b.count 1 && first ≡ true → all_changed stepped b ≡ b
bank_rests b first f h =
    let a = and-true (eqb b.count 1) first h in
    ap (λ (n : ℕ). with_slots (first_mapped stepped n b.smoothers) b) (eqb-true b.count 1 a.0) ∙ ap (λ (ss : List Smoother). with_slots ss b) (f a.1)

-- of its first slot, as the code reads it
pub bank_stands : (b : SmootherBank) (d : Smoother) → 0 < length b.smoothers → (first : Bool) → (first ≡ true → stepped (get_or b.smoothers 0 d) ≡ get_or b.smoothers 0 d) → eqb b.count 1 && first ≡ true → all_changed stepped b ≡ b
bank_stands b d some first f h = bank_rests b first (λ e. first_rests b.smoothers d some (f e)) h
