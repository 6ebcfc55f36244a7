-- What a target and a Linear update make of one smoother, by the tests on the way.
use mathlib.Core.Path.{◌≡◌, refl}
use mathlib.Core.Bool.{Bool, true, false}
use Prim.Native.Nat.{ℕ, ◌≤◌, ◌<◌, ◌-◌}
use lib.Ieee.{Float, binary64, add, sub, div, eq}
use denote.Enum.Bare.{sameb}
use borrow.Author.Tests.{le-leb, lt-leb}
use Rattle.arithmetic.specs.Number.{abs_of, ceil_of, copysign_of}
use Rattle.arithmetic.proofs.Order.{clash}
use Rattle.bank.specs.Smoother.{changed, ranged, target_set, linear_moved}
use Rattle.bank.specs.contracts.param.Smoothing.{the_type}
use Rattle.bank.specs.declared.param.Smoothing.{Smoothing}
use Rattle.bank.specs.declared.param.Smoothing.TheVariants.{Step, Linear, OnePole}
use Rattle.bank.specs.declared.smoother.Smoother.{Smoother}

-- a shape that `==` finds Linear
pub is_linear : (shape : Smoothing) (b : Bool) → b ≡ sameb the_type shape Linear → b ≡ true → shape ≡ Linear
is_linear Step b k h = clash b h k
is_linear Linear b k h = refl
is_linear OnePole b k h = clash b h k

module _ (v t : Float) (s : Smoother) (e : t ≡ ranged s v) where
  pub target_linear : eq t s.target ≡ false → s.shape ≡ Linear → (n : ℕ) (d : Float) → n ≡ ceil_of s.steps → d ≡ abs_of (sub binary64 t s.cur) → changed s.cur t n (div binary64 d s.steps) s ≡ target_set v s
  unfolding target_set
  target_linear h k n d a b = rw (← e, h, k, a, b) refl

module _ (s : Smoother) where
  pub linear_still : eq s.cur s.target ≡ true → changed s.cur s.target 0 s.step_delta s ≡ linear_moved s
  linear_still h = rw h refl

  pub linear_lands : eq s.cur s.target ≡ false → s.updates_remaining ≤ 1 → changed s.target s.target 0 s.step_delta s ≡ linear_moved s
  linear_lands h k = rw (h, le-leb s.updates_remaining 1 k) refl

  pub linear_goes : eq s.cur s.target ≡ false → 1 < s.updates_remaining → (d : Float) → d ≡ copysign_of s.step_delta (sub binary64 s.target s.cur)
      → changed (add binary64 s.cur d) s.target (s.updates_remaining - 1) s.step_delta s ≡ linear_moved s
  linear_goes h k d e = rw (h, lt-leb s.updates_remaining 1 k, e) refl
