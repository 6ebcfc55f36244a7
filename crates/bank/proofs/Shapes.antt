-- A shape and its word: each is had back from the other.
use Prim.Native.Nat.{ℕ, zero, suc, ◌≤◌}
use mathlib.Core.Path.{◌≡◌, refl}
use mathlib.Core.Bool.{true}
use native.Mathlib.Omega.{arith}
use lib.Dec.{leb}
use Rattle.bank.specs.Words.{shape_of, shape_word}
use Rattle.bank.specs.declared.param.Smoothing.{Smoothing}
use Rattle.bank.specs.declared.param.Smoothing.TheVariants.{Step, Linear, OnePole}

pub shape_back : (s : Smoothing) → shape_of (shape_word s) ≡ s
shape_back Step = refl
shape_back Linear = refl
shape_back OnePole = refl

pub shape_small : (s : Smoothing) → leb (shape_word s) 2 ≡ true
shape_small Step = refl
shape_small Linear = refl
shape_small OnePole = refl

pub shape_word_lem : (w : ℕ) → w ≤ 2 → shape_word (shape_of w) ≡ w
shape_word_lem zero h = refl
shape_word_lem (suc zero) h = refl
shape_word_lem (suc (suc zero)) h = refl
shape_word_lem (suc (suc (suc w))) h = absurd (omega arith)
