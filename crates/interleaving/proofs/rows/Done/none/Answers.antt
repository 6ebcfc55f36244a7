-- `none`: no bit of zeros is set.
use mathlib.Core.Path.{◌≡◌, refl}
use mathlib.Core.Bool.{false}
use Prim.Native.Nat.{ℕ, ◌/◌, ◌%◌, ◌^◌}
use native.Mathlib.Nat.{zero-div}
use lib.ListN.{replicate}
use Rattle.interleaving.specs.Inner.{bit_at}
use Rattle.interleaving.proofs.Pieces.{zeros}
use Rattle.interleaving.proofs.rows.Done.none.Goals as goal

unset : (n k : ℕ) → bit_at (replicate n 0) k ≡ false
unfolding bit_at
unset n k = rw (zeros n (k / 8), zero-div (2 ^ (k % 8))) refl

pub returns : goal.returns
returns c = unset 1024
