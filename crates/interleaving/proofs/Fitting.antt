-- The audio of a call that is not refused, in tiles and the frames left.
use mathlib.Core.Path.{◌≡◌, sym, ap, ◌∙◌}
use Prim.Native.Nat.{ℕ, ◌*◌, ◌/◌, ◌%◌, ◌≤◌}
use native.Mathlib.Nat.{mul-le-mul_right, one-mul, div-add-mod}
use native.Mathlib.Omega.{arith}
use Rattle.audio.specs.Format.{sample_bytes}
use Rattle.audio.specs.declared.format.Format.{Format}
use Rattle.interleaving.specs.Inner.{Lengths, Taken}

module _ {format : Format} {channels frames bytes : ℕ} (k : Taken format channels frames bytes) where
  abbrev tiles : ℕ
  tiles = frames / 64

  -- few enough tiles
  pub tiles_few : tiles ≤ 8192
  tiles_few = omega (arith, mul-le-mul_right {m = 1} {n = channels} frames k.some, one-mul frames, k.short)

  -- tiles, and the frames left
  pub lengths_of_lem : (m : ℕ) → m ≡ bytes → Lengths format channels tiles (frames % 64) m
  lengths_of_lem m e = record {
    few = k.few;
    short = omega arith;
    bounded = tiles_few;
    exact = e ∙ k.long ∙ ap (λ (n : ℕ). sample_bytes format * (channels * n)) (sym (div-add-mod frames 64));
  }
