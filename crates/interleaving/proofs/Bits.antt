-- Bits of bytes, of which one is set.
use mathlib.Core.Path.{◌≡◌, refl, ap}
use mathlib.Core.Bool.{Bool, true, false, ◌||◌}
use mathlib.Core.List.{List}
use Prim.Native.Nat.{ℕ, ◌*◌, ◌/◌, ◌%◌, ◌^◌, ◌<◌}
use native.Mathlib.Omega.{arith}
use borrow.Author.Tests.{eqb-true, eqb-false, eq-eqb}
use lib.Dec.{eqb}
use lib.ListN.{length, get_or, set}
use lib.Seq.{get_or-set_same, get_or-set_other}
use Rattle.std.specs.Int.{w8}
use Rattle.std.specs.Int.Bits.{bit_or}
use Rattle.std.proofs.lemmas.Nat.Bits.{bit_at_set_same, bit_at_set_other}
use Rattle.interleaving.specs.Inner.{bit_at}

module _ (done : List ℕ) (k : ℕ) (room : k < 8 * length done) where
  -- the byte of bit k, once it is set
  abbrev pub set_byte : ℕ
  set_byte = bit_or (get_or done (k / 8) 0) (1 * 2 ^ (k % 8) % 2 ^ 8)

  pub marked : (i : ℕ) → bit_at (set done (k / 8) set_byte) i ≡ (eqb i k || bit_at done i)
  unfolding bit_at
  marked i = go (eqb i k) refl
    where
      within : k % 8 < 8
      within = omega arith

      bit : List ℕ → ℕ → ℕ
      bit bytes b = get_or bytes b 0 / 2 ^ (i % 8) % 2

      same : get_or (set done (k / 8) set_byte) (k / 8) 0 ≡ set_byte
      same = get_or-set_same done (k / 8) set_byte 0 (omega (arith, room))

      near : (eqb i k ≡ false) → (u : Bool) → eqb (i / 8) (k / 8) ≡ u → bit (set done (k / 8) set_byte) (i / 8) ≡ bit done (i / 8)
      near e true f =
          let apart = eqb-false i k e in
          let g = eqb-true (i / 8) (k / 8) f in
          rw (g, same) (bit_at_set_other w8 (get_or done (k / 8) 0) (k % 8) within (i % 8) (λ h. apart (omega (arith, g, h))))
      near e false f = ap (λ (x : ℕ). x / 2 ^ (i % 8) % 2) (get_or-set_other done (k / 8) (i / 8) set_byte 0 (eqb-false (i / 8) (k / 8) f))

      go : (t : Bool) → eqb i k ≡ t → eqb (bit (set done (k / 8) set_byte) (i / 8)) 1 ≡ (t || eqb (bit done (i / 8)) 1)
      go true e = rw (eqb-true i k e, same) (eq-eqb (set_byte / 2 ^ (k % 8) % 2) 1 (bit_at_set_same w8 (get_or done (k / 8) 0) (k % 8) within))
      go false e = ap (λ (b : ℕ). eqb b 1) (near e (eqb (i / 8) (k / 8)) refl)
