-- Where no refusal arises of several in turn, each was passed.
use Rattle.std.proofs.Common.{◌≡◌, ℕ, suc, Bool, true, false, eqb, refl, arith, eqb-true}
use borrow.Author.Tests.{eqb-false}
use Rattle.arithmetic.specs.Reply.{Reply, unless, must, and_then}

pub passed_unless : (b : Bool) (n rest : ℕ) → unless b (suc n) rest ≡ 0 → (b ≡ true) × (rest ≡ 0)
passed_unless true n rest z = (refl, z)
passed_unless false n rest z = absurd (omega arith)

pub passed_must : (b : Bool) (n : ℕ) → (must b (suc n)).number ≡ 0 → b ≡ true
passed_must true n z = refl
passed_must false n z = absurd (omega arith)

pub passed_then : (r next : Reply) → (and_then r next).number ≡ 0 → (r.number ≡ 0) × (next.number ≡ 0)
passed_then r next z = go (eqb r.number 0) refl
  where
    go : (b : Bool) → eqb r.number 0 ≡ b → (r.number ≡ 0) × (next.number ≡ 0)
    go true e = (eqb-true r.number 0 e, rw e at z)
    go false e = absurd (eqb-false r.number 0 e (rw e at z))
