-- `mark`: one bit more.
use native.Mathlib.Omega.{arith}
use Rattle.interleaving.proofs.Bits.{marked}
use Rattle.interleaving.proofs.rows.Done.mark.Goals as goal

pub returns : goal.returns
returns c = marked c.args.self.now.bits c.args.k (omega arith)
