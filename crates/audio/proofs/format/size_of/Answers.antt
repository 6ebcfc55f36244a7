-- `size_of`: the test of the definition.
use mathlib.Core.Path.{◌≡◌, refl}
use Prim.Native.Nat.{◌%◌}
use lib.ListN.{length}
use borrow.Author.Tests.{eq-eqb, ne_eqb}
use Rattle.audio.specs.Format.{sample_bytes, size_of}
use Rattle.audio.proofs.format.size_of.Goals as goal

pub returns-then-n-each-eq0 : goal.returns-then-n-each-eq0
unfolding size_of
returns-then-n-each-eq0 c =
    let e : length c.args.bytes.now % sample_bytes c.args.format ≡ 0 = rw (← c.sample_bytes-each.ensures) c.if-n-each-eq0.true in
    rw (eq-eqb _ _ e, c.sample_bytes-each.ensures) refl

pub returns-else-n-each-eq0 : goal.returns-else-n-each-eq0
unfolding size_of
returns-else-n-each-eq0 c =
    rw (ne_eqb (length c.args.bytes.now % sample_bytes c.args.format) 0 (λ e. c.if-n-each-eq0.false (rw c.sample_bytes-each.ensures e))) refl
