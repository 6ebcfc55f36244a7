-- `release_coeff`: −1 / rel is within the domain.
use Rattle.std.proofs.Common.{◌≡◌, ℕ, true, false, refl}
use lib.Ieee.{Float, binary64, div, eq, of_bits, neg}
use Rattle.arithmetic.specs.Number
use Rattle.arithmetic.specs.Number.{frames_of_ms}
use Rattle.arithmetic.specs.Exp.{in_domain}
use Rattle.arithmetic.proofs.Exp.{value_or}
use Rattle.settings.specs.Accepted.{rate_taken, release_taken}
use Rattle.settings.specs.Derived.{minus_one}
use Rattle.settings.proofs.Domain.{release_within}
use Rattle.settings.proofs.derived.release_coeff.Goals as goal

-- the argument, for a rel that is not 0
argument_within : (ms : Float) (rate : ℕ) {rel : Float} → release_taken ms ≡ true → rate_taken rate ≡ true → rel ≡ frames_of_ms ms rate → eq rel Number.zero ≡ false → in_domain (div binary64 minus_one rel) ≡ true
argument_within ms rate r t e n = rw e (release_within ms rate r t (rw e at n))

pub returns : goal.returns
unfolding of_bits neg
returns c =
    rw (c.unwrap_or.ensures, value_or _ (argument_within _ _ c.requires.release_taken c.requires.rate_taken c.frames-rel.ensures c.if-rel.false) _ _ c.exp.ensures, ← c.frames-rel.ensures, c.if-rel.false) refl
