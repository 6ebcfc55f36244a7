-- What binary64 holds: 0.0, what sanitizing leaves, and a value with either sign.
use Rattle.std.proofs.Common.{ℕ, zero, suc, Bool, T, ℤ}
use lib.Ieee.{Float, nan, inf, fin, binary64, fits}
use Rattle.arithmetic.specs.Number
use Rattle.arithmetic.specs.Sanitize.{finite_or_zero}

pub zero-fits : T (fits binary64 Number.zero)
unfolding fits
zero-fits = tt

pub finite_fits : (x : Float) → T (fits binary64 x) → T (fits binary64 (finite_or_zero x))
finite_fits nan h = zero-fits
finite_fits (inf s) h = zero-fits
finite_fits (fin s m e) h = h

pub fits_signed : (s t : Bool) (m : ℕ) (e : ℤ) → T (fits binary64 (fin s m e)) → T (fits binary64 (fin t m e))
unfolding fits
fits_signed s t zero e h = h
fits_signed s t (suc m) e h = h
