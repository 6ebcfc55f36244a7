-- `given_out`: the calls, one inside the other, by the sample type's rule.
use mathlib.Core.Path.{◌≡◌, sym, ap}
use lib.Ieee.{Float}
use Rattle.arithmetic.specs.Narrow.{narrowed}
use Rattle.arithmetic.specs.Sanitize.{flush_denormal}
use Rattle.audio.specs.declared.format.Format.{Format}
use Rattle.audio.specs.declared.format.Format.TheVariants.{F64, F32}
use Rattle.frame.specs.Rules.{leaves_by}
use Rattle.frame.proofs.outputs.given_out.Goals as goal

-- an arm's rule is the sample type's
wide : (f : Format) → f ≡ F64 → (x : Float) → flush_denormal x ≡ leaves_by f x
unfolding leaves_by
wide f e x = ap (λ (g : Format). leaves_by g x) (sym e)

narrow : (f : Format) → f ≡ F32 → (x : Float) → narrowed (flush_denormal x) ≡ leaves_by f x
unfolding leaves_by
narrow f e x = ap (λ (g : Format). leaves_by g x) (sym e)

pub returns-in-F64 : goal.returns-in-F64
returns-in-F64 c =
    rw (c.flush_denormal.ensures, c.finite_or_zero.ensures) (wide c.args.format c.in-F64.is _)

pub returns-in-F32 : goal.returns-in-F32
returns-in-F32 c =
    rw (c.narrow_flushed.ensures, c.finite_or_zero.ensures) (narrow c.args.format c.in-F32.is _)
