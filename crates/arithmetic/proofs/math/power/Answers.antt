-- `power`: a field of 1 to 1023 is no NaN's.
use Rattle.std.proofs.Common.{Bool, not, T, sym, subst}
use Rattle.arithmetic.proofs.Power.{power-is, power_number}
use Rattle.arithmetic.proofs.math.power.Goals as goal

pub float_from_bits-result : goal.float_from_bits-result
float_from_bits-result c = subst (λ (b : Bool). T (not b)) (sym (power_number c.args.n c.requires)) tt

pub returns : goal.returns
returns c = power-is c.args.n c.requires
