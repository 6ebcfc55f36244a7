-- `exp`: within the domain the answer is `exp_at`'s, and 26 on the two ways past it.
use Rattle.std.proofs.Common.{refl}
use lib.Ieee.{of_bits, neg}
use Rattle.arithmetic.proofs.Exp.{in_domain_lem, replied, refused_below, refused_above}
use Rattle.arithmetic.proofs.math.exp.Goals as goal

pub exp_at-requires : goal.exp_at-requires
unfolding of_bits neg
exp_at-requires c = record {
  domain = in_domain_lem c.args.x c.if-x.true c.if-x-2.true;
  high = refl;
}

pub returns-then-x-2 : goal.returns-then-x-2
unfolding of_bits neg
returns-then-x-2 c =
    let b = c in
    let x = b.args.x in
    replied x c.exp_at.result (in_domain_lem x b.if-x.true c.if-x-2.true) c.exp_at.ensures

pub returns-else-x-2 : goal.returns-else-x-2
unfolding of_bits neg
returns-else-x-2 c = refused_above c.args.x c.if-x.true c.if-x-2.false

pub returns-else-x : goal.returns-else-x
unfolding of_bits neg
returns-else-x c = refused_below c.args.x c.if-x.false
