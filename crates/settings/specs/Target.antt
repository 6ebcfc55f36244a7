-- The target, for any threshold: exp((threshold dB − margin) × (LN_10 / 20)).
use Rattle.std.specs.Prelude.{cond, Float}
use Rattle.std.specs.Float.{binary64}
use Rattle.std.specs.Float.Ieee.{sub, mul, div, lt, le}
use Rattle.arithmetic.specs.Number
use Rattle.arithmetic.specs.Number.{bits}
use Rattle.arithmetic.specs.Exp.{minus700, exp_of}

abbrev pub ln10 : Float
ln10 = bits 0x4002_6bb1_bbb5_5516

abbrev pub twenty : Float
twenty = bits 0x4034_0000_0000_0000

-- decibels as an argument of exp
abbrev pub argument_of : Float → Float → Float
argument_of threshold margin = mul binary64 (sub binary64 threshold margin) (div binary64 ln10 twenty)

-- an argument above 0 or NaN counts as 0, one below −700 as −700
abbrev pub kept : Float → Float
kept a = cond (lt a minus700) minus700 (cond (le a Number.zero) a Number.zero)

unfoldable pub target_of : Float → Float → Float
target_of threshold margin = exp_of (kept (argument_of threshold margin))
