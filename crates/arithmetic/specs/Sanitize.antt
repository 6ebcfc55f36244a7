-- Module 1 of document 01, `sanitize.rs`.
use Rattle.std.specs.Prelude.{cond, Float}
use Rattle.std.specs.Float.{nan, inf, fin}
use Rattle.std.specs.Float.Ieee.{lt}
use Rattle.arithmetic.specs.Number.{bits, zero, one, abs_of, clamp_of}

-- a non-finite number becomes 0.0
abbrev pub finite_or_zero : Float → Float
finite_or_zero nan = zero
finite_or_zero (inf s) = zero
finite_or_zero (fin s m e) = fin s m e

-- 1e-30
abbrev pub denormal_floor : Float
denormal_floor = bits 0x39b4_484b_feeb_c2a0

-- the output rule: an output below 1e-30 in magnitude becomes +0.0, minus zero and what is not finite included
abbrev pub flush_denormal : Float → Float
flush_denormal x = cond (lt (abs_of (finite_or_zero x)) denormal_floor) zero (finite_or_zero x)

-- a gain: non-finite counts as 0.0, then it is kept within 0 and 1, minus zero staying
abbrev pub unit_gain : Float → Float
unit_gain x = clamp_of (finite_or_zero x) zero one
