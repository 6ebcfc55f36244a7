-- A smoother as twelve words: id, value, target, range, default, steps, updates left, step size, shape, coefficient, smoothing time. A float crosses as its bits.
use Rattle.std.specs.Prelude.{ℕ, ◌+◌, ◌%◌, ◌^◌, cond, List, [], ◌∷◌, eqb, get_or, Float}
use Rattle.std.specs.Float.{binary64}
use Rattle.std.specs.Float.Ieee.{to_bits}
use Rattle.arithmetic.specs.Number.{bits}
use Rattle.bank.specs.declared.param.Smoothing.{Smoothing}
use Rattle.bank.specs.declared.param.Smoothing.TheVariants.{Step, Linear, OnePole}
use Rattle.bank.specs.declared.smoother.Smoother.{Smoother}

-- ---- out of words
abbrev pub float_in : List ℕ → ℕ → Float
float_in ws k = bits (get_or ws k 0)

-- a number of 32 bits
abbrev pub half_in : List ℕ → ℕ → ℕ
half_in ws k = get_or ws k 0 % 2 ^ 32

abbrev pub shape_of : ℕ → Smoothing
shape_of w = cond (eqb w 0) Step (cond (eqb w 1) Linear OnePole)

-- from a place on
abbrev pub smoother_in : List ℕ → ℕ → Smoother
smoother_in ws k = record {
  id = half_in ws k;
  cur = float_in ws (k + 1);
  target = float_in ws (k + 2);
  low = float_in ws (k + 3);
  high = float_in ws (k + 4);
  default = float_in ws (k + 5);
  steps = float_in ws (k + 6);
  updates_remaining = get_or ws (k + 7) 0;
  step_delta = float_in ws (k + 8);
  shape = shape_of (get_or ws (k + 9) 0);
  coeff = float_in ws (k + 10);
  smoothing_ms = float_in ws (k + 11);
}

-- ---- into words
abbrev pub float_out : Float → ℕ
float_out x = to_bits binary64 x

abbrev pub shape_word : Smoothing → ℕ
shape_word Step = 0
shape_word Linear = 1
shape_word OnePole = 2

abbrev pub smoother_out : Smoother → List ℕ
smoother_out s =
    s.id ∷ float_out s.cur ∷ float_out s.target ∷ float_out s.low ∷ float_out s.high ∷ float_out s.default ∷ float_out s.steps ∷ s.updates_remaining
    ∷ float_out s.step_delta ∷ shape_word s.shape ∷ float_out s.coeff ∷ float_out s.smoothing_ms ∷ []
