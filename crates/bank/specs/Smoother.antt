-- One smoother: its derived values, and what a target, an immediate value, an update and a reset make of it. Each operation is rounded, in the order written.
use Rattle.std.specs.Prelude.{ℕ, suc, ◌-◌, Bool, cond, ◌&&◌, eqb, leb, Float}
use Rattle.std.specs.Float.{binary64}
use Rattle.std.specs.Float.Ieee.{add, sub, mul, div, eq}
use Rattle.arithmetic.specs.Number.{bits, zero, one, frames_of_ms, abs_of, max_of, clamp_of, copysign_of, ceil_of, same_value}
use Rattle.arithmetic.specs.Sanitize.{finite_or_zero}
use Rattle.arithmetic.specs.Exp.{exp_of}
use Rattle.bank.specs.Param.{fault_of}
use Rattle.bank.specs.declared.param.ParamInfo.{ParamInfo}
use Rattle.bank.specs.declared.param.Smoothing.{Smoothing}
use Rattle.bank.specs.declared.param.Smoothing.TheVariants.{Step, Linear, OnePole}
use Rattle.bank.specs.declared.smoother.Smoother.{Smoother}

-- ---- derived values
-- steps: ((smoothing time × 1e-3) × rate) / 32, at least 1
unfoldable pub steps_of : Float → ℕ → Float
steps_of ms rate = max_of (div binary64 (frames_of_ms ms rate) (bits 0x4040_0000_0000_0000)) one

-- coefficient: 1 − exp(−1 / steps) for OnePole, else 1
unfoldable pub coeff_of : Smoothing → Float → Float
coeff_of Step steps = one
coeff_of Linear steps = one
coeff_of OnePole steps = sub binary64 one (exp_of (div binary64 (bits 0xbff0_0000_0000_0000) steps))

-- a new smoother stands at its default
unfoldable pub smoother_of : ℕ → ParamInfo → Smoother
smoother_of rate p = record {
  id = p.id;
  cur = p.default;
  target = p.default;
  low = p.low;
  high = p.high;
  default = p.default;
  steps = steps_of p.smoothing_ms rate;
  updates_remaining = 0;
  step_delta = zero;
  shape = p.smoothing;
  coeff = coeff_of p.smoothing (steps_of p.smoothing_ms rate);
  smoothing_ms = p.smoothing_ms;
}

-- what a slot that holds no parameter is filled with
abbrev pub vacant : Smoother
vacant = record {
  id = 0;
  cur = zero;
  target = zero;
  low = zero;
  high = zero;
  default = zero;
  steps = zero;
  updates_remaining = 0;
  step_delta = zero;
  shape = Step;
  coeff = zero;
  smoothing_ms = zero;
}

-- ---- what 18 judges
-- the declaration that a smoother keeps
abbrev pub info_of : Smoother → ParamInfo
info_of s = record { id = s.id; low = s.low; high = s.high; default = s.default; smoothing_ms = s.smoothing_ms; smoothing = s.shape }

-- the derived values are those of the settings
unfoldable pub derived : ℕ → Smoother → Bool
derived rate s = same_value s.steps (steps_of s.smoothing_ms rate) && same_value s.coeff (coeff_of s.shape (steps_of s.smoothing_ms rate))

-- the settings of the smoother at an index pass 2 to 6, and the derived values are theirs
unfoldable pub slot_prepared : ℕ → ℕ → Smoother → Bool
slot_prepared rate index s = eqb (fault_of index (info_of s)) 0 && derived rate s

-- ---- the calls
-- s with another value, target, number of updates left and step size; all else stays
abbrev pub changed : Float → Float → ℕ → Float → Smoother → Smoother
changed cur target left delta s = record {
  id = s.id;
  cur = cur;
  target = target;
  low = s.low;
  high = s.high;
  default = s.default;
  steps = s.steps;
  updates_remaining = left;
  step_delta = delta;
  shape = s.shape;
  coeff = s.coeff;
  smoothing_ms = s.smoothing_ms;
}

-- kept within the range
abbrev pub ranged : Smoother → Float → Float
ranged s x = clamp_of x s.low s.high

-- a target other than the present one: Linear starts a ramp of ceil(steps) updates
abbrev pub aimed : Smoothing → Float → Smoother → Smoother
aimed Step t s = changed s.cur t s.updates_remaining s.step_delta s
aimed Linear t s = changed s.cur t (ceil_of s.steps) (div binary64 (abs_of (sub binary64 t s.cur)) s.steps) s
aimed OnePole t s = changed s.cur t s.updates_remaining s.step_delta s

-- `set_target`: a target that equals the present one restarts nothing
unfoldable pub target_set : Float → Smoother → Smoother
target_set v s = cond (eq (ranged s v) s.target) s (aimed s.shape (ranged s v) s)

unfoldable pub immediate_set : Float → Smoother → Smoother
immediate_set v s = changed (ranged s v) (ranged s v) 0 s.step_delta s

-- the step size is not restored
unfoldable pub reset_one : Smoother → Smoother
reset_one s = changed s.default s.default 0 s.step_delta s

-- a Linear update: nothing to do; the last one lands on the target; any other goes by the step
abbrev pub linear_moved : Smoother → Smoother
linear_moved s =
    cond (eq s.cur s.target) (changed s.cur s.target 0 s.step_delta s)
    (cond (leb s.updates_remaining 1) (changed s.target s.target 0 s.step_delta s)
    (changed (add binary64 s.cur (copysign_of s.step_delta (sub binary64 s.target s.cur))) s.target (s.updates_remaining - 1) s.step_delta s))

abbrev pub moved_by : Smoothing → Smoother → Smoother
moved_by Step s = changed s.target s.target s.updates_remaining s.step_delta s
moved_by Linear s = linear_moved s
moved_by OnePole s = changed (add binary64 s.cur (mul binary64 (sub binary64 s.target s.cur) s.coeff)) s.target s.updates_remaining s.step_delta s

abbrev pub moved : Smoother → Smoother
moved s = moved_by s.shape s

-- the value, finite and within the range
abbrev pub kept : Smoother → Smoother
kept s = changed (ranged s (finite_or_zero s.cur)) s.target s.updates_remaining s.step_delta s

unfoldable pub stepped : Smoother → Smoother
stepped s = kept (moved s)

-- s after n updates
unfoldable pub after : ℕ → Smoother → Smoother
after ℕ.zero s = s
after (suc n) s = after n (stepped s)
