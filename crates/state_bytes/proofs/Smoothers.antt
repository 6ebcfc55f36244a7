-- What a call does to a smoother leaves one that twelve words hold.
use mathlib.Core.Bool.{Bool, true, false, cond}
use Prim.Native.Nat.{ℕ, ◌-◌, ◌<◌, ◌^◌}
use native.Mathlib.Omega.{arith}
use lib.Dec.{leb}
use lib.Ieee.{Float, binary64, add, sub, mul, div, eq}
use lib.Ieee.Fits.{add-fits, sub-fits, div-fits}
use Rattle.arithmetic.specs.Number.{one, frames_of_ms, abs_of, copysign_of, ceil_of}
use Rattle.arithmetic.specs.Sanitize.{finite_or_zero}
use Rattle.bank.specs.Smoother.{steps_of, coeff_of, smoother_of, changed, ranged, aimed, target_set, immediate_set, reset_one, linear_moved, moved_by, moved, kept, stepped}
use Rattle.bank.specs.declared.param.ParamInfo.{ParamInfo}
use Rattle.bank.specs.declared.param.Smoothing.{Smoothing}
use Rattle.bank.specs.declared.param.Smoothing.TheVariants.{Step, Linear, OnePole}
use Rattle.bank.specs.declared.smoother.Smoother.{Smoother}
use Rattle.state_bytes.proofs.Storable.{Fits, SmootherFits}
use Rattle.arithmetic.proofs.Fitting.{zero-fits, finite_fits}
use Rattle.state_bytes.proofs.Floats.{one_fits, clamp_fits, max_fits, ceil_small}

module _ (s : Smoother) (h : SmootherFits s) where
  changed_fits : (x t : Float) (n : ℕ) (d : Float) → Fits x → Fits t → n < 2 ^ 64 → Fits d → SmootherFits (changed x t n d s)
  changed_fits x t n d X T N D = record {
    id = h.id;
    cur = X;
    target = T;
    low = h.low;
    high = h.high;
    default = h.default;
    steps = h.steps;
    left = N;
    delta = D;
    coeff = h.coeff;
    time = h.time;
  }

  ranged_fits : (x : Float) → Fits x → Fits (ranged s x)
  ranged_fits x X = clamp_fits x s.low s.high X h.low h.high

  pub immediate_fits : (v : Float) → Fits v → SmootherFits (immediate_set v s)
  unfolding immediate_set
  immediate_fits v k = changed_fits (ranged s v) (ranged s v) 0 s.step_delta (ranged_fits v k) (ranged_fits v k) (omega arith) h.delta

  pub reset_fits : SmootherFits (reset_one s)
  unfolding reset_one
  reset_fits = changed_fits s.default s.default 0 s.step_delta h.default h.default (omega arith) h.delta

  aimed_fits : (shape : Smoothing) (t : Float) → Fits t → SmootherFits (aimed shape t s)
  aimed_fits Step t T = changed_fits s.cur t s.updates_remaining s.step_delta h.cur T h.left h.delta
  aimed_fits Linear t T =
      changed_fits s.cur t (ceil_of s.steps) (div binary64 (abs_of (sub binary64 t s.cur)) s.steps) h.cur T (ceil_small s.steps) (div-fits binary64 _ s.steps)
  aimed_fits OnePole t T = changed_fits s.cur t s.updates_remaining s.step_delta h.cur T h.left h.delta

  pub target_fits : (v : Float) → Fits v → SmootherFits (target_set v s)
  unfolding target_set
  target_fits v k = go (eq (ranged s v) s.target)
    where
      go : (b : Bool) → SmootherFits (cond b s (aimed s.shape (ranged s v) s))
      go true = h
      go false = aimed_fits s.shape (ranged s v) (ranged_fits v k)

  linear_fits : SmootherFits (linear_moved s)
  linear_fits = go (eq s.cur s.target) (leb s.updates_remaining 1)
    where
      d : Float
      d = s.step_delta

      stepping : Float
      stepping = add binary64 s.cur (copysign_of d (sub binary64 s.target s.cur))

      go : (b c : Bool)
          → SmootherFits (cond b (changed s.cur s.target 0 d s) (cond c (changed s.target s.target 0 d s) (changed stepping s.target (s.updates_remaining - 1) d s)))
      go true c = changed_fits s.cur s.target 0 d h.cur h.target (omega arith) h.delta
      go false true = changed_fits s.target s.target 0 d h.target h.target (omega arith) h.delta
      go false false = changed_fits stepping s.target (s.updates_remaining - 1) d (add-fits binary64 _ _) h.target (omega (arith, h.left)) h.delta

  moved_fits : (shape : Smoothing) → SmootherFits (moved_by shape s)
  moved_fits Step = changed_fits s.target s.target s.updates_remaining s.step_delta h.target h.target h.left h.delta
  moved_fits Linear = linear_fits
  moved_fits OnePole =
      changed_fits (add binary64 s.cur (mul binary64 (sub binary64 s.target s.cur) s.coeff)) s.target s.updates_remaining s.step_delta (add-fits binary64 _ _) h.target h.left h.delta

kept_fits : (s : Smoother) → SmootherFits s → SmootherFits (kept s)
kept_fits s h =
    changed_fits s h (ranged s (finite_or_zero s.cur)) s.target s.updates_remaining s.step_delta (ranged_fits s h (finite_or_zero s.cur) (finite_fits s.cur h.cur)) h.target h.left h.delta

pub step_fits : (s : Smoother) → SmootherFits s → SmootherFits (stepped s)
unfolding stepped
step_fits s h = kept_fits (moved s) (moved_fits s h s.shape)

-- ---- a new one
coeff_fits : (shape : Smoothing) (steps : Float) → Fits (coeff_of shape steps)
unfolding coeff_of
coeff_fits Step steps = one_fits
coeff_fits Linear steps = one_fits
coeff_fits OnePole steps = sub-fits binary64 one _

pub new_fits : (rate : ℕ) (p : ParamInfo) → p.id < 2 ^ 32 → Fits p.low → Fits p.high → Fits p.default → Fits p.smoothing_ms → SmootherFits (smoother_of rate p)
unfolding smoother_of steps_of
new_fits rate p I L H D M = record {
  id = I;
  cur = D;
  target = D;
  low = L;
  high = H;
  default = D;
  steps = max_fits (div binary64 (frames_of_ms p.smoothing_ms rate) _) one (div-fits binary64 _ _) one_fits;
  left = omega arith;
  delta = zero-fits;
  coeff = coeff_fits p.smoothing _;
  time = M;
}
