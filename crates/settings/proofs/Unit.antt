-- The target and the release coefficient lie within 0 and 1.
use Rattle.std.proofs.Common.{◌≡◌, ℕ, Bool, true, false, cond, refl}
use lib.Ieee.{Float, binary64, div, eq, le, sub}
use Rattle.arithmetic.specs.Number
use Rattle.arithmetic.specs.Number.{one, frames_of_ms, within}
use Rattle.arithmetic.specs.Exp.{exp_of}
use Rattle.arithmetic.proofs.Unit.{exp_unit, complement_unit}
use Rattle.settings.specs.Derived.{minus_one, coefficient_of}
use Rattle.settings.specs.Accepted.{rate_taken, release_taken}
use Rattle.settings.specs.Target.{argument_of, kept, target_of}
use Rattle.settings.proofs.Domain.{kept_within, release_within}

pub target_unit : (t m : Float) → within Number.zero one (target_of t m) ≡ true
unfolding target_of
target_unit t m = exp_unit (kept (argument_of t m)) (kept_within (argument_of t m))

module _ (ms : Float) (rate : ℕ) (taken : release_taken ms ≡ true) (rated : rate_taken rate ≡ true) where
  abbrev argument : Float
  argument = div binary64 minus_one (frames_of_ms ms rate)

  pub coefficient_unit : within Number.zero one (coefficient_of ms rate) ≡ true
  coefficient_unit = go (eq (frames_of_ms ms rate) Number.zero) refl
    where
      go : (b : Bool) → eq (frames_of_ms ms rate) Number.zero ≡ b → within Number.zero one (cond b one (sub binary64 one (exp_of argument))) ≡ true
      go true e = unfold le in refl
      go false e = complement_unit (exp_of argument) (exp_unit argument (release_within ms rate taken rated e))
