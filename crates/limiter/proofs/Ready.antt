-- The kernel's share of 18 and 19 over setup and reset, and what they say.
use mathlib.Core.Path.{◌≡◌, refl, sym, ap, ◌∙◌}
use mathlib.Core.Bool.{Bool, true, false, ◌&&◌}
use mathlib.Core.List.{List}
use Prim.Native.Nat.{ℕ, zero, suc, ◌≤◌, ◌<◌}
use native.Mathlib.Omega.{arith}
use lib.Dec.{eqb, leb}
use lib.ListN.{replicate, length-replicate}
use lib.Ieee.{Float, le, ne}
use borrow.Author.Tests.{eqb-true, eq-eqb, leb-true, le-leb, lt-ltb}
use Rattle.arithmetic.specs.Number
use Rattle.arithmetic.specs.Number.{one, within, same_value}
use Rattle.arithmetic.proofs.Order.{and-true}
use Rattle.arithmetic.proofs.Same.{same_self}
use Rattle.keeper.proofs.Floor.{empty_order}
use Rattle.envelope.specs.Row.{all_unit, tally_of, row_in_order}
use Rattle.settings.specs.Derived.{look_of, row_of, coefficient_of}
use Rattle.settings.specs.Accepted.{refusal_of}
use Rattle.settings.specs.declared.LimiterSettings.{LimiterSettings}
use Rattle.settings.specs.declared.ProcessSpec.{ProcessSpec}
use Rattle.settings.proofs.Taken.{Taken, taken}
use Rattle.settings.proofs.Unit.{target_unit}
use Rattle.limiter.specs.State.{not_set_up, spec_of, started}
use Rattle.limiter.specs.Reset.{reset_state}
use Rattle.limiter.specs.Order.{prepared, is_in_order}
use Rattle.limiter.specs.declared.state.Limiter.{Limiter}

-- ---- what 18 says
pub record Prepared (l : Limiter) : Type 0 where
  pub accepted : refusal_of l.settings (spec_of l) ≡ 0
  pub rules : Taken l.settings (spec_of l)
  pub look_is : l.env.keeper.look ≡ look_of l.settings.lookahead_ms l.rate
  pub coeff_is : same_value l.release_coeff (coefficient_of l.settings.release_ms l.rate) ≡ true

pub prepared_is : (l : Limiter) → prepared l ≡ true → Prepared l
unfolding prepared
prepared_is l h =
    let n = refusal_of l.settings (spec_of l) in
    let k = eqb l.env.keeper.look (look_of l.settings.lookahead_ms l.rate) in
    let c = same_value l.release_coeff (coefficient_of l.settings.release_ms l.rate) in
    let a = and-true (eqb n 0) (k && c) h in
    let b = and-true k c a.1 in
    let z = eqb-true n 0 a.0 in
    record {
      accepted = z;
      rules = taken l.settings (spec_of l) z;
      look_is = eqb-true l.env.keeper.look (look_of l.settings.lookahead_ms l.rate) b.0;
      coeff_is = b.1;
    }

-- ---- the test, from what the code finds: `ok` where the settings pass 8 to 14
module _ (l : Limiter) (spec : ProcessSpec) (told : spec ≡ spec_of l) (ok : Bool) (found : ok ≡ eqb (refusal_of l.settings spec) 0) where
  judged : ok ≡ eqb (refusal_of l.settings (spec_of l)) 0
  judged = found ∙ ap (λ (x : ProcessSpec). eqb (refusal_of l.settings x) 0) told

  pub refused_settings : ok ≡ false → false ≡ prepared l
  unfolding prepared
  refused_settings h = rw (← judged, h) refl

  pub passed_settings : ok ≡ true → refusal_of l.settings (spec_of l) ≡ 0
  passed_settings h = eqb-true (refusal_of l.settings (spec_of l)) 0 (sym judged ∙ h)

  pub accepted_settings : ok ≡ true → (look : ℕ) (coeff : Float) (same : Bool) → look ≡ look_of l.settings.lookahead_ms l.rate
      → coeff ≡ coefficient_of l.settings.release_ms l.rate → same ≡ same_value l.release_coeff coeff → eqb l.env.keeper.look look && same ≡ prepared l
  unfolding prepared
  accepted_settings h look coeff same L C S = rw (passed_settings h, S, C, L) refl

-- ---- setup and reset leave a limiter that is set up
pub started_prepared : (s : LimiterSettings) (spec : ProcessSpec) → refusal_of s spec ≡ 0 → prepared (started s spec) ≡ true
unfolding prepared
started_prepared s spec h =
    rw (eq-eqb (refusal_of s spec) 0 h, eq-eqb (look_of s.lookahead_ms spec.rate) (look_of s.lookahead_ms spec.rate) refl, same_self (coefficient_of s.release_ms spec.rate)) refl

pub reset_prepared_lem : (l : Limiter) → prepared l ≡ true → prepared (reset_state l) ≡ true
reset_prepared_lem l h = started_prepared l.settings (spec_of l) (prepared_is l h).accepted

-- a limiter that is not set up is refused by 18
pub not_prepared : prepared not_set_up ≡ false
unfolding prepared
not_prepared = refl

-- ---- and in order, whatever marks and minima hold
ones_unit : (n : ℕ) → all_unit (replicate n one) ≡ true
unfolding le
ones_unit zero = refl
ones_unit (suc n) = ones_unit n

ones_tally : (n : ℕ) → tally_of (replicate n one) ≡ 0
unfolding ne
ones_tally zero = refl
ones_tally (suc n) = rw (ones_tally n) refl

pub ones_in_order : (n : ℕ) → 0 < n → row_in_order (record { pos = 0; tally = 0 }) (replicate n one) ≡ true
unfolding row_in_order
ones_in_order n h = rw (ones_unit n, ones_tally n, length-replicate n one, lt-ltb 0 n h) refl

one_unit : within Number.zero one one ≡ true
unfolding le
one_unit = refl

pub started_in_order : (s : LimiterSettings) (spec : ProcessSpec) → refusal_of s spec ≡ 0 → (marks : List ℕ) (minima : List Float)
    → is_in_order (started s spec) marks minima (replicate (row_of (look_of s.lookahead_ms spec.rate)) one) ≡ true
unfolding is_in_order
started_in_order s spec h marks minima =
    let look = look_of s.lookahead_ms spec.rate in
    let t = and-true (leb 11 look) (leb look 4096) (taken s spec h).look_is in
    let least : 11 ≤ look = leb-true 11 look t.0 in
    rw (empty_order look 0 marks minima (omega arith), ones_in_order (row_of look) (omega (arith, least)), lt-ltb 0 look (omega (arith, least)), le-leb 0 look (omega arith), one_unit, target_unit s.threshold_db s.true_peak_margin_db) refl

pub reset_in_order : (l : Limiter) → prepared l ≡ true → (marks : List ℕ) (minima : List Float) → is_in_order (reset_state l) marks minima (replicate (row_of l.env.keeper.look) one) ≡ true
reset_in_order l h marks minima =
    let p = prepared_is l h in
    rw p.look_is (started_in_order l.settings (spec_of l) p.accepted marks minima)
