-- Settings of which none of 8 to 14 arises pass every rule.
use Rattle.std.proofs.Common.{◌≡◌, Bool, true, false, ◌&&◌, eqb, Result, Ok, sym, refl, ap, ◌∙◌}
use Rattle.arithmetic.specs.Reply.{Reply, numbered, unless}
use Rattle.arithmetic.proofs.Passed.{passed_unless}
use Rattle.keeper.specs.Keeper.{look_taken}
use Rattle.settings.specs.Derived.{look_of}
use Rattle.settings.specs.Accepted.{rate_taken, margin_taken, lookahead_taken, release_taken, channels_taken, block_taken, refusal_of, refusal_number, settings_reply}
use Rattle.settings.specs.declared.LimiterSettings.{LimiterSettings}
use Rattle.settings.specs.declared.ProcessSpec.{ProcessSpec}
use Rattle.settings.specs.declared.accepted.SettingsRefusal.{SettingsRefusal}
use Rattle.settings.specs.declared.accepted.SettingsRefusal.TheVariants.{Rate, Margin, Lookahead, Release, Look, Channels, Block}

pub record Taken (s : LimiterSettings) (spec : ProcessSpec) : Type 0 where
  pub rate_is : rate_taken spec.rate ≡ true
  pub margin_is : margin_taken s.true_peak_margin_db ≡ true
  pub lookahead_is : lookahead_taken s.lookahead_ms ≡ true
  pub release_is : release_taken s.release_ms ≡ true
  pub look_is : look_taken (look_of s.lookahead_ms spec.rate) ≡ true
  pub channels_is : channels_taken spec.channels ≡ true
  pub block_is : block_taken spec.max_block ≡ true

pub taken : (s : LimiterSettings) (spec : ProcessSpec) → refusal_of s spec ≡ 0 → Taken s spec
taken s spec h =
    let look = look_of s.lookahead_ms spec.rate in
    let g = unless (block_taken spec.max_block) 14 0 in
    let f = unless (channels_taken spec.channels) 13 g in
    let e = unless (look_taken look) 12 f in
    let d = unless (release_taken s.release_ms) 11 e in
    let c = unless (lookahead_taken s.lookahead_ms) 10 d in
    let b = unless (margin_taken s.true_peak_margin_db) 9 c in
    let k8 = passed_unless (rate_taken spec.rate) 7 b h in
    let k9 = passed_unless (margin_taken s.true_peak_margin_db) 8 c k8.1 in
    let k10 = passed_unless (lookahead_taken s.lookahead_ms) 9 d k9.1 in
    let k11 = passed_unless (release_taken s.release_ms) 10 e k10.1 in
    let k12 = passed_unless (look_taken look) 11 f k11.1 in
    let k13 = passed_unless (channels_taken spec.channels) 12 g k12.1 in
    let k14 = passed_unless (block_taken spec.max_block) 13 0 k13.1 in
    record { rate_is = k8.0; margin_is = k9.0; lookahead_is = k10.0; release_is = k11.0; look_is = k12.0; channels_is = k13.0; block_is = k14.0 }

-- the seven tests together
none_arises : (a b c d e f g : Bool)
    → (a && (b && (c && (d && (e && (f && g)))))) ≡ eqb (unless a 8 (unless b 9 (unless c 10 (unless d 11 (unless e 12 (unless f 13 (unless g 14 0))))))) 0
none_arises false b c d e f g = refl
none_arises true false c d e f g = refl
none_arises true true false d e f g = refl
none_arises true true true false e f g = refl
none_arises true true true true false f g = refl
none_arises true true true true true false g = refl
none_arises true true true true true true false = refl
none_arises true true true true true true true = refl

pub tests_together : (s : LimiterSettings) (spec : ProcessSpec)
    → (rate_taken spec.rate && (margin_taken s.true_peak_margin_db && (lookahead_taken s.lookahead_ms && (release_taken s.release_ms
    && (look_taken (look_of s.lookahead_ms spec.rate) && (channels_taken spec.channels && block_taken spec.max_block)))))) ≡ eqb (refusal_of s spec) 0
tests_together s spec =
    none_arises (rate_taken spec.rate) (margin_taken s.true_peak_margin_db) (lookahead_taken s.lookahead_ms) (release_taken s.release_ms)
    (look_taken (look_of s.lookahead_ms spec.rate)) (channels_taken spec.channels) (block_taken spec.max_block)

-- no refusal has the number of finished work
pub refused_number : (why : SettingsRefusal) → eqb (refusal_number why) 0 ≡ false
refused_number Rate = refl
refused_number Margin = refl
refused_number Lookahead = refl
refused_number Release = refl
refused_number Look = refl
refused_number Channels = refl
refused_number Block = refl

-- what an answer of `refusal` says
module _ (s : LimiterSettings) (spec : ProcessSpec) (j : Result (Unit {0}) SettingsRefusal) (J : settings_reply j ≡ numbered (refusal_of s spec)) where
  pub settings_passed : (u : Unit {0}) → j ≡ Ok u → refusal_of s spec ≡ 0
  settings_passed u e = ap (λ (r : Reply). r.number) (sym J ∙ ap settings_reply e)
