-- The starred rows hold: computed, or by the layers' named facts; the drains by the claim.
use Prim.Native.Nat.{ℕ}
use mathlib.Core.Path.{◌≡◌, refl, ap, ◌∙◌}
use mathlib.Core.Bool.{true}
use mathlib.Core.List.{List, [], ◌∷◌, map}
use lib.ListN.{replicate}
use lib.Ieee.{Float, lt, le, of_bits, mul, of_int}
use Rattle.std.proofs.Common.{Option, Some, None}
use Rattle.arithmetic.specs.Reply.{Reply, finished, refused, numbered, float, count}
use Rattle.audio.specs.Format.{size_of}
use Rattle.audio.specs.declared.format.Format.TheVariants.{F64}
use Rattle.keeper.proofs.Rows.{gains_count, half_then_ones, set_up11}
use Rattle.settings.specs.Settings.{defaults}
use Rattle.settings.specs.Derived.{look_of}
use Rattle.settings.proofs.Rows.{default_look, default_row, default_bytes, shortest, longest, too_short, too_long}
use Rattle.limiter.specs.Stores.{Stores, lengths_of}
use Rattle.limiter.specs.Prepare.{stores_refusal}
use Rattle.bank.specs.Param.{fault_of}
use Rattle.bank.specs.Smoother.{stepped}
use Rattle.bank.specs.Bank.{all_changed, first_fault, declared_reply, set_up_of}
use Rattle.bank.proofs.Rows.{minus_one_to_minus_four, aimed_bank}
use Rattle.turns.specs.Machine.{Machine}
use Rattle.turns.specs.Events.{latched, latched_all}
use Rattle.turns.specs.Block.{Renderer, runs_from, runs_of, runs_through}
use Rattle.driver.specs.Calls
use Rattle.floors_text.proofs.Rows
use Rattle.claims.specs.Session.{Call, drain}
use Rattle.claims.specs.BookCalls.{enter, drain_entered, join_all, last_target}
use Rattle.claims.proofs.Table.{prepare_replies}
use Rattle.claims.proofs.Claimed.{claim}
use Rattle.claims.proofs.Lent.{passes_72, passes_11, passes_4096}
use Rattle.claims.specs.Rows.{stereo, capped_at, looking_at, lent72, lent11, lent4096, ms0·21, ms0·22, ms85·34, ms85·36, minus4, above_minus4, ramped, Drains, Starred}

-- ---- setup
four_looks : map (λ (ms : Float). look_of ms 48000) (ms0·22 ∷ ms85·34 ∷ ms0·21 ∷ ms85·36 ∷ []) ≡ 11 ∷ 4096 ∷ 10 ∷ 4097 ∷ []
four_looks = rw (shortest, longest, too_short, too_long) refl

module _ (stores : Stores) where
  passes : capped_at 4336 stores ≡ numbered (stores_refusal (stereo None) 72 (lengths_of stores) stores.weights)
  unfolding Calls.setup_of set_up_of declared_reply first_fault fault_of mul of_int of_bits lt le
  passes = prepare_replies _ _ stores

  over_15 : capped_at 4335 stores ≡ refused 15 (count 4256 ∷ count 4255 ∷ [])
  unfolding Calls.setup_of set_up_of declared_reply first_fault fault_of mul of_int of_bits lt le
  over_15 = prepare_replies _ _ stores

  over_7 : capped_at 79 stores ≡ refused 7 (count 80 ∷ count 79 ∷ [])
  unfolding Calls.setup_of set_up_of declared_reply first_fault fault_of of_bits lt le
  over_7 = refl

  pass_11 : looking_at ms0·22 stores ≡ numbered (stores_refusal (stereo None) 11 (lengths_of stores) stores.weights)
  unfolding Calls.setup_of set_up_of declared_reply first_fault fault_of mul of_int of_bits lt le
  pass_11 = prepare_replies _ _ stores

  pass_4096 : looking_at ms85·34 stores ≡ numbered (stores_refusal (stereo None) 4096 (lengths_of stores) stores.weights)
  unfolding Calls.setup_of set_up_of declared_reply first_fault fault_of mul of_int of_bits lt le
  pass_4096 = prepare_replies _ _ stores

  short_12 : looking_at ms0·21 stores ≡ refused 12 []
  unfolding Calls.setup_of set_up_of declared_reply first_fault fault_of mul of_int of_bits lt le
  short_12 = prepare_replies _ _ stores

  long_12 : looking_at ms85·36 stores ≡ refused 12 []
  unfolding Calls.setup_of set_up_of declared_reply first_fault fault_of mul of_int of_bits lt le
  long_12 = prepare_replies _ _ stores

-- the witnesses: on these stores nothing is left to refuse
module _ (x : Float) (mark : ℕ) where
  cap_finished : capped_at 4336 (lent72 x mark) ≡ finished []
  cap_finished = passes (lent72 x mark) ∙ ap numbered (passes_72 x mark)

  look_11_finished : looking_at ms0·22 (lent11 x mark) ≡ finished []
  look_11_finished = pass_11 (lent11 x mark) ∙ ap numbered (passes_11 x mark)

  look_4096_finished : looking_at ms85·34 (lent4096 x mark) ≡ finished []
  look_4096_finished = pass_4096 (lent4096 x mark) ∙ ap numbered (passes_4096 x mark)

-- ---- runs
module _ (render : Renderer) (fs : List (List Float)) (m : Machine) where
  two_steps : (runs_through render 0 0 (runs_of 0 64) [] fs m).machine.bank ≡ all_changed stepped (all_changed stepped m.bank)
  unfolding runs_through runs_from latched latched_all
  two_steps = refl

  one_step : (runs_through render 33 0 (runs_of 33 40) [] fs m).machine.bank ≡ all_changed stepped m.bank
  unfolding runs_through runs_from latched latched_all
  one_step = refl

runs_64 : runs_of 0 64 ≡ 32 ∷ 32 ∷ []
unfolding runs_from
runs_64 = refl

runs_40 : runs_of 33 40 ≡ 31 ∷ 9 ∷ []
unfolding runs_from
runs_40 = refl

-- ---- the ramp
not_yet : (ramped 7 ≡ finished (float above_minus4 ∷ [])) × (lt minus4 above_minus4 ≡ true)
unfolding aimed_bank lt of_bits
not_yet = (minus_one_to_minus_four.1, refl)

ramp_lands : ramped 8 ≡ finished (float minus4 ∷ [])
unfolding aimed_bank
ramp_lands = minus_one_to_minus_four.0

-- ---- the drains, by the claim: the book's replies compute
module _ (cap : Option ℕ) (stores : Stores) where
  abbrev start : Calls.Left
  start = Calls.setup_of defaults (stereo cap) stores

  abbrev silence50 : Call
  silence50 = drain F64 50 (replicate 800 0)

  drains_reply : start.reply.number ≡ 0 → Drains start.machine
  unfolding enter drain_entered join_all last_target size_of mul of_int of_bits
  drains_reply z =
      let h = claim.after_setup defaults (stereo cap) stores z (silence50 ∷ silence50 ∷ silence50 ∷ []) in
      record { first = h.0.reply; second = h.1.0.reply; third = h.1.1.0.reply }

-- ---- all of them
pub starred : Starred
unfolding set_up11
starred = record {
  gains = gains_count;
  window = half_then_ones;
  default_look = default_look;
  default_row = default_row;
  default_bytes = default_bytes;
  cap_passes = cap_finished;
  cap_judges = passes;
  cap_15 = over_15;
  cap_7 = over_7;
  looks = four_looks;
  looks_pass = λ x mark. (look_11_finished x mark, look_4096_finished x mark);
  looks_judge = λ stores. (pass_11 stores, pass_4096 stores);
  looks_12 = λ stores. (short_12 stores, long_12 stores);
  runs_0 = runs_64;
  steps_0 = two_steps;
  runs_33 = runs_40;
  steps_33 = one_step;
  ramp_8 = ramp_lands;
  ramp_7 = not_yet;
  drains = λ x mark. drains_reply (Some 4336) (lent72 x mark) (ap (λ (r : Reply). r.number) (cap_finished x mark));
  drains_after = drains_reply;
  floors = Rows.starred;
}
