-- CONTROLS OF SETUP: nine limiters of which the claim is false in what setup replies, in the weights that it leaves, or in what is replied after a refused one (proofs/SetupControls.antt). Each is `limiting` but for the one place
-- that its comment names.
use Rattle.std.specs.Prelude.{ℕ, ◌+◌, cond, not, ◌&&◌, Float, List, [], ◌∷◌, ◌++◌, eqb, length, take, drop, replicate, Option, Some, None}
use Rattle.std.specs.Float.Ieee.Scale.{finite}
use Rattle.arithmetic.specs.Reply.{Value, count, float, finished, refused, numbered}
use Rattle.settings.specs.Settings.{process_spec}
use Rattle.settings.specs.Derived.{look_of, row_of}
use Rattle.settings.specs.Weights.{sums_up}
use Rattle.settings.specs.HouseTable.{house}
use Rattle.settings.specs.House.{house_start}
use Rattle.settings.specs.Accepted.{margin_taken}
use Rattle.settings.specs.declared.LimiterSettings.{LimiterSettings}
use Rattle.settings.specs.declared.ProcessSpec.{ProcessSpec}
use Rattle.limiter.specs.State.{started}
use Rattle.limiter.specs.Stores.{Stores, lengths_of, lengths_fit, filled, with_weights}
use Rattle.bank.specs.Bank.{set_up_of}
use Rattle.turns.specs.Machine.{machine_of, threshold_param}
use Rattle.turns.specs.Block.{block_of}
use Rattle.driver.specs.Calls.{Left, left, setup_of, parameter_of}
use Rattle.claims.specs.Session.{Limiting, limiting}

abbrev pub Setups : Type 0
Setups = LimiterSettings → ProcessSpec → Stores → Left

abbrev pub with_setups : Setups → Limiting
with_setups setups = record { setups = setups; blocks = limiting.blocks; drains = limiting.drains; parameters = limiting.parameters; resets = limiting.resets }

-- ---- 1: 9 is replied where 8 arises too
abbrev pub margin_first : Limiting
margin_first = with_setups (λ s spec stores.
    let r = setup_of s spec stores in
    cond (eqb r.reply.number 8 && not (margin_taken s.true_peak_margin_db)) (left (numbered 9) r.machine) r)

-- ---- 2: 15 with the cap in place of the cap left
abbrev pub cap_of : Option ℕ → List Value
cap_of None = []
cap_of (Some cap) = count cap ∷ []

abbrev pub whole_cap_told : Limiting
whole_cap_told = with_setups (λ s spec stores.
    let r = setup_of s spec stores in
    cond (eqb r.reply.number 15) (left (refused 15 (take 1 r.reply.values ++ cap_of spec.cap)) r.machine) r)

-- ---- 3: a cap of 0 is read as no cap
abbrev pub uncapped : Option ℕ → Option ℕ
uncapped None = None
uncapped (Some cap) = cond (eqb cap 0) None (Some cap)

abbrev pub zero_uncapped : Limiting
zero_uncapped = with_setups (λ s spec stores. setup_of s (process_spec spec.rate spec.channels spec.max_block (uncapped spec.cap) spec.house) stores)

-- ---- 4: where the weights alone are refused, the limiter is set up all the same
abbrev pub stays_set_up : Limiting
stays_set_up = with_setups (λ s spec stores.
    let r = setup_of s spec stores in
    cond (eqb r.reply.number 17) (left r.reply (machine_of (started s spec) (set_up_of (replicate 8 (threshold_param s)) 1 spec.rate).bank stores)) r)

-- ---- 5: "A block with 0 frames and no events changes nothing", so that it is finished unjudged
abbrev pub empty_unjudged : Limiting
empty_unjudged = record {
  setups = limiting.setups;
  blocks = λ format m position frames events bytes.
      cond (eqb frames 0 && eqb (length events) 0 && eqb (length bytes) 0) (record { reply = finished []; machine = m; bytes = bytes; frames = [] })
      (block_of format m position frames events bytes);
  drains = limiting.drains;
  parameters = limiting.parameters;
  resets = limiting.resets;
}

-- ---- 6: a parameter call gives 23 before 18
abbrev pub value_first : Limiting
value_first = record {
  setups = limiting.setups;
  blocks = limiting.blocks;
  drains = limiting.drains;
  parameters = λ m id v. cond (finite v) (parameter_of m id v) (left (refused 23 (count id ∷ float v ∷ [])) m);
  resets = limiting.resets;
}

-- ---- 7: weights judged by document 01's sentence alone, without Change 3's clauses
abbrev pub lopsided_taken : Limiting
lopsided_taken = with_setups (λ s spec stores.
    let r = setup_of s spec stores in
    cond (eqb r.reply.number 17 && sums_up stores.weights)
    (left (finished []) (machine_of (started s spec) (set_up_of (replicate 8 (threshold_param s)) 1 spec.rate).bank (filled stores))) r)

-- ---- 8: 16 is replied where 29 arises too
abbrev pub lengths_first : Limiting
lengths_first = with_setups (λ s spec stores.
    let r = setup_of s spec stores in
    cond (eqb r.reply.number 29 && not (lengths_fit spec.channels (look_of s.lookahead_ms spec.rate) (lengths_of stores))) (left (numbered 16) r.machine) r)

-- ---- 9: a house table is filled in from one place late
abbrev pub late_weights : LimiterSettings → ProcessSpec → List Float
late_weights s spec =
    let look = look_of s.lookahead_ms spec.rate in
    take (row_of look) (drop (house_start spec.rate look + 1) house)

abbrev pub house_late : Limiting
house_late = with_setups (λ s spec stores.
    let r = setup_of s spec stores in
    cond (eqb r.reply.number 0 && spec.house)
    (left r.reply (machine_of r.machine.limiter r.machine.bank (with_weights (late_weights s spec) r.machine.stores))) r)
