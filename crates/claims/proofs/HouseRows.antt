-- The rows on Change 6 hold: one computed test of the four stretches, and one law of a stretch that passes it.
use Prim.Native.Nat.{ℕ}
use mathlib.Core.Path.{◌≡◌, refl, sym, ap, subst, ◌∙◌}
use mathlib.Core.Bool.{Bool, true, false, ◌&&◌}
use mathlib.Core.List.{List, [], ◌∷◌}
use native.Mathlib.Omega.{arith}
use lib.Dec.{eqb}
use lib.ListN.{length, replicate}
use lib.Ieee.{Float, nan, of_bits, lt, le, mul, of_int}
use borrow.Author.Tests.{eqb-true, eq-eqb, ne_eqb}
use Rattle.std.proofs.Common.{None}
use Rattle.arithmetic.specs.Reply.{Reply, finished, numbered, unless}
use Rattle.arithmetic.proofs.Order.{and-true}
use Rattle.settings.specs.Settings.{defaults}
use Rattle.settings.specs.Derived.{look_of, row_of}
use Rattle.settings.specs.Weights.{accepted}
use Rattle.settings.specs.House.{Stretch, stretches, house_start, house_fits, house_of}
use Rattle.settings.specs.Accepted.{refusal_of}
use Rattle.settings.proofs.Stretches.{all, house_accepted}
use Rattle.limiter.specs.Stores.{Stores, lengths_of}
use Rattle.limiter.specs.Prepare.{stores_refusal}
use Rattle.bank.specs.Param.{fault_of}
use Rattle.bank.specs.Bank.{first_fault, declared_reply, set_up_of}
use Rattle.driver.specs.Calls.{setup_of}
use Rattle.claims.specs.Rows.{stereo, looking, lent}
use Rattle.claims.specs.HouseRows.{ms1·52, asked, asking, Each, Fills, TooShort, HouseRows}
use Rattle.claims.proofs.Table.{prepare_replies}
use Rattle.claims.proofs.Claimed.{claim}
use Rattle.claims.proofs.Lent.{lent_lengths}

-- ---- the test: a stretch has the rate and look of a setup that 8 to 14 do not refuse, and the table has it
abbrev fitting : Stretch → Bool
fitting s = eqb (refusal_of defaults (asked s.rate)) 0 && (eqb (look_of defaults.lookahead_ms s.rate) s.look && house_fits s.rate s.look)

all_fitting : all fitting stretches ≡ true
unfolding house_start of_bits lt le mul of_int
all_fitting = refl

each : (P : Stretch → Type 0) → ((s : Stretch) → fitting s ≡ true → P s) → (ss : List Stretch) → all fitting ss ≡ true → Each P ss
each P law [] h = tt
each P law (s ∷ ss) h =
    let a = and-true (fitting s) (all fitting ss) h in
    (law s a.0, each P law ss a.1)

-- ---- what is left to judge: 29, 16 and 17
judged : (rate : ℕ) (stores : Stores) → refusal_of defaults (asked rate) ≡ 0
    → (asking defaults rate stores).reply ≡ numbered (stores_refusal (asked rate) (look_of defaults.lookahead_ms rate) (lengths_of stores) stores.weights)
unfolding setup_of set_up_of declared_reply first_fault fault_of of_bits lt le
judged rate stores z = prepare_replies defaults (asked rate) stores ∙ rw z refl

module _ (s : Stretch) (h : fitting s ≡ true) (x : Float) (mark : ℕ) where
  none : refusal_of defaults (asked s.rate) ≡ 0
  none = eqb-true (refusal_of defaults (asked s.rate)) 0 (and-true (eqb (refusal_of defaults (asked s.rate)) 0) _ h).0

  abbrev later : (eqb (look_of defaults.lookahead_ms s.rate) s.look ≡ true) × (house_fits s.rate s.look ≡ true)
  later = and-true (eqb (look_of defaults.lookahead_ms s.rate) s.look) (house_fits s.rate s.look) (and-true (eqb (refusal_of defaults (asked s.rate)) 0) _ h).1

  look_is : look_of defaults.lookahead_ms s.rate ≡ s.look
  look_is = eqb-true (look_of defaults.lookahead_ms s.rate) s.look later.0

  -- by whether the store has its length
  lent_reply : (held : List Float) (b : Bool) → eqb (length held) (row_of s.look) ≡ b → (asking defaults s.rate (lent 2 s.look held x mark)).reply ≡ numbered (unless b 16 0)
  lent_reply held b e = judged s.rate (lent 2 s.look held x mark) none ∙ rw (look_is, later.1, lent_lengths 2 s.look held x mark, e) refl

  fills : Fills x mark s
  fills held n =
      let done = lent_reply held true (eq-eqb (length held) (row_of s.look) n) in
      let left =
      ap (λ (t : Stores). t.weights) (claim.setup_fills defaults (asked s.rate) (lent 2 s.look held x mark) (ap (λ (r : Reply). r.number) done)) ∙ ap (house_of s.rate) look_is
      in
      (done, left, subst (λ (ws : List Float). accepted ws ≡ true) (sym left) (house_accepted s.rate s.look later.1))

  short : TooShort x mark s
  short held n = lent_reply held false (ne_eqb (length held) (row_of s.look) (λ e. omega (arith, e, n)))

-- ---- all of them
no_house : (stores : Stores) → (asking (looking ms1·52) 48000 stores).reply ≡ numbered 29
unfolding setup_of set_up_of declared_reply first_fault fault_of house_start mul of_int of_bits lt le
no_house stores = prepare_replies _ _ stores

not_a_number : (x : Float) (mark : ℕ) → (setup_of defaults (stereo None) (lent 2 72 (replicate 61 nan) x mark)).reply ≡ numbered 17
unfolding setup_of set_up_of declared_reply first_fault fault_of accepted mul of_int of_bits lt le
not_a_number x mark = prepare_replies _ _ (lent 2 72 (replicate 61 nan) x mark)

not_judged : (x : Float) (mark : ℕ) → (asking defaults 48000 (lent 2 72 (replicate 61 nan) x mark)).reply ≡ finished []
unfolding setup_of set_up_of declared_reply first_fault fault_of house_start mul of_int of_bits lt le
not_judged x mark = prepare_replies _ _ (lent 2 72 (replicate 61 nan) x mark)

pub housed : HouseRows
housed = record {
  finishes = λ x mark. each (Fills x mark) (λ s h. fills s h x mark) stretches all_fitting;
  finishes_nan = not_judged;
  none_fits = no_house;
  too_short = λ x mark. each (TooShort x mark) (λ s h. short s h x mark) stretches all_fitting;
  not_asked = not_a_number;
}
