-- The turns of the loops over events: what the rest answers stays what the whole answers.
use mathlib.Core.Path.{◌≡◌, refl}
use mathlib.Core.Bool.{true, false, not, ◌&&◌}
use mathlib.Core.List.{List, [], ◌∷◌}
use Prim.Native.Nat.{ℕ, suc, ◌+◌, ◌-◌, ◌*◌, ◌/◌, ◌%◌, ◌≤◌, ◌<◌}
use native.Mathlib.Numerals.{add-one}
use native.Mathlib.Omega.{arith}
use lib.Dec.{eqb, leb}
use lib.ListN.{length, get_or}
use borrow.Author.Tests.{leb-true, le-leb, lt-leb, eq-eqb, ne_eqb, not-true}
use Rattle.arithmetic.specs.Reply.{finished, refused, count}
use Rattle.arithmetic.proofs.Order.{and-true}
use Rattle.detector.specs.Run.{run_length}
use Rattle.bank.specs.Smoother.{stepped}
use Rattle.bank.specs.Bank.{all_changed}
use Rattle.bank.specs.declared.smoother_bank.SmootherBank.{SmootherBank}
use Rattle.turns.specs.Events.{Event, event_at, events_from, misplaced, events_reply, latched_one, Latched, latched, latched_all}
use Rattle.turns.specs.Inner.{waiting_at, before_run}

module _ (words : List ℕ) (n i : ℕ) where
  -- an event, and those after it
  pub event_here : i < n → events_from words i (n - i) ≡ event_at words i ∷ events_from words (i + 1) (n - (i + 1))
  unfolding events_from
  event_here h =
      let e : n - i ≡ suc (n - (i + 1)) = omega arith in
      rw e refl

  pub events_end : n ≤ i → events_from words i (n - i) ≡ []
  unfolding events_from
  events_end h =
      let e : n - i ≡ 0 = omega arith in
      rw e refl

  -- ---- 21
  module _ (frames before : ℕ) where
    pub check_here : i < n → misplaced frames before (event_at words i) ≡ true → refused 21 (count i ∷ []) ≡ events_reply frames before i (events_from words i (n - i))
    unfolding events_reply
    check_here h m = rw (event_here h, m) refl

    pub check_more : i < n → misplaced frames before (event_at words i) ≡ false
        → events_reply frames (get_or words (3 * i) 0) (i + 1) (events_from words (i + 1) (n - (i + 1))) ≡ events_reply frames before i (events_from words i (n - i))
    unfolding events_reply
    check_more h m = rw (event_here h, m, add-one i) refl

    pub check_end : n ≤ i → finished [] ≡ events_reply frames before i (events_from words i (n - i))
    unfolding events_reply
    check_end h = rw (events_end h) refl

  -- ---- latching
  module _ (first : ℕ) (b : SmootherBank) where
    pub latch_stop : i < n → first < get_or words (3 * i) 0 → record { bank = b; waiting = events_from words i (n - i) } ≡ latched first (events_from words i (n - i)) b
    unfolding latched
    latch_stop h l = rw (event_here h, lt-leb (get_or words (3 * i) 0) first l) refl

    pub latch_more : i < n → get_or words (3 * i) 0 ≤ first → latched first (events_from words (i + 1) (n - (i + 1))) (latched_one (event_at words i) b) ≡ latched first (events_from words i (n - i)) b
    unfolding latched
    latch_more h l = rw (event_here h, le-leb (get_or words (3 * i) 0) first l) refl

    pub latch_end : (all : Latched) → i ≡ n → latched first (events_from words i (n - i)) b ≡ all → record { bank = b; waiting = events_from words n (n - n) } ≡ all
    unfolding latched events_from
    latch_end all h e =
        let past : n ≤ i = omega arith in
        let none : n - n ≡ 0 = omega arith in
        rw none (rw (events_end past) at e)

  pub rest_more : (b : SmootherBank) → i < n → latched_all (events_from words (i + 1) (n - (i + 1))) (latched_one (event_at words i) b) ≡ latched_all (events_from words i (n - i)) b
  unfolding latched_all
  rest_more b h = rw (event_here h) refl

  pub rest_end : (b : SmootherBank) → n ≤ i → b ≡ latched_all (events_from words i (n - i)) b
  unfolding latched_all
  rest_end b h = rw (events_end h) refl

-- ---- before a run, from what the latch and the step find
module _ (position first : ℕ) (events : List Event) (b : SmootherBank) (l : Latched) (L : l ≡ latched first events b) where
  pub step_taken : (next : SmootherBank) → position % run_length ≡ 0 → next ≡ all_changed stepped l.bank → record { bank = next; waiting = l.waiting } ≡ before_run position first events b
  step_taken next e n = rw (n, eq-eqb (position % run_length) 0 e, ← L) refl

  pub step_left : (position % run_length ≡ 0 → ⊥) → l ≡ before_run position first events b
  step_left e = rw (ne_eqb (position % run_length) 0 e, ← L) refl

-- ---- a run before which nothing is due
pub nothing_due : (words : List ℕ) (cursor position first : ℕ) (b : SmootherBank) → leb (length words / 3) cursor && not (eqb (position % run_length) 0) ≡ true
    → record { bank = b; waiting = waiting_at words cursor } ≡ before_run position first (waiting_at words cursor) b
unfolding latched
nothing_due words cursor position first b h =
    let t = and-true (leb (length words / 3) cursor) (not (eqb (position % run_length) 0)) h in
    rw (events_end words (length words / 3) cursor (leb-true (length words / 3) cursor t.0), not-true (eqb (position % run_length) 0) t.1) refl
