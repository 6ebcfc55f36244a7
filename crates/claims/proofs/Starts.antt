-- Where the book opens: a finished reset of any state and stores leaves them tied to the book that opens with it.
use mathlib.Core.Path.{◌≡◌, refl, sym, subst}
use mathlib.Core.Bool.{Bool, true, false}
use mathlib.Core.List.{List, []}
use Prim.Native.Nat.{ℕ, ◌+◌, ◌*◌, ◌<◌}
use native.Mathlib.Omega.{arith}
use lib.ListN.{length, replicate, length-replicate}
use lib.Ieee.{Float}
use borrow.Author.Tests.{ne_eqb}
use Rattle.std.proofs.Common.{Option, None}
use Rattle.arithmetic.specs.Number
use Rattle.arithmetic.specs.Number.{one}
use Rattle.arithmetic.specs.Reply.{numbered, unless}
use Rattle.arithmetic.proofs.Passed.{passed_unless}
use Rattle.detector.specs.Oversample.{remembered}
use Rattle.settings.specs.Settings.{process_spec}
use Rattle.settings.specs.Derived.{look_of, row_of, coefficient_of}
use Rattle.frame.specs.Rules.{Linking, linking_of}
use Rattle.settings.specs.declared.ProcessSpec.{ProcessSpec}
use Rattle.frame.specs.Run.{moving_at}
use Rattle.limiter.specs.State.{fresh_envelope, spec_of}
use Rattle.limiter.specs.Stores.{lengths_of, cleared}
use Rattle.limiter.specs.Reset
use Rattle.limiter.specs.Reset.{reset_state}
use Rattle.limiter.specs.Run.{moving_of}
use Rattle.limiter.specs.Order.{is_in_order}
use Rattle.limiter.specs.declared.state.Limiter.{Limiter}
use Rattle.limiter.proofs.Judge.{Fit, fit}
use Rattle.limiter.proofs.Ready.{prepared_is, reset_prepared_lem, reset_in_order}
use Rattle.bank.specs.Smoother.{reset_one}
use Rattle.bank.specs.Bank.{all_changed, first_mapped}
use Rattle.bank.specs.declared.smoother.Smoother.{Smoother}
use Rattle.turns.specs.Machine.{Machine, threshold_of, prepared, fits, reset_refusal}
use Rattle.driver.specs.Calls.{settled, reset_done, reset_of}
use Rattle.claims.specs.Session.{reset, silently, limiting, called}
use Rattle.claims.specs.Book.{Book, required_of}
use Rattle.claims.specs.BookCalls.{opened, reopened, enter}
use Rattle.claims.specs.Claim.{moving_afresh}
use Rattle.claims.proofs.Peaks.{detector_start}
use Rattle.claims.proofs.Delays.{delay_start}
use Rattle.claims.proofs.Floors.{env_start}
use Rattle.claims.proofs.Tied.{MovingTied}
use Rattle.turns.proofs.Kernel.{Kernel}
use Rattle.claims.proofs.Turned.{deep_enough}
use Rattle.claims.proofs.Machines.{OneParameter, SetUp, reset_sound, first_slot, set_up_of_lem, whole_ready, whole_resets}
use Rattle.claims.proofs.Calls.{Tied, tied_whole, CountedIn, Done, finished_done, no_audio}

-- ---- nothing taken yet, whatever marks and minima hold
module _ (linking : Linking) (look channels : ℕ) (marks : List ℕ) (minima weights : List Float) (coeff : Float) (d r k : ℕ) where
  pub fresh_tied : 0 < look → d ≡ channels * look → length marks ≡ look + 1 → length minima ≡ look + 1 → length weights ≡ row_of look → r ≡ row_of look → k ≡ channels * remembered
      → MovingTied linking look channels weights coeff (moving_at (fresh_envelope look) 0 (replicate d Number.zero) marks minima (replicate r one) (replicate k Number.zero)) []
  unfolding required_of
  fresh_tied some delay marked least weighed row detector = record {
    env = env_start look r marks minima weights coeff marked least weighed row;
    detector = rw detector (detector_start channels);
    delay = rw delay (delay_start look channels);
    place = some;
  }

-- ---- a reset
-- what setup was told, with any cap and asked for a house table or not
abbrev spec_with : Limiter → Option ℕ → Bool → ProcessSpec
spec_with l cap house = process_spec l.rate l.channels l.max_block cap house

pub reset_answers : (m : Machine) → (reset_of m).reply ≡ numbered (reset_refusal m)
unfolding reset_of
reset_answers m = refl

pub reset_keeps : (m : Machine) → (reset_refusal m ≡ 0 → ⊥) → (reset_of m).machine ≡ m
unfolding reset_of
reset_keeps m some = rw (ne_eqb (reset_refusal m) 0 some) refl

module _ (m : Machine) (passed : reset_refusal m ≡ 0) where
  abbrev look : ℕ
  look = m.limiter.env.keeper.look

  reset_judged : (prepared m.limiter m.bank ≡ true) × (fits m ≡ true)
  unfolding reset_refusal
  reset_judged =
      let p = passed_unless (prepared m.limiter m.bank) 17 (unless (fits m) 16 0) passed in
      (p.0, (passed_unless (fits m) 15 0 p.1).0)

  reset_set_up : SetUp (threshold_of m.bank) m.limiter m.bank
  reset_set_up = set_up_of_lem m.limiter m.bank reset_judged.0

  reset_fit : Fit m.limiter.channels look (lengths_of m.stores)
  reset_fit = fit m.limiter.channels look (lengths_of m.stores) reset_judged.1

  reset_look : look ≡ look_of m.limiter.settings.lookahead_ms m.limiter.rate
  reset_look = (prepared_is m.limiter reset_set_up.kernel).look_is

  reset_kernel : Kernel (reset_state m.limiter) (cleared m.stores)
  reset_kernel =
      let s = m.stores in
      let l = m.limiter in
      record {
        set_up = reset_prepared_lem l reset_set_up.kernel;
        lengths =
            rw (length-replicate (length s.delay) Number.zero, length-replicate (length s.row) one, length-replicate (length s.detector) Number.zero, ← reset_look)
            reset_judged.1;
        order =
            subst (λ (n : ℕ). is_in_order (reset_state l) s.marks s.minima (replicate n one) ≡ true) (sym reset_fit.row_is)
            (reset_in_order l reset_set_up.kernel s.marks s.minima);
      }

  reset_one_lem : OneParameter (reset_one (threshold_of m.bank)) (all_changed reset_one m.bank)
  unfolding first_mapped
  reset_one_lem =
      let o = reset_set_up.one in
      record { slots = rw (o.count, o.slots) refl; count = o.count; ready = o.ready }

  reset_tied : (cap : Option ℕ) (house : Bool) → Tied (opened m.limiter.settings (spec_with m.limiter cap house) m.stores.weights (reset_one (threshold_of m.bank))) (reset_done m)
  unfolding Reset.reset_of
  reset_tied cap house =
      let l = m.limiter in
      let s = m.stores in
      let f = reset_fit in
      record {
        settings = refl;
        rate = refl;
        channels = refl;
        largest = refl;
        weights = refl;
        coeff = refl;
        ready =
            whole_ready (reset_done m) (reset_one (threshold_of m.bank))
            (record { kernel = reset_kernel; one = reset_one_lem; rate = reset_set_up.rate; sound = reset_sound l.rate l.settings (threshold_of m.bank) reset_set_up.declared });
        moving =
            subst (λ (n : ℕ). MovingTied (linking_of l.settings) n l.channels s.weights (coefficient_of l.settings.release_ms l.rate) (moving_at (fresh_envelope n) 0 (replicate (length s.delay) Number.zero) s.marks s.minima (replicate (length s.row) one) (replicate (length s.detector) Number.zero)) []) reset_look
            (fresh_tied (linking_of l.settings) look l.channels s.marks s.minima s.weights (coefficient_of l.settings.release_ms l.rate) (length s.delay) (length s.row) (length s.detector) (omega (arith, deep_enough l reset_set_up.kernel)) f.delay_is f.marks_is f.minima_is f.weights_is f.row_is f.detector_is);
        slots = reset_one_lem.slots;
        target = refl;
        drained = refl;
      }

  reset_first : threshold_of (all_changed reset_one m.bank) ≡ reset_one (threshold_of m.bank)
  reset_first = first_slot (reset_one (threshold_of m.bank)) (all_changed reset_one m.bank) reset_one_lem.slots

  pub reset_cleared : (reset_of m).machine.stores ≡ cleared m.stores
  unfolding reset_of Reset.reset_of
  reset_cleared = rw passed refl

  pub reset_threshold : threshold_of (reset_of m).machine.bank ≡ reset_one (threshold_of m.bank)
  unfolding reset_of
  reset_threshold = rw passed reset_first

  -- a finished reset of any state and stores at all
  pub reset_opened : (let start = reset_of m in Tied (opened m.limiter.settings (spec_of m.limiter) m.stores.weights (threshold_of start.machine.bank)) start.machine)
  unfolding reset_of
  reset_opened =
      rw passed
      (subst (λ (s : Smoother). Tied (opened m.limiter.settings (spec_of m.limiter) m.stores.weights s) (reset_done m)) (sym reset_first) (reset_tied None false))

-- ---- the call, on state and stores that are tied to the book
module _ (drops : ℕ) (b : Book) (m : Machine) (t : Tied b m) (n : CountedIn drops b m) where
  reset_passed : reset_refusal m ≡ 0
  reset_passed = whole_resets m b.threshold (tied_whole b m t)

  reset_reopened : opened m.limiter.settings (spec_with m.limiter b.spec.cap b.spec.house) m.stores.weights (reset_one (threshold_of m.bank)) ≡ reopened b
  reset_reopened = rw (t.settings, t.rate, t.channels, t.largest, t.weights, first_slot b.threshold m.bank t.slots) refl

  -- a start: no drop, no entry, no frame
  reset_counted : CountedIn 0 (reopened b) (reset_done m)
  unfolding Reset.reset_of
  reset_counted = refl

  -- starting values
  reset_left : moving_of (reset_done m).limiter (reset_done m).stores ≡ moving_afresh b m.stores
  unfolding Reset.reset_of
  reset_left = rw (t.settings, t.rate) refl

  pub reset_done_lem : Done drops b m reset (called limiting m reset) (enter b reset)
  unfolding enter reset_of
  reset_done_lem =
      subst (λ (n : ℕ). Done drops b m reset (silently (settled (numbered n) (reset_done m) m)) (enter b reset)) (sym reset_passed)
      (finished_done drops b m t n reset _ (enter b reset) refl refl tt reset_left (no_audio b) (subst (λ (c : Book). Tied c (reset_done m)) reset_reopened (reset_tied m reset_passed b.spec.cap b.spec.house)) reset_counted)
