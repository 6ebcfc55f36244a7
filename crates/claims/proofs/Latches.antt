-- The limiter latches by runs, the book by positions: at a run's opening both take the same events.
use mathlib.Core.Path.{◌≡◌, refl, sym, ap, ◌∙◌}
use mathlib.Core.Bool.{Bool, true, false, cond, not, ◌||◌}
use mathlib.Core.List.{List, [], ◌∷◌}
use Prim.Native.Nat.{ℕ, zero, suc, ◌+◌, ◌-◌, ◌%◌, ◌≤◌, ◌<◌}
use native.Mathlib.Omega.{arith}
use lib.Dec.{eqb, leb, ltb}
use lib.Ieee.{Float}
use lib.Ieee.Scale.{finite}
use borrow.Author.Tests.{eq-eqb, ne_eqb, leb-true, leb-false, le-leb, lt-leb, ltb-false, le-ltb}
use Rattle.arithmetic.specs.Reply.{refused, count}
use Rattle.bank.specs.Smoother.{target_set, stepped}
use Rattle.bank.specs.Bank.{with_slots, slot_mapped, one_changed, first_mapped, all_changed}
use Rattle.bank.specs.declared.smoother.Smoother.{Smoother}
use Rattle.bank.specs.declared.smoother_bank.SmootherBank.{SmootherBank}
use Rattle.turns.specs.Events.{Event, events_reply, latched_one, Latched, latched, latched_all}
use Rattle.turns.specs.Block.{bank_at}
use Rattle.claims.specs.BookCalls.{latches_at, latch, latch_where, steps_at, threshold_at}

-- ---- positions
-- a run opens at the block's first frame or at a multiple of 32
abbrev pub Opens : ℕ → ℕ → Type 0
Opens position o = 0 < o → (position + o) % 32 ≡ 0

later_stamp : (position x : ℕ) → latches_at position (suc x) ≡ suc x + (32 - (position + suc x) % 32) % 32
later_stamp position x = rw (ne_eqb (suc x) 0 (λ h. omega (arith, h))) refl

-- an event latches at its stamp or later, at the block's first frame or at a multiple of 32
pub latches_from : (position x : ℕ) → x ≤ latches_at position x
latches_from position zero = omega arith
latches_from position (suc x) = omega (arith, later_stamp position x)

pub latches_opening : (position x : ℕ) → Opens position (latches_at position x)
latches_opening position zero h = absurd (omega arith)
latches_opening position (suc x) h = omega (arith, later_stamp position x)

-- an opening at or after the stamp is at or after the latching
pub latches_by : (position o x : ℕ) → Opens position o → x ≤ o → latches_at position x ≤ o
latches_by position o zero opens h = omega arith
latches_by position o (suc x) opens h = omega (arith, later_stamp position x, opens (omega arith))

-- stamped after an opening: not before the run's end
pub latches_after : (position o next x : ℕ) → next ≤ o + (32 - (position + o) % 32) → o < x → next ≤ latches_at position x
latches_after position o next zero e h = absurd (omega arith)
latches_after position o next (suc x) e h = omega (arith, later_stamp position x)

-- ---- sorted events: none stamped before `before` or before the one in front of it
abbrev pub Sorted : ℕ → List Event → Type 0
Sorted before [] = Unit {0}
Sorted before (e ∷ es) = (before ≤ e.offset) × Sorted e.offset es

-- what 21 says of events
pub sorted_of : (frames before index : ℕ) (events : List Event) → (events_reply frames before index events).number ≡ 0 → Sorted before events
unfolding events_reply
sorted_of frames before index [] h = tt
sorted_of frames before index (e ∷ es) h = go (leb frames e.offset) (ltb e.offset before) (not (finite e.value)) refl (λ g. sorted_of frames e.offset (suc index) es g) h
  where
    go : (past early endless : Bool) → ltb e.offset before ≡ early
        → ((events_reply frames e.offset (suc index) es).number ≡ 0 → Sorted e.offset es)
        → (cond (past || (early || endless)) (refused 21 (count index ∷ [])) (events_reply frames e.offset (suc index) es)).number ≡ 0 → Sorted before (e ∷ es)
    go true early endless t later h = absurd (omega (arith, h))
    go false true endless t later h = absurd (omega (arith, h))
    go false false true t later h = absurd (omega (arith, h))
    go false false false t later h = (ltb-false e.offset before t, later h)

-- ---- what the book latches
module _ (test : ℕ → Bool) (position : ℕ) where
  -- nothing, where no frame of the rest passes its test
  pub latch_none : (k : ℕ) (w : List Event) (s : Smoother) → Sorted k w → ((x : ℕ) → k ≤ x → test (latches_at position x) ≡ false) → latch_where test position w s ≡ s
  unfolding latch_where
  latch_none k [] s sorted none = refl
  latch_none k (e ∷ es) s sorted none =
      rw (none e.offset sorted.0) (latch_none e.offset es s sorted.1 (λ x h. none x (omega (arith, sorted.0))))

-- ---- a bank of one parameter: the threshold, and slots that are carried
abbrev pub bank_with : SmootherBank → List Smoother → Smoother → SmootherBank
bank_with b others s = with_slots (s ∷ others) b

module _ (b : SmootherBank) (others : List Smoother) (one : b.count ≡ 1) where
  pub latched_one_lem : (e : Event) (s : Smoother) → latched_one e (bank_with b others s) ≡ bank_with b others (latch e s)
  latched_one_lem e s = ap (λ (n : ℕ). cond (ltb e.id n) (one_changed (target_set e.value) e.id (bank_with b others s)) (bank_with b others s)) one ∙ go e.id e.value
    where
      go : (id : ℕ) (v : Float) → cond (ltb id 1) (with_slots (slot_mapped (target_set v) id (s ∷ others)) b) (bank_with b others s) ≡ bank_with b others (cond (eqb id 0) (target_set v s) s)
      go zero v = refl
      go (suc id) v = rw (le-ltb (suc id) 1 (omega arith), ne_eqb (suc id) 0 (λ h. omega (arith, h))) refl

  pub all_stepped : (s : Smoother) → all_changed stepped (bank_with b others s) ≡ bank_with b others (stepped s)
  unfolding first_mapped
  all_stepped s = rw one refl

  pub bank_at_lem : (position : ℕ) (s : Smoother) → bank_at position (bank_with b others s) ≡ bank_with b others (cond (steps_at position) (stepped s) s)
  bank_at_lem position s = go (steps_at position)
    where
      go : (t : Bool) → cond t (all_changed stepped (bank_with b others s)) (bank_with b others s) ≡ bank_with b others (cond t (stepped s) s)
      go true = all_stepped s
      go false = refl

  -- the events whose frames all pass a test latch: so it is when the rest is latched after the last run
  pub latched_all_lem : (test : ℕ → Bool) (position k : ℕ) (w : List Event) (s : Smoother) → Sorted k w → ((x : ℕ) → k ≤ x → test (latches_at position x) ≡ true)
      → latched_all w (bank_with b others s) ≡ bank_with b others (latch_where test position w s)
  unfolding latched_all latch_where
  latched_all_lem test position k [] s sorted all = refl
  latched_all_lem test position k (e ∷ es) s sorted all =
      rw (latched_one_lem e s, all e.offset sorted.0) (latched_all_lem test position e.offset es (latch e s) sorted.1 (λ x h. all x (omega (arith, sorted.0))))

-- those that wait for a later opening than o
unfoldable pub waiting_after : ℕ → List Event → List Event
waiting_after o [] = []
waiting_after o (e ∷ es) = cond (leb e.offset o) (waiting_after o es) (e ∷ es)

module _ (position o : ℕ) (opens : Opens position o) where
  -- an event that waits at an opening and is stamped at or before it latches there
  latches_here : (x : ℕ) → o ≤ latches_at position x → x ≤ o → latches_at position x ≡ o
  latches_here x late h = omega (arith, latches_by position o x opens h)

  -- one stamped after it does not
  latches_not_here : (x : ℕ) → o + 1 ≤ x → eqb (latches_at position x) o ≡ false
  latches_not_here x h = ne_eqb (latches_at position x) o (λ e. omega (arith, e, latches_from position x))

  pub latched_here : (b : SmootherBank) (others : List Smoother) (one : b.count ≡ 1) (k : ℕ) (w : List Event) (s : Smoother) → Sorted k w → ((x : ℕ) → k ≤ x → o ≤ latches_at position x)
      → latched o w (bank_with b others s) ≡ record { bank = bank_with b others (latch_where (λ (f : ℕ). eqb f o) position w s); waiting = waiting_after o w }
  unfolding latched latch_where waiting_after
  latched_here b others one k [] s sorted late = refl
  latched_here b others one k (e ∷ es) s sorted late =
      go (leb e.offset o) refl (latched_here b others one e.offset es (latch e s) sorted.1 (λ x h. late x (omega (arith, sorted.0))))
    where
      here : ℕ → Bool
      here f = eqb f o

      go : (t : Bool) → leb e.offset o ≡ t
          → latched o es (bank_with b others (latch e s)) ≡ record { bank = bank_with b others (latch_where here position es (latch e s)); waiting = waiting_after o es }
          → cond t (latched o es (latched_one e (bank_with b others s))) (record { bank = bank_with b others s; waiting = e ∷ es })
          ≡ record { bank = bank_with b others (latch_where here position es (cond (here (latches_at position e.offset)) (latch e s) s)); waiting = cond t (waiting_after o es) (e ∷ es) }
      go true h later =
          rw (latched_one_lem b others one e s, eq-eqb (latches_at position e.offset) o (latches_here e.offset (late e.offset sorted.0) (leb-true e.offset o h))) later
      go false h later =
          ap (λ (z : Smoother). record { bank = bank_with b others z; waiting = e ∷ es })
          (sym (latch_none here position (o + 1) (e ∷ es) s (omega (arith, leb-false e.offset o h), sorted.1) latches_not_here))

  pub waiting_sorted : (k : ℕ) (w : List Event) → Sorted k w → Sorted (o + 1) (waiting_after o w)
  unfolding waiting_after
  waiting_sorted k [] sorted = tt
  waiting_sorted k (e ∷ es) sorted = go (leb e.offset o) refl (waiting_sorted e.offset es sorted.1)
    where
      go : (t : Bool) → leb e.offset o ≡ t → Sorted (o + 1) (waiting_after o es) → Sorted (o + 1) (cond t (waiting_after o es) (e ∷ es))
      go true h later = later
      go false h later = (omega (arith, leb-false e.offset o h), sorted.1)

  -- the book passes over those that were latched
  pub waiting_latch : (test : ℕ → Bool) → test o ≡ false → (k : ℕ) (w : List Event) (s : Smoother) → Sorted k w → ((x : ℕ) → k ≤ x → o ≤ latches_at position x)
      → latch_where test position w s ≡ latch_where test position (waiting_after o w) s
  unfolding waiting_after latch_where
  waiting_latch test past k [] s sorted late = refl
  waiting_latch test past k (e ∷ es) s sorted late = go (leb e.offset o) refl (waiting_latch test past e.offset es s sorted.1 (λ x h. late x (omega (arith, sorted.0))))
    where
      go : (t : Bool) → leb e.offset o ≡ t → latch_where test position es s ≡ latch_where test position (waiting_after o es) s
          → latch_where test position (e ∷ es) s ≡ latch_where test position (cond t (waiting_after o es) (e ∷ es)) s
      go true h later = rw (latches_here e.offset (late e.offset sorted.0) (leb-true e.offset o h), past) later
      go false h later = refl

-- ---- from opening to opening
-- what waits at frame o of the block's events: none of it latches before, and for all that tests the frames from o on it is as good as the whole
pub record Waiting (position o : ℕ) (events w : List Event) : Type 0 where
  pub from : ℕ
  pub sorted : Sorted from w
  pub late : (x : ℕ) → from ≤ x → o ≤ latches_at position x
  pub same : (test : ℕ → Bool) → ((f : ℕ) → f < o → test f ≡ false) → (s : Smoother) → latch_where test position events s ≡ latch_where test position w s

pub waiting_start : (position : ℕ) (events : List Event) → Sorted 0 events → Waiting position 0 events events
waiting_start position events sorted = record { from = 0; sorted = sorted; late = λ x h. omega arith; same = λ test none s. refl }

-- a run ends at the next multiple of 32 or before it
pub waiting_next : (position o next : ℕ) (events w : List Event) → Opens position o → o < next → next ≤ o + (32 - (position + o) % 32)
    → Waiting position o events w → Waiting position next events (waiting_after o w)
waiting_next position o next events w opens on end a = record {
  from = o + 1;
  sorted = waiting_sorted position o opens a.from w a.sorted;
  late = λ x h. latches_after position o next x end (omega arith);
  same = λ test none s. a.same test (λ f h. none f (omega arith)) s ∙ waiting_latch position o opens test (none o on) a.from w s a.sorted a.late;
}

module _ (b : SmootherBank) (others : List Smoother) (one : b.count ≡ 1) (position : ℕ) (events w : List Event) (s : Smoother) where
  -- an opening: latch, then step
  pub opening : (o : ℕ) → Opens position o → Waiting position o events w
      → (let l = latched o w (bank_with b others s) in (bank_at (position + o) l.bank ≡ bank_with b others (threshold_at position events o s)) × (l.waiting ≡ waiting_after o w))
  unfolding threshold_at
  opening o opens a =
      let here : ℕ → Bool = λ (f : ℕ). eqb f o in
      let e = latched_here position o opens b others one a.from w s a.sorted a.late in (
        ap (λ (r : Latched). bank_at (position + o) r.bank) e ∙ bank_at_lem b others one (position + o) (latch_where here position w s)
            ∙ ap (λ (z : Smoother). bank_with b others (cond (steps_at (position + o)) (stepped z) z)) (sym (a.same here (λ f h. ne_eqb f o (λ q. omega (arith, q))) s)),
        ap (λ (r : Latched). r.waiting) e,
      )

  -- after the last run: the rest
  pub ending : (frames : ℕ) → Waiting position frames events w → latched_all w (bank_with b others s) ≡ bank_with b others (latch_where (λ (f : ℕ). leb frames f) position events s)
  ending frames a =
      latched_all_lem b others one (λ (f : ℕ). leb frames f) position a.from w s a.sorted (λ x h. le-leb frames (latches_at position x) (a.late x h))
      ∙ ap (λ (z : Smoother). bank_with b others z) (sym (a.same (λ (f : ℕ). leb frames f) (λ f h. lt-leb frames f h) s))

-- inside a run nothing latches and nothing steps
pub threshold_still : (position : ℕ) (events : List Event) (i : ℕ) (s : Smoother) → Sorted 0 events → 0 < i → ((position + i) % 32 ≡ 0 → ⊥) → threshold_at position events i s ≡ s
unfolding threshold_at
threshold_still position events i s sorted inside still =
    rw (ne_eqb ((position + i) % 32) 0 still)
    (latch_none (λ (f : ℕ). eqb f i) position 0 events s sorted (λ x h. ne_eqb (latches_at position x) i (λ e. still (rw e at (latches_opening position x) inside))))
