-- The public calls, on plain values: which tests lead to which answer.
use mathlib.Core.Path.{◌≡◌, refl}
use mathlib.Core.Bool.{Bool, true, false, ◌&&◌, beq}
use mathlib.Core.List.{List, []}
use Prim.Native.Nat.{ℕ, ◌+◌, ◌≤◌, ◌<◌}
use native.Mathlib.Omega.{arith}
use lib.Dec.{leb, eqb}
use lib.ListN.{length, replicate}
use lib.Ieee.{Float}
use borrow.Author.Tests.{leb-true, le-leb, lt-leb, eqb-true}
use Rattle.arithmetic.specs.Number
use Rattle.arithmetic.specs.Reply.{finished, refused, unless}
use Rattle.arithmetic.proofs.Order.{and-true}
use Rattle.keeper.specs.InOrder.{most_frames, counts_in_order}
use Rattle.keeper.specs.Keeper.{refusal_number, Keeping, keeping_at, ordered, look_taken, stores_fit, KeeperLeft, fresh_keeper, setup_refusal, setup_of, Stepped, stepped_of, step_refusal, finished_step, step_of}
use Rattle.keeper.specs.declared.KeeperRefusal.{KeeperRefusal}

pub look_most : (look : ℕ) → look_taken look ≡ true → look ≤ 4096
look_most look h = leb-true look 4096 (and-true (leb 11 look) (leb look 4096) h).1

pub both_fit : (look : ℕ) (marks : List ℕ) (minima : List Float) → stores_fit look marks minima ≡ true → (length marks ≡ look + 1) × (length minima ≡ look + 1)
both_fit look marks minima h =
    let k = and-true (eqb (length marks) (look + 1)) (eqb (length minima) (look + 1)) h in
    (eqb-true (length marks) (look + 1) k.0, eqb-true (length minima) (look + 1) k.1)

-- ---- in order: the five tests on the ring, as the code takes them
pub regroup : (m l f v u : Bool) → m && (l && (f && (v && u))) ≡ (l && f) && ((m && v) && u)
regroup true true true v u = refl
regroup true true false v u = refl
regroup true false f v u = refl
regroup false true true v u = refl
regroup false true false v u = refl
regroup false false f v u = refl

pub counts_inside : (look head len frame : ℕ) → counts_in_order look head len frame ≡ true → (head ≤ look) × (len ≤ look + 1)
counts_inside look head len frame h =
    let a = and-true (leb frame most_frames) (leb len (look + 1) && (beq (eqb len 0) (eqb frame 0) && leb head look)) h in
    let b = and-true (leb len (look + 1)) (beq (eqb len 0) (eqb frame 0) && leb head look) a.1 in
    (leb-true head look (and-true (beq (eqb len 0) (eqb frame 0)) (leb head look) b.1).1, leb-true len (look + 1) b.0)

-- ---- what a judgement answers: a refusal has a number, and where there is none every test is passed
refusal_some : (why : KeeperRefusal) → eqb (refusal_number why) 0 ≡ false
refusal_some KeeperRefusal.LookOutOfRange = refl
refusal_some KeeperRefusal.StoreLength = refl
refusal_some KeeperRefusal.OutOfOrder = refl
refusal_some KeeperRefusal.FramesSpent = refl

passed : (test : Bool) (number next : ℕ) → 0 < number → 0 ≡ unless test number next → (test ≡ true) × (0 ≡ next)
passed true number next some h = (refl, h)
passed false number next some h = absurd (omega arith)

-- ---- setup
module _ (look : ℕ) (marks : List ℕ) (minima : List Float) where
  abbrev pub refused_setup : ℕ → KeeperLeft
  refused_setup n = record { reply = refused n []; keeping = keeping_at (fresh_keeper 0) marks minima }

  pub setup_12 : look_taken look ≡ false → refused_setup 12 ≡ setup_of look marks minima
  unfolding setup_of
  setup_12 h = rw h refl

  pub setup_16 : look_taken look ≡ true → stores_fit look marks minima ≡ false → refused_setup 16 ≡ setup_of look marks minima
  unfolding setup_of
  setup_16 h k = rw (h, k) refl

  pub setup_0 : look_taken look ≡ true → stores_fit look marks minima ≡ true →
      (cleared : List ℕ) (zeros : List Float) → cleared ≡ replicate (length marks) 0 → zeros ≡ replicate (length minima) Number.zero →
      ◌≡◌ {A = KeeperLeft} (record { reply = finished []; keeping = keeping_at (fresh_keeper look) cleared zeros }) (setup_of look marks minima)
  unfolding setup_of
  setup_0 h k cleared zeros p q =
      let f = both_fit look marks minima k in
      rw (p, q, h, k, f.0, f.1) refl

  -- from the judgement
  pub setup_refused : (why : KeeperRefusal) → refusal_number why ≡ setup_refusal look marks minima → refused_setup (refusal_number why) ≡ setup_of look marks minima
  unfolding setup_of
  setup_refused why h = rw (← h, refusal_some why) refl

  pub setup_finished : 0 ≡ setup_refusal look marks minima →
      (cleared : List ℕ) (zeros : List Float) → cleared ≡ replicate (length marks) 0 → zeros ≡ replicate (length minima) Number.zero →
      ◌≡◌ {A = KeeperLeft} (record { reply = finished []; keeping = keeping_at (fresh_keeper look) cleared zeros }) (setup_of look marks minima)
  setup_finished h cleared zeros p q =
      let a = passed (look_taken look) 12 _ (omega arith) h in
      setup_0 a.0 (passed (stores_fit look marks minima) 16 0 (omega arith) a.1).0 cleared zeros p q

-- ---- step
module _ (k : Keeping) (x : Float) where
  abbrev pub refused_step : ℕ → KeeperLeft
  refused_step n = record { reply = refused n []; keeping = k }

  -- from the judgement
  pub step_refused : (why : KeeperRefusal) → refusal_number why ≡ step_refusal k → refused_step (refusal_number why) ≡ step_of k x
  unfolding step_of
  step_refused why h = rw (← h, refusal_some why) refl

  pub step_finished : 0 ≡ step_refusal k → (s : Stepped) → s ≡ stepped_of k x → finished_step s ≡ step_of k x
  unfolding step_of
  step_finished h s e = rw (← h, e) refl

  module _ (a : look_taken k.keeper.look ≡ true) (b : stores_fit k.keeper.look k.marks k.minima ≡ true) (d : ordered k ≡ true) where
    pub step_22 : most_frames ≤ k.keeper.frame → refused_step 22 ≡ step_of k x
    unfolding step_of
    step_22 e = rw (a, b, d, lt-leb (k.keeper.frame + 1) most_frames (omega arith)) refl

    pub step_0 : k.keeper.frame < most_frames → (s : Stepped) → s ≡ stepped_of k x → finished_step s ≡ step_of k x
    unfolding step_of
    step_0 e s h = rw (a, b, d, le-leb (k.keeper.frame + 1) most_frames (omega arith), h) refl
