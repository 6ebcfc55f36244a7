-- What the floor keeper is for, proved for all looks and all lists of gains.
--
-- On one step, for a layer that keeps the keeper and its stores itself (`Follows k gs`: keeper and stores k have taken the sanitized gains gs since the start):
--     follows-start     a keeper with no entry and no frame has taken none, whatever the stores hold
--     follows-step      a step takes one gain more
--     follows-floor     its floor is the plain-scan floor of the history, to the bit
--     follows-few       at most look + 1 entries are kept
-- On lists of calls, from a start (`Start k`; a finished setup gives one, `setup_start`):
--     floor-true        each step answers the plain-scan floor of the gains so far
--     never-refused     12, 16 and 19 never arise
--     then_spent        after 2^40 frames each step is refused with 22
--     drops-kept        drops reported since the start plus entries kept equal frames taken
--     kept-most         at most look + 1 entries are kept
-- On the plain-scan floor:
--     floor-unit        it lies within 0 and 1
--     floor-least       it is at most each gain in its window
--     floor-among       it is one of them, and each later one is above it: of equal ones the latest
use mathlib.Core.Path.{◌≡◌, refl, sym, ap, ◌∙◌, subst}
use mathlib.Core.Bool.{Bool, true, false}
use mathlib.Core.List.{List, [], ◌∷◌, map}
use Prim.Native.Nat.{ℕ, zero, suc, ◌+◌, ◌-◌, ◌≤◌, ◌<◌, min}
use native.Mathlib.Decide.{dec_lt}
use native.Mathlib.Numerals.{add-one}
use native.Mathlib.Omega.{arith}
use lib.Dec.{T, eqb}
use lib.ListN.{length, get_or, take, drop, replicate, length-replicate, length-map, length-drop, length-take}
use lib.Seq.{get_or-take}
use lib.Ieee.{Float, le}
use lib.Ieee.Scale.{finite}
use borrow.Author.Tests.{eq-eqb}
use Rattle.arithmetic.specs.Number.{within, one}
use Rattle.arithmetic.specs.Number
use Rattle.arithmetic.specs.Sanitize.{unit_gain}
use Rattle.arithmetic.specs.Reply.{Reply, finished, refused, count, float}
use Rattle.arithmetic.proofs.Within.{gain_within, unit→finite}
use Rattle.keeper.specs.InOrder.{most_frames, is_in_order}
use Rattle.keeper.specs.Keeper.{Keeping, entries_of, ordered, look_taken, stores_fit, KeeperLeft, setup_of, stepped_of, Ready, finished_step, step_of}
use Rattle.keeper.specs.Floor.{floor_of}
use Rattle.keeper.specs.History.{ring_after, keeping_after, drops_in, drops_since, Start}
use Rattle.keeper.proofs.Step.{order_is, order-of, ring_after_lem, marks_after, minima_after, order_after, drops_after_lem, look_after, frame_after}
use Rattle.keeper.proofs.Drops.{both}
use Rattle.keeper.proofs.Calls.{both_fit, setup_12, setup_16, setup_0, refused_step, step_22, step_0}
use Rattle.keeper.proofs.Scan.{All, AllFinite, all_take, least_holds, least_each, least_among, Among}
use Rattle.keeper.proofs.Window.{ring_floor}

-- ---- one step
pub record Follows (k : Keeping) (gs : List Float) : Type 0 where
  pub marks_fit : length k.marks ≡ k.keeper.look + 1
  pub minima_fit : length k.minima ≡ k.keeper.look + 1
  pub in_order : ordered k ≡ true
  pub frame : k.keeper.frame ≡ length gs
  pub ring : entries_of k ≡ ring_after k.keeper.look gs
  pub gains : AllFinite gs

pub empty_order : (look head : ℕ) (marks : List ℕ) (minima : List Float) → head ≤ look → is_in_order look head 0 0 marks minima ≡ true
empty_order look head marks minima h =
    order_is look head 0 0 marks minima
    (record { frames = omega arith; few = omega arith; none = refl; inside = h; marks_rise = refl; last = refl; first = refl; minima_rise = refl; units = refl })

pub follows_start : (k : Keeping) → length k.marks ≡ k.keeper.look + 1 → length k.minima ≡ k.keeper.look + 1 →
    k.keeper.head ≤ k.keeper.look → k.keeper.len ≡ 0 → k.keeper.frame ≡ 0 → Follows k []
follows_start k m v h l f = record {
  marks_fit = m;
  minima_fit = v;
  in_order = rw (l, f) (empty_order k.keeper.look k.keeper.head k.marks k.minima h);
  frame = f;
  ring = rw l refl;
  gains = tt;
}

module _ (k : Keeping) (gs : List Float) (f : Follows k gs) where
  pub follows_ready : length gs < most_frames → Ready k
  follows_ready h = record { marks_fit = f.marks_fit; minima_fit = f.minima_fit; in_order = f.in_order; room = omega (arith, f.frame) }

  pub follows_step : (x : Float) → length gs < most_frames → Follows (stepped_of k x).keeping (unit_gain x ∷ gs)
  unfolding stepped_of
  follows_step x h =
      let r = follows_ready h in
      record {
        marks_fit = marks_after k x r;
        minima_fit = minima_after k x r;
        in_order = order_after k x r;
        frame = rw f.frame (add-one (length gs));
        ring = ring_after_lem k x r ∙ rw (f.frame, f.ring) refl;
        gains = (unit→finite (unit_gain x) (gain_within x), f.gains);
      }

  pub follows_floor : (x : Float) → (stepped_of k x).floor ≡ floor_of k.keeper.look (unit_gain x) gs
  unfolding stepped_of
  follows_floor x = rw (f.frame, f.ring) (ring_floor k.keeper.look (unit_gain x) gs (unit→finite (unit_gain x) (gain_within x)) f.gains)

  pub follows_few : k.keeper.len ≤ k.keeper.look + 1
  follows_few = (order-of k.keeper.look k.keeper.head k.keeper.len k.keeper.frame k.marks k.minima f.in_order).few

  -- the public step, where the look is one that a step takes
  fits : stores_fit k.keeper.look k.marks k.minima ≡ true
  fits = both (eqb (length k.marks) (k.keeper.look + 1)) (eqb (length k.minima) (k.keeper.look + 1)) (eq-eqb (length k.marks) (k.keeper.look + 1) f.marks_fit) (eq-eqb (length k.minima) (k.keeper.look + 1) f.minima_fit)

  pub step_finishes : (x : Float) → look_taken k.keeper.look ≡ true → length gs < most_frames → step_of k x ≡ finished_step (stepped_of k x)
  step_finishes x t h = sym (step_0 k x t fits f.in_order (omega (arith, f.frame)) (stepped_of k x) refl)

  pub step_spent : (x : Float) → look_taken k.keeper.look ≡ true → most_frames ≤ length gs → step_of k x ≡ refused_step k x 22
  step_spent x t h = sym (step_22 k x t fits f.in_order (omega (arith, f.frame)))

-- ---- lists of calls
-- the gains that count: all while there are at most 2^40, then the first 2^40
abbrev counted : List Float → List Float
counted xs = drop (length xs - most_frames) xs

counted_all : (xs : List Float) → length xs ≤ most_frames → counted xs ≡ xs
counted_all xs h = ap (λ (n : ℕ). drop n xs) none
  where
    none : length xs - most_frames ≡ 0
    none = omega arith

counted_more : (x : Float) (xs : List Float) → most_frames ≤ length xs → counted (x ∷ xs) ≡ counted xs
counted_more x xs h = ap (λ (n : ℕ). drop n (x ∷ xs)) more
  where
    more : suc (length xs) - most_frames ≡ suc (length xs - most_frames)
    more = omega arith

counted_length : (xs : List Float) → most_frames ≤ length xs → length (map unit_gain (counted xs)) ≡ most_frames
counted_length xs h = length-map (counted xs) unit_gain ∙ length-drop (length xs - most_frames) xs ∙ left
  where
    left : length xs - (length xs - most_frames) ≡ most_frames
    left = omega arith

-- a start's own look, kept
record After (k : Keeping) (xs : List Float) : Type 0 where
  follows : Follows (keeping_after k xs) (map unit_gain (counted xs))
  same_look : (keeping_after k xs).keeper.look ≡ k.keeper.look

module _ (k : Keeping) (s : Start k) where
  taken_after : (xs : List Float) → After k xs → look_taken (keeping_after k xs).keeper.look ≡ true
  taken_after xs a = rw a.same_look s.taken

  -- while frames are left
  all_follow : (xs : List Float) → length xs < most_frames → After k xs → Follows (keeping_after k xs) (map unit_gain xs)
  all_follow xs h a = rw (counted_all xs (omega arith)) at a.follows

  finishes_after : (x : Float) (xs : List Float) → length xs < most_frames → After k xs → step_of (keeping_after k xs) x ≡ finished_step (stepped_of (keeping_after k xs) x)
  finishes_after x xs h a = step_finishes (keeping_after k xs) (map unit_gain xs) (all_follow xs h a) x (taken_after xs a) (rw (length-map xs unit_gain) h)

  -- when none is left
  spent_after : (x : Float) (xs : List Float) → most_frames ≤ length xs → After k xs → step_of (keeping_after k xs) x ≡ refused_step (keeping_after k xs) x 22
  spent_after x xs h a = step_spent (keeping_after k xs) (map unit_gain (counted xs)) a.follows x (taken_after xs a) (omega (arith, counted_length xs h))

  -- a list of calls as long as one may wish
  finished_more : (x : Float) (xs : List Float) → length xs < most_frames → After k xs → After k (x ∷ xs)
  finished_more x xs h a =
      let e : (step_of (keeping_after k xs) x).keeping ≡ (stepped_of (keeping_after k xs) x).keeping = ap (λ (o : KeeperLeft). o.keeping) (finishes_after x xs h a) in
      record {
        follows =
            subst (λ (q : Keeping). Follows q (map unit_gain (counted (x ∷ xs)))) (sym e)
            (subst (λ (l : List Float). Follows (stepped_of (keeping_after k xs) x).keeping (map unit_gain l)) (sym (counted_all (x ∷ xs) h))
            (follows_step (keeping_after k xs) (map unit_gain xs) (all_follow xs h a) x (rw (length-map xs unit_gain) h)));
        same_look = ap (λ (q : Keeping). q.keeper.look) e ∙ look_after (keeping_after k xs) x ∙ a.same_look;
      }

  spent_more : (x : Float) (xs : List Float) → most_frames ≤ length xs → After k xs → After k (x ∷ xs)
  spent_more x xs h a =
      let e : (step_of (keeping_after k xs) x).keeping ≡ keeping_after k xs = ap (λ (o : KeeperLeft). o.keeping) (spent_after x xs h a) in
      record {
        follows =
            subst (λ (q : Keeping). Follows q (map unit_gain (counted (x ∷ xs)))) (sym e)
            (subst (λ (l : List Float). Follows (keeping_after k xs) (map unit_gain l)) (sym (counted_more x xs h)) a.follows);
        same_look = ap (λ (q : Keeping). q.keeper.look) e ∙ a.same_look;
      }

  after : (xs : List Float) → After k xs
  after [] =
      let f = both_fit k.keeper.look k.marks k.minima s.fit in
      record { follows = follows_start k f.0 f.1 s.inside s.no_entry s.no_frame; same_look = refl }
  after (x ∷ xs) = go (dec_lt (length xs) most_frames) (after xs)
    where
      go : Dec (length xs < most_frames) → After k xs → After k (x ∷ xs)
      go (yes h) a = finished_more x xs h a
      go (no h) a = spent_more x xs (omega arith) a

  -- THE FLOOR: each step answers the plain-scan floor of the gains so far, with the entries that it dropped and those that it keeps
  pub floor_true : (x : Float) (xs : List Float) → length xs < most_frames →
      (step_of (keeping_after k xs) x).reply
      ≡ finished (float (floor_of k.keeper.look (unit_gain x) (map unit_gain xs)) ∷ count (stepped_of (keeping_after k xs) x).dropped ∷ count (keeping_after k (x ∷ xs)).keeper.len ∷ [])
  floor_true x xs h =
      let a = after xs in
      let d = stepped_of (keeping_after k xs) x in
      subst (λ (o : KeeperLeft). o.reply ≡ finished (float (floor_of k.keeper.look (unit_gain x) (map unit_gain xs)) ∷ count d.dropped ∷ count o.keeping.keeper.len ∷ [])) (sym (finishes_after x xs h a))
      (ap (λ (v : Float). finished (float v ∷ count d.dropped ∷ count d.keeping.keeper.len ∷ []))
      (follows_floor (keeping_after k xs) (map unit_gain xs) (all_follow xs h a) x ∙ ap (λ (n : ℕ). floor_of n (unit_gain x) (map unit_gain xs)) a.same_look))

  -- 12, 16 and 19 never arise on stores that only the keeper wrote
  pub never_refused : (xs : List Float) →
      (look_taken (keeping_after k xs).keeper.look ≡ true)
      × (stores_fit (keeping_after k xs).keeper.look (keeping_after k xs).marks (keeping_after k xs).minima ≡ true)
      × (ordered (keeping_after k xs) ≡ true)
  never_refused xs =
      let a = after xs in
      (taken_after xs a, fits (keeping_after k xs) (map unit_gain (counted xs)) a.follows, a.follows.in_order)

  -- after 2^40 frames each step is refused, and changes nothing
  pub then_spent : (x : Float) (xs : List Float) → most_frames ≤ length xs → step_of (keeping_after k xs) x ≡ record { reply = refused 22 []; keeping = keeping_after k xs }
  then_spent x xs h = spent_after x xs h (after xs)

  pub frames_taken : (xs : List Float) → length xs ≤ most_frames → (keeping_after k xs).keeper.frame ≡ length xs
  frames_taken xs h = (after xs).follows.frame ∙ rw (counted_all xs h) (length-map xs unit_gain)

  pub kept_most : (xs : List Float) → (keeping_after k xs).keeper.len ≤ k.keeper.look + 1
  kept_most xs =
      let a = after xs in
      subst (λ (n : ℕ). (keeping_after k xs).keeper.len ≤ n + 1) a.same_look (follows_few (keeping_after k xs) (map unit_gain (counted xs)) a.follows)

  -- drops since the start plus entries kept equal frames taken
  pub drops_kept : (xs : List Float) → drops_since k xs + (keeping_after k xs).keeper.len ≡ (keeping_after k xs).keeper.frame
  drops_kept [] = rw (s.no_entry, s.no_frame) refl
  drops_kept (x ∷ xs) = go (dec_lt (length xs) most_frames) (drops_kept xs)
    where
      balanced : KeeperLeft → Type 0
      balanced o = drops_in o.reply.values + drops_since k xs + o.keeping.keeper.len ≡ o.keeping.keeper.frame

      go : Dec (length xs < most_frames) → drops_since k xs + (keeping_after k xs).keeper.len ≡ (keeping_after k xs).keeper.frame → balanced (step_of (keeping_after k xs) x)
      go (yes h) i =
          let a = after xs in
          let d = drops_after_lem (keeping_after k xs) x (follows_ready (keeping_after k xs) (map unit_gain xs) (all_follow xs h a) (rw (length-map xs unit_gain) h)) in
          subst balanced (sym (finishes_after x xs h a)) (omega (arith, frame_after (keeping_after k xs) x))
      go (no h) i = subst balanced (sym (spent_after x xs (omega arith) (after xs))) (omega arith)

-- ---- a finished setup is a start
pub setup_start : (look : ℕ) (marks : List ℕ) (minima : List Float) → (setup_of look marks minima).reply ≡ finished [] → Start (setup_of look marks minima).keeping
setup_start look marks minima h = go (look_taken look) (stores_fit look marks minima) refl refl
  where
    go : (b d : Bool) → look_taken look ≡ b → stores_fit look marks minima ≡ d → Start (setup_of look marks minima).keeping
    go true true u v =
        let f = both_fit look marks minima v in
        subst Start (ap (λ (o : KeeperLeft). o.keeping) (setup_0 look marks minima u v (replicate (length marks) 0) (replicate (length minima) Number.zero) refl refl))
        (record {
          taken = u;
          fit = both (eqb (length (replicate (length marks) 0)) (look + 1)) (eqb (length (replicate (length minima) Number.zero)) (look + 1)) (eq-eqb (length (replicate (length marks) 0)) (look + 1) (length-replicate (length marks) 0 ∙ f.0)) (eq-eqb (length (replicate (length minima) Number.zero)) (look + 1) (length-replicate (length minima) Number.zero ∙ f.1));
          inside = omega arith;
          no_entry = refl;
          no_frame = refl;
        })
    go true false u v =
        let z : ◌≡◌ {A = ℕ} 16 0 = ap (λ (o : KeeperLeft). o.reply.number) (setup_16 look marks minima u v) ∙ ap (λ (r : Reply). r.number) h in
        absurd (omega arith)
    go false d u v =
        let z : ◌≡◌ {A = ℕ} 12 0 = ap (λ (o : KeeperLeft). o.reply.number) (setup_12 look marks minima u) ∙ ap (λ (r : Reply). r.number) h in
        absurd (omega arith)

-- ---- the plain-scan floor
all_gains : (P : Float → Type 0) → ((x : Float) → P (unit_gain x)) → (xs : List Float) → All P (map unit_gain xs)
all_gains P h [] = tt
all_gains P h (x ∷ xs) = (h x, all_gains P h xs)

finite_gain : (x : Float) → T (finite (unit_gain x))
finite_gain x = unit→finite (unit_gain x) (gain_within x)

pub floor_unit : (look : ℕ) (x : Float) (xs : List Float) → within Number.zero one (floor_of look (unit_gain x) (map unit_gain xs)) ≡ true
floor_unit look x xs =
    least_holds (λ (g : Float). within Number.zero one g ≡ true) (unit_gain x) (take look (map unit_gain xs)) (gain_within x)
    (all_take (λ (g : Float). within Number.zero one g ≡ true) look (map unit_gain xs) (all_gains (λ (g : Float). within Number.zero one g ≡ true) gain_within xs))

-- the gain i frames back, in the window and in the history
window_at : (look : ℕ) (g : Float) (gs : List Float) (d : Float) (i : ℕ) → i ≤ look → get_or (g ∷ take look gs) i d ≡ get_or (g ∷ gs) i d
window_at look g gs d zero h = refl
window_at look g gs d (suc i) h = get_or-take look gs i d (omega arith)

window_length : (look : ℕ) (xs : List Float) → length (take look (map unit_gain xs)) ≡ min look (length xs)
window_length look xs = length-take look (map unit_gain xs) ∙ ap (min look) (length-map xs unit_gain)

-- i frames back, within the window
pub floor_least : (look : ℕ) (x : Float) (xs : List Float) (i : ℕ) → i ≤ look → i ≤ length xs → le (floor_of look (unit_gain x) (map unit_gain xs)) (get_or (unit_gain x ∷ map unit_gain xs) i one) ≡ true
floor_least look x xs i h k =
    rw (window_at look (unit_gain x) (map unit_gain xs) one i h) at
    (least_each (unit_gain x) (take look (map unit_gain xs)) one (finite_gain x)
    (all_take (λ (g : Float). T (finite g)) look (map unit_gain xs) (all_gains (λ (g : Float). T (finite g)) finite_gain xs)) i (omega (arith, window_length look xs)))

pub floor_among : (look : ℕ) (x : Float) (xs : List Float) → (i : ℕ) × (i ≤ look) × (i ≤ length xs) × Among (floor_of look (unit_gain x) (map unit_gain xs)) (unit_gain x ∷ map unit_gain xs) one i
floor_among look x xs =
    let w = least_among (unit_gain x) (take look (map unit_gain xs)) one in
    let inside : w.0 ≤ look = omega (arith, w.1, window_length look xs) in (
      w.0,
      inside,
      omega (arith, w.1, window_length look xs),
      record {
        is = w.2.is ∙ window_at look (unit_gain x) (map unit_gain xs) one w.0 inside;
        later = λ j h. rw (window_at look (unit_gain x) (map unit_gain xs) one j (omega arith)) at (w.2.later j h);
      },
    )
