-- One gain step, for all looks: what it does to the ring, and that it keeps "in order". These laws, on a keeper with its stores, are what the layers above cite.
use mathlib.Core.Path.{◌≡◌, refl, sym, ap, ◌∙◌, subst}
use mathlib.Core.Bool.{Bool, true, false, ◌&&◌, beq}
use mathlib.Core.List.{List, [], ◌∷◌}
use Prim.Native.Nat.{ℕ, zero, suc, ◌+◌, ◌-◌, ◌≤◌, ◌<◌}
use native.Mathlib.Nat.{add-zero, sub_self}
use native.Mathlib.Numerals.{add-one}
use native.Mathlib.Omega.{arith}
use lib.Dec.{leb, eqb}
use lib.ListN.{length, get_or, set, length-set}
use lib.Ieee.{Float, nan, lt}
use borrow.Author.Tests.{ltb-true, ltb-false, leb-true, le-leb, eqb-true, eq-eqb, ne_eqb, not-true}
use Rattle.arithmetic.specs.Number.{within, one}
use Rattle.arithmetic.specs.Number
use Rattle.arithmetic.specs.Sanitize.{unit_gain}
use Rattle.arithmetic.proofs.Order.{and-true}
use Rattle.arithmetic.proofs.Within.{gain_within}
use Rattle.keeper.specs.Ring.{Entry, wrap, entry_at, ring_of, drop_back, stale, drop_front, ring_step, front_of}
use Rattle.keeper.specs.InOrder.{most_frames, each, above, rising, less_mark, less_minimum, last_mark, first_mark, unit_minimum, unit_minima, counts_in_order, ring_in_order, is_in_order}
use Rattle.keeper.specs.Keeper.{Keeping, entries_of, ordered, Placed, Stepped, stepped_of, Ready}
use Rattle.keeper.proofs.Places.{wrap_in, wrap_below, wrap_wrap, ring_length, ring_front, ring_append, front_place}
use Rattle.keeper.proofs.Drops.{both, back_length, front_kept, front_dropped, front_length, each_back, each_front, above_front, above_back, fresh_front, fresh_front_lem, taken, all_taken, spread}

-- ---- what is left of a ring lies in the stores as it did
module _ (cap : ℕ) (marks : List ℕ) (minima : List Float) where
  pub back_ring : (gain : Float) (head n : ℕ) → ring_of cap marks minima head (length (drop_back gain (ring_of cap marks minima head n))) ≡ drop_back gain (ring_of cap marks minima head n)
  back_ring gain head zero = refl
  back_ring gain head (suc n) = go (lt (get_or minima (wrap cap (head + n)) nan) gain) refl (back_ring gain head n)
    where
      go : (b : Bool) → lt (get_or minima (wrap cap (head + n)) nan) gain ≡ b
          → ring_of cap marks minima head (length (drop_back gain (ring_of cap marks minima head n))) ≡ drop_back gain (ring_of cap marks minima head n)
          → ring_of cap marks minima head (length (drop_back gain (ring_of cap marks minima head (suc n)))) ≡ drop_back gain (ring_of cap marks minima head (suc n))
      go true h k = rw (h, ring_length cap marks minima head n) refl
      go false h k = rw h k

  -- l lies in the stores as the last entries of n from head on
  abbrev Lies : ℕ → ℕ → List Entry → Type 0
  Lies head n l = ring_of cap marks minima (wrap cap (head + (n - length l))) (length l) ≡ l

  lies_whole : (head n : ℕ) → head < cap → Lies head n (ring_of cap marks minima head n)
  lies_whole head n hh = rw (ring_length cap marks minima head n, sub_self n, add-zero head, wrap_in cap head hh) refl

  lies_on : (head n : ℕ) (l : List Entry) → head < cap → n < cap → length l ≤ n → Lies (wrap cap (head + 1)) n l → Lies head (suc n) l
  lies_on head n l hh hn few h = rw (on, ← wrap_wrap cap (head + 1) (n - length l) (omega arith)) h
    where
      on : head + (suc n - length l) ≡ head + 1 + (n - length l)
      on = omega arith

  pub front_ring : (look frame head n : ℕ) → head < cap → n ≤ cap → Lies head n (drop_front look frame (ring_of cap marks minima head n))
  front_ring look frame head zero hh hn = refl
  front_ring look frame head (suc n) hh hn =
      go (stale look frame (entry_at marks minima head)) refl
      (front_ring look frame (wrap cap (head + 1)) n (wrap_below cap (head + 1) (omega arith)) (omega arith))
    where
      rest : List Entry
      rest = ring_of cap marks minima (wrap cap (head + 1)) n

      few : length (drop_front look frame rest) ≤ n
      few = let k = front_length look frame rest in omega (arith, ring_length cap marks minima (wrap cap (head + 1)) n)

      go : (b : Bool) → stale look frame (entry_at marks minima head) ≡ b → Lies (wrap cap (head + 1)) n (drop_front look frame rest) → Lies head (suc n) (drop_front look frame (ring_of cap marks minima head (suc n)))
      go true s k = subst (Lies head (suc n)) (sym (ap (drop_front look frame) (ring_front cap marks minima head n hh hn) ∙ front_dropped look frame rest (entry_at marks minima head) s)) (lies_on head n (drop_front look frame rest) hh hn few k)
      go false s k =
          let e = ring_front cap marks minima head n hh hn in
          subst (Lies head (suc n)) (sym (ap (drop_front look frame) e ∙ front_kept look frame rest (entry_at marks minima head) s ∙ sym e)) (lies_whole head (suc n) hh)

-- ---- a step on a ring in order
module _ (look frame : ℕ) (gain : Float) (unit : within Number.zero one gain ≡ true) (ring : List Entry) (marks_rise : rising less_mark ring ≡ true) (last : last_mark frame ring ≡ true) where
  abbrev left : List Entry
  left = drop_front look frame (drop_back gain ring)

  -- what is judged entry by entry stays, if a drop at the front does not hurt it
  kept : (test : Entry → List Entry → Bool) → ((e : Entry) (es : List Entry) → test e es ≡ true → test e (drop_front look frame es) ≡ true) → each test ring ≡ true → each test left ≡ true
  kept test stays h = each_front test look frame stays (drop_back gain ring) (each_back test gain ring h)

  old : (l : List Entry) → rising less_mark l ≡ true → last_mark frame l ≡ true → each (taken frame) l ≡ true
  old [] h k = refl
  old (e ∷ es) h k = all_taken frame e es (omega (arith, eqb-true (e.mark + 1) frame k)) h

  left_old : each (taken frame) left ≡ true
  left_old = kept (taken frame) (λ e es h. h) (old ring marks_rise last)

  left_rise : rising less_mark left ≡ true
  left_rise = kept (above less_mark) (above_front less_mark look frame) marks_rise

  newest : (l : List Entry) → each (taken frame) l ≡ true → above less_mark (record { mark = frame; minimum = gain }) l ≡ true
  newest [] h = refl
  newest (f ∷ fs) h = (and-true (taken frame f fs) (each (taken frame) fs) h).0

  fewer : (l : List Entry) → rising less_mark l ≡ true → each (taken frame) l ≡ true → fresh_front look frame l ≡ true → length l ≤ look
  fewer [] h k f = omega arith
  fewer (e ∷ es) h k f =
      let s = spread e es h in
      omega (arith, ltb-true e.mark frame (and-true (taken frame e es) (each (taken frame) es) k).0, ltb-false look (frame - (front_of e es).mark) (not-true (stale look frame (front_of e es)) f))

  -- at most look entries are left, so that there is room for one more
  pub left_few : length left ≤ look
  left_few = fewer left left_rise left_old (fresh_front_lem look frame (drop_back gain ring))

  first_front : (l : List Entry) → fresh_front look frame l ≡ true → first_mark look (frame + 1) (record { mark = frame; minimum = gain } ∷ l) ≡ true
  first_front [] h = le-leb (frame + 1) (frame + look + 1) (omega arith)
  first_front (f ∷ fs) h =
      le-leb (frame + 1) ((front_of f fs).mark + look + 1)
      (omega (arith, ltb-false look (frame - (front_of f fs).mark) (not-true (stale look frame (front_of f fs)) h)))

  pub step_marks : rising less_mark (ring_step look frame gain ring) ≡ true
  step_marks = both (above less_mark (record { mark = frame; minimum = gain }) left) (rising less_mark left) (newest left left_old) left_rise

  pub step_last : last_mark (frame + 1) (ring_step look frame gain ring) ≡ true
  step_last = eq-eqb (frame + 1) (frame + 1) refl

  pub step_first : first_mark look (frame + 1) (ring_step look frame gain ring) ≡ true
  step_first = first_front left (fresh_front_lem look frame (drop_back gain ring))

  pub step_minima : rising less_minimum ring ≡ true → rising less_minimum (ring_step look frame gain ring) ≡ true
  step_minima h =
      both (above less_minimum (record { mark = frame; minimum = gain }) left) (rising less_minimum left)
      (above_front less_minimum look frame (record { mark = frame; minimum = gain }) (drop_back gain ring) (above_back (record { mark = frame; minimum = gain }) ring))
      (kept (above less_minimum) (above_front less_minimum look frame) h)

  pub step_units : unit_minima ring ≡ true → unit_minima (ring_step look frame gain ring) ≡ true
  step_units h = both (within Number.zero one gain) (unit_minima left) unit (kept unit_minimum (λ e es k. k) h)

-- ---- "in order", clause by clause
pub record Order (look head len frame : ℕ) (ring : List Entry) : Type 0 where
  pub frames : frame ≤ most_frames
  pub few : len ≤ look + 1
  pub none : beq (eqb len 0) (eqb frame 0) ≡ true
  pub inside : head ≤ look
  pub marks_rise : rising less_mark ring ≡ true
  pub last : last_mark frame ring ≡ true
  pub first : first_mark look frame ring ≡ true
  pub minima_rise : rising less_minimum ring ≡ true
  pub units : unit_minima ring ≡ true

module _ (look head len frame : ℕ) (marks : List ℕ) (minima : List Float) where
  abbrev here : List Entry
  here = ring_of (look + 1) marks minima head len

  pub order-of : is_in_order look head len frame marks minima ≡ true → Order look head len frame here
  unfolding is_in_order
  order-of h =
      let a = and-true (counts_in_order look head len frame) (ring_in_order look frame here) h in
      let b = and-true (leb frame most_frames) (leb len (look + 1) && (beq (eqb len 0) (eqb frame 0) && leb head look)) a.0 in
      let c = and-true (leb len (look + 1)) (beq (eqb len 0) (eqb frame 0) && leb head look) b.1 in
      let d = and-true (beq (eqb len 0) (eqb frame 0)) (leb head look) c.1 in
      let e = and-true (rising less_mark here) (last_mark frame here && (first_mark look frame here && (rising less_minimum here && unit_minima here))) a.1 in
      let f = and-true (last_mark frame here) (first_mark look frame here && (rising less_minimum here && unit_minima here)) e.1 in
      let g = and-true (first_mark look frame here) (rising less_minimum here && unit_minima here) f.1 in
      let k = and-true (rising less_minimum here) (unit_minima here) g.1 in
      record {
        frames = leb-true frame most_frames b.0;
        few = leb-true len (look + 1) c.0;
        none = d.0;
        inside = leb-true head look d.1;
        marks_rise = e.0;
        last = f.0;
        first = g.0;
        minima_rise = k.0;
        units = k.1;
      }

  pub order_is : Order look head len frame here → is_in_order look head len frame marks minima ≡ true
  unfolding is_in_order
  order_is o = rw (le-leb frame most_frames o.frames, le-leb len (look + 1) o.few, o.none, le-leb head look o.inside, o.marks_rise, o.last, o.first, o.minima_rise, o.units) refl

-- ---- a step of a keeper that is ready for it
abbrev order_of : Keeping → Type 0
order_of k = Order k.keeper.look k.keeper.head k.keeper.len k.keeper.frame (entries_of k)

pub ready_order : (k : Keeping) → Ready k → order_of k
ready_order k r = order-of k.keeper.look k.keeper.head k.keeper.len k.keeper.frame k.marks k.minima r.in_order

-- its entries lie inside its stores
pub ready_placed : {A : Type 0} (k : Keeping) (store : List A) → Ready k → length store ≡ k.keeper.look + 1 → Placed k.keeper store
ready_placed k store r fits = let o = ready_order k r in record { fits = fits; inside = o.inside; few = o.few }

-- the front of a ring that has one
front_in : List Entry → Entry
front_in [] = record { mark = 0; minimum = nan }
front_in (e ∷ es) = front_of e es

-- what the definition of a step binds
module _ (k : Keeping) (x : Float) where
  abbrev pub cap_of : ℕ
  cap_of = k.keeper.look + 1

  abbrev pub back_of : List Entry
  back_of = drop_back (unit_gain x) (entries_of k)

  abbrev pub left_of : List Entry
  left_of = drop_front k.keeper.look k.keeper.frame back_of

  abbrev pub head_of : ℕ
  head_of = wrap cap_of (k.keeper.head + (length back_of - length left_of))

  abbrev pub place_of : ℕ
  place_of = wrap cap_of (head_of + length left_of)

module _ (k : Keeping) (x : Float) (r : Ready k) where
  o : order_of k
  o = ready_order k r

  pub left_room : length (left_of k x) ≤ k.keeper.look
  left_room = left_few k.keeper.look k.keeper.frame (unit_gain x) (gain_within x) (entries_of k) o.marks_rise o.last

  pub back_most : length (back_of k x) ≤ k.keeper.len
  back_most = omega (arith, back_length (unit_gain x) (entries_of k), ring_length (cap_of k x) k.marks k.minima k.keeper.head k.keeper.len)

  pub left_most : length (left_of k x) ≤ length (back_of k x)
  left_most = front_length k.keeper.look k.keeper.frame (back_of k x)

  pub head_inside : head_of k x < cap_of k x
  head_inside = wrap_below (cap_of k x) (k.keeper.head + (length (back_of k x) - length (left_of k x))) (let b = back_most in let i = o.inside in let f = o.few in omega arith)

  -- what both drops leave lies where it lay
  pub left_lies : ring_of (cap_of k x) k.marks k.minima (head_of k x) (length (left_of k x)) ≡ left_of k x
  left_lies =
      subst (λ (l : List Entry). Lies (cap_of k x) k.marks k.minima k.keeper.head (length (back_of k x)) (drop_front k.keeper.look k.keeper.frame l))
      (back_ring (cap_of k x) k.marks k.minima (unit_gain x) k.keeper.head k.keeper.len)
      (front_ring (cap_of k x) k.marks k.minima k.keeper.look k.keeper.frame k.keeper.head (length (back_of k x))
      (let i = o.inside in omega arith) (let b = back_most in let f = o.few in omega arith))

  after-append : ring_of (cap_of k x) (set k.marks (place_of k x) k.keeper.frame) (set k.minima (place_of k x) (unit_gain x)) (head_of k x) (suc (length (left_of k x)))
      ≡ ring_step k.keeper.look k.keeper.frame (unit_gain x) (entries_of k)
  after-append =
      ring_append (cap_of k x) (head_of k x) (length (left_of k x)) k.keeper.frame k.marks k.minima (unit_gain x) head_inside (let l = left_room in omega arith) r.marks_fit r.minima_fit
      ∙ ap {B = List Entry} (λ l. record { mark = k.keeper.frame; minimum = unit_gain x } ∷ l) left_lies

  -- THE RING LAW: the entries in the stores after a step are the ring's step of those before
  pub ring_after_lem : entries_of (stepped_of k x).keeping ≡ ring_step k.keeper.look k.keeper.frame (unit_gain x) (entries_of k)
  unfolding stepped_of
  ring_after_lem = rw (add-one (length (left_of k x))) after-append

  -- the front in the store is the ring's front
  pub floor_place : get_or (set k.minima (place_of k x) (unit_gain x)) (head_of k x) nan ≡ (stepped_of k x).floor
  unfolding stepped_of front_in
  floor_place =
      ap (λ (e : Entry). e.minimum)
      (sym (front_place (cap_of k x) (set k.marks (place_of k x) k.keeper.frame) (set k.minima (place_of k x) (unit_gain x)) (head_of k x) (length (left_of k x)) head_inside)
      ∙ ap front_in after-append)

  -- a step keeps both lengths and the order
  pub marks_after : length (stepped_of k x).keeping.marks ≡ k.keeper.look + 1
  unfolding stepped_of
  marks_after = length-set k.marks (place_of k x) k.keeper.frame ∙ r.marks_fit

  pub minima_after : length (stepped_of k x).keeping.minima ≡ k.keeper.look + 1
  unfolding stepped_of
  minima_after = length-set k.minima (place_of k x) (unit_gain x) ∙ r.minima_fit

  stepped_order : Order k.keeper.look (head_of k x) (length (left_of k x) + 1) (k.keeper.frame + 1) (ring_step k.keeper.look k.keeper.frame (unit_gain x) (entries_of k))
  stepped_order =
      let look = k.keeper.look in
      let frame = k.keeper.frame in
      record {
        frames = r.room;
        few = let l = left_room in omega arith;
        none = rw (ne_eqb (length (left_of k x) + 1) 0 (omega arith), ne_eqb (frame + 1) 0 (omega arith)) refl;
        inside = let h = head_inside in omega arith;
        marks_rise = step_marks look frame (unit_gain x) (gain_within x) (entries_of k) o.marks_rise o.last;
        last = step_last look frame (unit_gain x) (gain_within x) (entries_of k) o.marks_rise o.last;
        first = step_first look frame (unit_gain x) (gain_within x) (entries_of k) o.marks_rise o.last;
        minima_rise = step_minima look frame (unit_gain x) (gain_within x) (entries_of k) o.marks_rise o.last o.minima_rise;
        units = step_units look frame (unit_gain x) (gain_within x) (entries_of k) o.marks_rise o.last o.units;
      }

  pub order_after : ordered (stepped_of k x).keeping ≡ true
  unfolding stepped_of
  order_after =
      order_is k.keeper.look (head_of k x) (length (left_of k x) + 1) (k.keeper.frame + 1) (set k.marks (place_of k x) k.keeper.frame) (set k.minima (place_of k x) (unit_gain x))
      (subst (Order k.keeper.look (head_of k x) (length (left_of k x) + 1) (k.keeper.frame + 1)) (sym ring_after_lem) stepped_order)

  -- drops and entries kept: each frame comes in once
  pub drops_after_lem : (stepped_of k x).dropped + (stepped_of k x).keeping.keeper.len ≡ k.keeper.len + 1
  unfolding stepped_of
  drops_after_lem =
      let b = back_most in
      let l = left_most in
      omega (arith, ring_length (cap_of k x) k.marks k.minima k.keeper.head k.keeper.len)

pub look_after : (k : Keeping) (x : Float) → (stepped_of k x).keeping.keeper.look ≡ k.keeper.look
unfolding stepped_of
look_after k x = refl

pub frame_after : (k : Keeping) (x : Float) → (stepped_of k x).keeping.keeper.frame ≡ k.keeper.frame + 1
unfolding stepped_of
frame_after k x = refl

-- ready for the next step, while frames are left
pub ready_after : (k : Keeping) (x : Float) → Ready k → k.keeper.frame + 2 ≤ most_frames → Ready (stepped_of k x).keeping
unfolding stepped_of
ready_after k x r h = record { marks_fit = marks_after k x r; minima_fit = minima_after k x r; in_order = order_after k x r; room = omega arith }

-- ---- the inner step's answer, from what its calls hand back
module _ (k : Keeping) (x : Float) (r : Ready k) (rg : Float) (gain : rg ≡ unit_gain x) (back : ℕ)
    (backs : (marks : List ℕ) → ring_of (cap_of k x) marks k.minima k.keeper.head back ≡ drop_back rg (ring_of (cap_of k x) marks k.minima k.keeper.head k.keeper.len))
  where
    back_is : ring_of (cap_of k x) k.marks k.minima k.keeper.head back ≡ back_of k x
    back_is = rw gain at (backs k.marks)

    back_count : back ≡ length (back_of k x)
    back_count = sym (ring_length (cap_of k x) k.marks k.minima k.keeper.head back) ∙ ap length back_is

    pub back_fits : (back ≤ k.keeper.look + 1) × (back ≤ k.keeper.len)
    back_fits = let b = back_most k x r in let f = (ready_order k r).few in omega (arith, back_count)

    module _ (head left : ℕ)
        (fronts : (minima : List Float) → ring_of (cap_of k x) k.marks minima head left ≡ drop_front k.keeper.look k.keeper.frame (ring_of (cap_of k x) k.marks minima k.keeper.head back))
        (turned : head ≡ wrap (cap_of k x) (k.keeper.head + (back - left)))
      where
        left_count : left ≡ length (left_of k x)
        left_count = sym (ring_length (cap_of k x) k.marks k.minima head left) ∙ ap length (fronts k.minima ∙ ap (drop_front k.keeper.look k.keeper.frame) back_is)

        head_is : head ≡ head_of k x
        head_is = rw (turned, back_count, left_count) refl

        -- the front's place, how many entries are left, and how many are dropped
        pub front_fits : (head < k.keeper.look + 1) × (left ≤ k.keeper.look) × (left ≤ k.keeper.len)
        front_fits =
            let b = back_most k x r in
            let l = left_most k x r in
            (rw head_is (head_inside k x r), rw left_count (left_room k x r), omega (arith, left_count))

        -- the place of the new entry
        pub place_fits : (place : ℕ) → place ≡ wrap (k.keeper.look + 1) (head + left) → place < k.keeper.look + 1
        place_fits place placed = let f = front_fits in rw placed (wrap_below (k.keeper.look + 1) (head + left) (omega arith))

        pub step_done : (place : ℕ) → place ≡ wrap (k.keeper.look + 1) (head + left) → ◌≡◌ {A = Stepped}
            (record {
              floor = get_or (set k.minima place rg) head nan;
              dropped = k.keeper.len - left;
              keeping = record {
                keeper = record { look = k.keeper.look; head = head; len = left + 1; frame = k.keeper.frame + 1 };
                marks = set k.marks place k.keeper.frame;
                minima = set k.minima place rg;
              };
            })
            (stepped_of k x)
        unfolding stepped_of
        step_done place placed = rw (place_is, head_is, left_count, gain, floor_place k x r, counted) refl
          where
            place_is : place ≡ place_of k x
            place_is = rw (placed, head_is, left_count) refl

            counted : k.keeper.len - length (left_of k x) ≡ (length (entries_of k) - length (back_of k x)) + (length (back_of k x) - length (left_of k x))
            counted =
                let b = back_most k x r in
                let l = left_most k x r in
                omega (arith, ring_length (cap_of k x) k.marks k.minima k.keeper.head k.keeper.len)
