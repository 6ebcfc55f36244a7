-- The turns of a run of gain steps: the floors passed, and what the rest comes to, stay the whole.
use mathlib.Core.Path.{◌≡◌, refl, ap, ◌∙◌}
use mathlib.Core.List.{List, ◌∷◌, ◌++◌}
use Prim.Native.Nat.{ℕ, ◌+◌, ◌-◌, ◌≤◌, ◌<◌}
use native.Mathlib.Omega.{arith}
use lib.ListN.{length, get_or, set, take, drop, length-set}
use lib.Ieee.{Float, nan}
use Rattle.arithmetic.proofs.InTurn.{split, kept, stored, none_left, all_stored}
use Rattle.keeper.specs.InOrder.{most_frames}
use Rattle.keeper.specs.Keeper.{Keeping, Stepped, stepped_of, Ready}
use Rattle.keeper.specs.Run.{Floors, floors_of}
use Rattle.keeper.proofs.Step.{frame_after, ready_after}

abbrev pub floors_from : Keeping → ℕ → List Float → Floors
floors_from k i l =
    let later = floors_of k (drop i l) in
    record { floors = take i l ++ later.floors; keeping = later.keeping }

module _ (k : Keeping) (i : ℕ) (l : List Float) where
  floors_more : (s : Stepped) → i < length l → s ≡ stepped_of k (get_or l i nan) → floors_from s.keeping (i + 1) (set l i s.floor) ≡ floors_from k i l
  unfolding floors_of
  floors_more s h e =
      let later = floors_of s.keeping (drop (i + 1) l) in
      let a : floors_from s.keeping (i + 1) (set l i s.floor) ≡ record { floors = take i l ++ (s.floor ∷ later.floors); keeping = later.keeping } =
      rw (kept l i h s.floor, stored l i h s.floor later.floors) refl
      in
      a ∙ rw (split l i h, e) refl

  pub floors_done : length l ≤ i → record { floors = l; keeping = k } ≡ floors_from k i l
  unfolding floors_of
  floors_done h = rw (none_left l i h, all_stored l i h) refl

-- what holds at each turn: room for the gains that are left, a keeper that is ready where there is one, and the whole
pub record FloorsLeft (whole : Floors) (k : Keeping) (i : ℕ) (l : List Float) : Type 0 where
  pub room : k.keeper.frame + (length l - i) ≤ most_frames
  pub ready : i < length l → Ready k
  pub rest : floors_from k i l ≡ whole

pub floors_turn : (whole : Floors) (k : Keeping) (i : ℕ) (l : List Float) (s : Stepped) → FloorsLeft whole k i l → i < length l → s ≡ stepped_of k (get_or l i nan) → FloorsLeft whole s.keeping (i + 1) (set l i s.floor)
floors_turn whole k i l s f h came =
    let frame : s.keeping.keeper.frame ≡ k.keeper.frame + 1 = ap (λ (t : Stepped). t.keeping.keeper.frame) came ∙ frame_after k (get_or l i nan) in
    let room = f.room in
    record {
      room = rw (length-set l i s.floor) (omega arith);
      ready = rw (length-set l i s.floor) (λ j. rw came (ready_after k (get_or l i nan) (f.ready h) (omega arith)));
      rest = floors_more k i l s h came ∙ f.rest;
    }
