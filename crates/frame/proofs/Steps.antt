-- Gain steps in passes: floors, means and gains of a run are the steps in turn.
use mathlib.Core.Path.{◌≡◌, refl, ap, ◌∙◌}
use mathlib.Core.Bool.{true}
use mathlib.Core.List.{List, [], ◌∷◌}
use Prim.Native.Nat.{ℕ, ◌+◌, ◌≤◌, ◌<◌}
use native.Mathlib.Omega.{arith}
use lib.ListN.{length}
use lib.Ieee.{Float}
use Rattle.keeper.specs.InOrder.{most_frames}
use Rattle.keeper.specs.Keeper.{Keeping, stepped_of, Ready}
use Rattle.keeper.specs.Run.{Floors, floors_of}
use Rattle.keeper.proofs.Step.{frame_after, ready_after, drops_after_lem}
use Rattle.envelope.specs.Row.{pushed, newest_first, all_unit}
use Rattle.envelope.specs.Mean.{mean_of}
use Rattle.envelope.specs.Follow.{followed}
use Rattle.envelope.specs.Step.{Enveloped, enveloped, gain_stepped, gain_step_of}
use Rattle.envelope.specs.Run.{Means, means_of, Follows, followed_all}
use Rattle.envelope.proofs.Gain.{step_floor_unit}
use Rattle.frame.specs.Passes.{Gains, gains_of}

-- a step leaves an entry, its own
some_left : (k : Keeping) (x : Float) → 0 < (stepped_of k x).keeping.keeper.len
unfolding stepped_of
some_left k x = omega arith

-- the floors of a run lie within 0 and 1
pub floors_unit : (k : Keeping) (xs : List Float) → (0 < length xs → Ready k) → k.keeper.frame + length xs ≤ most_frames → all_unit (floors_of k xs).floors ≡ true
unfolding floors_of
floors_unit k [] r room = refl
floors_unit k (x ∷ xs) r room =
    let now = r (omega arith) in
    let f = frame_after k x in
    rw (step_floor_unit k x now) (floors_unit (stepped_of k x).keeping xs (λ h. ready_after k x now (omega arith)) (rw f (omega arith)))

module _ (weights : List Float) (coeff : Float) where
  abbrev pub in_passes : Enveloped → List Float → Gains
  in_passes e xs =
      let f = floors_of e.keeping xs in
      let m = means_of weights e.rowed f.floors in
      let g = followed_all coeff e.gain m.means in
      record { gains = g.gains; env = enveloped f.keeping m.rowed g.gain }

  pub in_passes_lem : (e : Enveloped) (xs : List Float) → in_passes e xs ≡ gains_of weights coeff e xs
  unfolding gains_of gain_step_of floors_of means_of followed_all
  in_passes_lem e [] = refl
  in_passes_lem e (x ∷ xs) = ap (λ (later : Gains). record { gains = (gain_step_of weights coeff e x).env.gain ∷ later.gains; env = later.env }) (in_passes_lem (gain_step_of weights coeff e x).env xs)

  -- the same from what the code finds
  module _ (e : Enveloped) (xs : List Float) (f : Floors) (m : Means) (g : Follows) (F : f ≡ floors_of e.keeping xs) (M : m ≡ means_of weights e.rowed f.floors) (G : g ≡ followed_all coeff e.gain m.means) where
    pub passes_done : record { gains = g.gains; env = enveloped f.keeping m.rowed g.gain } ≡ gains_of weights coeff e xs
    passes_done = rw (G, M, F) (in_passes_lem e xs)

    -- of one gain, what its step tells
    pub lone_done : (x floor mean : Float) (dropped : ℕ) → xs ≡ x ∷ [] → Ready e.keeping → ((y : Float) → f.floors ≡ y ∷ [] → floor ≡ y) → ((y : Float) → m.means ≡ y ∷ [] → mean ≡ y)
        → ((d : ℕ) → 0 < f.keeping.keeper.len → d + f.keeping.keeper.len ≡ e.keeping.keeper.len + 1 → dropped ≡ d)
        → gain_stepped floor dropped mean (enveloped f.keeping m.rowed g.gain) ≡ gain_step_of weights coeff e x
    unfolding floors_of means_of followed_all gain_step_of
    lone_done x floor mean dropped one r A B C =
        let s = stepped_of e.keeping x in
        let p = pushed e.rowed.state e.rowed.row s.floor in
        let only = mean_of weights (newest_first p.state.pos p.row) in
        let f1 : f ≡ record { floors = s.floor ∷ []; keeping = s.keeping } = F ∙ ap (floors_of e.keeping) one in
        let m1 : m ≡ record { means = only ∷ []; rowed = p } = M ∙ ap (λ (k : Floors). means_of weights e.rowed k.floors) f1 in
        let g1 : g.gain ≡ followed e.gain only coeff = ap (λ (k : Follows). k.gain) (G ∙ ap (λ (k : Means). followed_all coeff e.gain k.means) m1) in
        let a : floor ≡ s.floor = A s.floor (ap (λ (k : Floors). k.floors) f1) in
        let b : mean ≡ only = B only (ap (λ (k : Means). k.means) m1) in
        let d : dropped ≡ s.dropped = C s.dropped (rw f1 (some_left e.keeping x)) (rw f1 (drops_after_lem e.keeping x r)) in
        rw (a, b, d, g1, m1, f1) refl
