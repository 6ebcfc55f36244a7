-- Required gains are gains, one a frame; and no floor in the attack row is above the required gain of a frame that leaves or of the eleven frames after it.
use mathlib.Core.Path.{◌≡◌, refl, ap, ◌∙◌}
use mathlib.Core.Bool.{true}
use mathlib.Core.List.{List, [], ◌∷◌, ◌++◌}
use Prim.Native.Nat.{ℕ, zero, suc, ◌+◌, ◌-◌, ◌≤◌, ◌<◌}
use native.Mathlib.Omega.{arith}
use lib.Dec.{T}
use lib.ListN.{length, get_or, take, replicate, length-take, get_or-append}
use lib.Seq.{get_or-take}
use lib.Ieee.{Float, nan, le}
use lib.Ieee.Scale.{finite}
use Rattle.arithmetic.specs.Number
use Rattle.arithmetic.specs.Number.{one, within}
use Rattle.arithmetic.proofs.Within.{gain_within, unit→finite}
use Rattle.keeper.proofs.Scan.{All, AllFinite, all_take, least_le, least_each}
use Rattle.settings.specs.Derived.{row_of}
use Rattle.frame.specs.Rules.{Linking}
use Rattle.frame.specs.Frame.{required_gain}
use Rattle.claims.specs.Book.{Joined, peak_from, required_of, floors_of, attack_row}

-- ---- required gains
abbrev pub AllUnit : List Float → Type 0
AllUnit gs = All (λ (g : Float). within Number.zero one g ≡ true) gs

pub units_finite : (gs : List Float) → AllUnit gs → AllFinite gs
units_finite [] u = tt
units_finite (g ∷ gs) u = (unit→finite g u.0, units_finite gs u.1)

module _ (linking : Linking) (channels : ℕ) where
  pub required_unit : (fs : List Joined) → AllUnit (required_of linking channels fs)
  unfolding required_of
  required_unit [] = tt
  required_unit (f ∷ fs) = (gain_within (required_gain f.target (peak_from linking 0 channels Number.zero (f ∷ fs))), required_unit fs)

  pub required_finite : (fs : List Joined) → AllFinite (required_of linking channels fs)
  required_finite fs = units_finite (required_of linking channels fs) (required_unit fs)

  pub required_length : (fs : List Joined) → length (required_of linking channels fs) ≡ length fs
  unfolding required_of
  required_length [] = refl
  required_length (f ∷ fs) = ap suc (required_length fs)

-- ---- floors
pub floors_length : (look : ℕ) (gains : List Float) → length (floors_of look gains) ≡ length gains
unfolding floors_of
floors_length look [] = refl
floors_length look (g ∷ gs) = ap suc (floors_length look gs)

-- the floor of i frames back is at most each gain from there to look frames further back
pub floors_least : (look : ℕ) (gains : List Float) → AllFinite gains → (i j : ℕ) → i ≤ j → j ≤ i + look → j < length gains → le (get_or (floors_of look gains) i nan) (get_or gains j nan) ≡ true
unfolding floors_of
floors_least look [] f i j a b l = absurd (omega arith)
floors_least look (g ∷ gs) f zero zero a b l = least_le g (take look gs) f.0 (all_take (λ (h : Float). T (finite h)) look gs f.1)
floors_least look (g ∷ gs) f zero (suc j) a b l =
    rw (get_or-take look gs j nan (omega arith)) at
    (least_each g (take look gs) nan f.0 (all_take (λ (h : Float). T (finite h)) look gs f.1) (suc j) (omega (arith, length-take look gs)))
floors_least look (g ∷ gs) f (suc i) zero a b l = absurd (omega arith)
floors_least look (g ∷ gs) f (suc i) (suc j) a b l = floors_least look gs f.1 i j (omega arith) (omega arith) (omega arith)

-- ---- the row
-- a floor of the row that is not from before the start
pub row_at : (look : ℕ) (gains : List Float) (i : ℕ) → i < row_of look → i < length gains → get_or (attack_row look gains) i nan ≡ get_or (floors_of look gains) i nan
unfolding attack_row
row_at look gains i h l =
    get_or-take (row_of look) (floors_of look gains ++ replicate (row_of look) one) i nan h
    ∙ get_or-append (floors_of look gains) (replicate (row_of look) one) nan i (omega (arith, floors_length look gains))

-- "Where a sample leaves so, no floor in the attack row is above the required gain of its own frame or of any of the eleven frames after it"
pub leaving : (look : ℕ) (gains : List Float) → AllFinite gains → 11 ≤ look → look < length gains → (i k : ℕ) → i < row_of look → k ≤ 11
    → le (get_or (attack_row look gains) i nan) (get_or gains (look - k) nan) ≡ true
leaving look gains f m l i k h s = rw (row_at look gains i h (omega arith)) (floors_least look gains f i (look - k) (omega arith) (omega arith) (omega arith))

-- the same of the book's frames
pub frames_leaving : (linking : Linking) (look channels : ℕ) (fs : List Joined) → 11 ≤ look → look < length fs → (i k : ℕ) → i < row_of look → k ≤ 11
    → le (get_or (attack_row look (required_of linking channels fs)) i nan) (get_or (required_of linking channels fs) (look - k) nan) ≡ true
frames_leaving linking look channels fs m l = leaving look (required_of linking channels fs) (required_finite linking channels fs) m (rw (required_length linking channels fs) l)
