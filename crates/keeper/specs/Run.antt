-- A run of gain steps: the steps in turn.
use Rattle.std.specs.Prelude.{ℕ, List, [], ◌∷◌, Float}
use Rattle.keeper.specs.Keeper.{Keeping, keeping_at, stepped_of}
use Rattle.keeper.specs.declared.FloorKeeper.{FloorKeeper}

-- the floors, the first gain's first, and keeper and stores afterwards
pub record Floors : Type 0 where
  pub floors : List Float
  pub keeping : Keeping

abbrev pub floors_at : FloorKeeper → List ℕ → List Float → List Float → Floors
floors_at k marks minima floors = record { floors = floors; keeping = keeping_at k marks minima }

-- the floor of each of these gains
unfoldable pub floors_of : Keeping → List Float → Floors
floors_of k [] = record { floors = []; keeping = k }
floors_of k (x ∷ xs) =
    let s = stepped_of k x in
    let later = floors_of s.keeping xs in
    record { floors = s.floor ∷ later.floors; keeping = later.keeping }
