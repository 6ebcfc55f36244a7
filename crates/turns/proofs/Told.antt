-- A block that tells a place is finished.
use mathlib.Core.Path.{◌≡◌, refl}
use Prim.Native.Nat.{ℕ}
use Rattle.std.specs.Prelude.{Option, Some, None}
use Rattle.frame.specs.Place.{Place}
use Rattle.frame.specs.declared.highest.Seat.{Seat}
use Rattle.turns.specs.Block.{placed, place_reply}

placed_finished : (i : ℕ) (seat : Option Seat) → (placed i seat).number ≡ 0
placed_finished i None = refl
placed_finished i (Some (Seat.OnSample c)) = refl
placed_finished i (Some (Seat.Between c phase)) = refl

pub place_finished : (p : Place) → (place_reply p).number ≡ 0
place_finished p = placed_finished p.frame p.seat
