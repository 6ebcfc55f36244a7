-- The floor keeper's calls: what each answers, and the keeper and both stores afterwards, for all inputs.
use Rattle.std.specs.Prelude.{ℕ, Result, Ok, Err, ◌+◌, ◌-◌, ◌≤◌, ◌≡◌, Bool, true, cond, ◌&&◌, List, [], ◌∷◌, leb, eqb, length, set, replicate, Float}
use Rattle.arithmetic.specs.Number
use Rattle.arithmetic.specs.Sanitize.{unit_gain}
use Rattle.arithmetic.specs.Reply.{Reply, finished, refused, count, float, unless}
use Rattle.keeper.specs.Ring.{Entry, wrap, ring_of, drop_back, drop_front, front_of}
use Rattle.keeper.specs.InOrder.{most_frames, is_in_order}
use Rattle.keeper.specs.declared.FloorKeeper.{FloorKeeper}
use Rattle.keeper.specs.declared.KeeperRefusal.{KeeperRefusal}
use Rattle.keeper.specs.declared.Floored.{Floored}

-- ---- document 01's number for each refusal, and number and values for what a call answers
abbrev pub refusal_number : KeeperRefusal → ℕ
refusal_number KeeperRefusal.LookOutOfRange = 12
refusal_number KeeperRefusal.StoreLength = 16
refusal_number KeeperRefusal.OutOfOrder = 19
refusal_number KeeperRefusal.FramesSpent = 22

abbrev pub setup_reply : Result FloorKeeper KeeperRefusal → Reply
setup_reply (Ok keeper) = finished []
setup_reply (Err why) = refused (refusal_number why) []

abbrev pub step_reply : Result Floored KeeperRefusal → Reply
step_reply (Ok s) = finished (float s.floor ∷ count s.dropped ∷ count s.kept ∷ [])
step_reply (Err why) = refused (refusal_number why) []

-- ---- a keeper with its lent stores
pub record Keeping : Type 0 where
  pub keeper : FloorKeeper
  pub marks : List ℕ
  pub minima : List Float

abbrev pub keeping_at : FloorKeeper → List ℕ → List Float → Keeping
keeping_at k marks minima = record { keeper = k; marks = marks; minima = minima }

-- the entries that it keeps, newest first
abbrev pub entries_of : Keeping → List Entry
entries_of k = ring_of (k.keeper.look + 1) k.marks k.minima k.keeper.head k.keeper.len

-- 19: in order
abbrev pub ordered : Keeping → Bool
ordered k = is_in_order k.keeper.look k.keeper.head k.keeper.len k.keeper.frame k.marks k.minima

-- 12: look under 11 or over 4,096
abbrev pub look_taken : ℕ → Bool
look_taken look = leb 11 look && leb look 4096

-- 16: a store's length
abbrev pub stores_fit : ℕ → List ℕ → List Float → Bool
stores_fit look marks minima = eqb (length marks) (look + 1) && eqb (length minima) (look + 1)

-- a keeper with no frame taken
abbrev pub fresh_keeper : ℕ → FloorKeeper
fresh_keeper look = record { look = look; head = 0; len = 0; frame = 0 }

-- a store of look + 1 places, and in it the places of the kept entries
pub record Placed {A : Type 0} (k : FloorKeeper) (store : List A) : Type 0 where
  pub fits : length store ≡ k.look + 1
  pub inside : k.head ≤ k.look
  pub few : k.len ≤ k.look + 1

-- what a call leaves: its reply, and keeper and stores
pub record KeeperLeft : Type 0 where
  pub reply : Reply
  pub keeping : Keeping

-- read off the result, the keeper and the stores at exit; a refused setup leaves a keeper that is not set up
abbrev pub keeper_set_up : Result FloorKeeper KeeperRefusal → FloorKeeper
keeper_set_up (Ok keeper) = keeper
keeper_set_up (Err why) = fresh_keeper 0

abbrev pub setup_at : Result FloorKeeper KeeperRefusal → List ℕ → List Float → KeeperLeft
setup_at r marks minima = record { reply = setup_reply r; keeping = keeping_at (keeper_set_up r) marks minima }

abbrev pub step_at : Result Floored KeeperRefusal → FloorKeeper → List ℕ → List Float → KeeperLeft
step_at r k marks minima = record { reply = step_reply r; keeping = keeping_at k marks minima }

-- what a judgement answers: the refusal's number, or 0
abbrev pub refusal_of : Result (Unit {0}) KeeperRefusal → ℕ
refusal_of (Ok taken) = 0
refusal_of (Err why) = refusal_number why

-- ---- setup
-- the refusal in the table's order; 0 where there is none
abbrev pub setup_refusal : ℕ → List ℕ → List Float → ℕ
setup_refusal look marks minima = unless (look_taken look) 12 (unless (stores_fit look marks minima) 16 0)

-- success fills both stores with 0; a refused setup leaves the stores alone and the keeper not set up
unfoldable pub setup_of : ℕ → List ℕ → List Float → KeeperLeft
setup_of look marks minima =
    cond (eqb (setup_refusal look marks minima) 0)
    (record { reply = finished []; keeping = keeping_at (fresh_keeper look) (replicate (look + 1) 0) (replicate (look + 1) Number.zero) })
    (record { reply = refused (setup_refusal look marks minima) []; keeping = keeping_at (fresh_keeper 0) marks minima })

-- ---- one gain step
-- what a step leaves: the floor, the entries dropped, and keeper and stores
pub record Stepped : Type 0 where
  pub floor : Float
  pub dropped : ℕ
  pub keeping : Keeping

-- read off the inner step's result, the keeper and the stores at exit
abbrev pub inner_at : Floored → FloorKeeper → List ℕ → List Float → Stepped
inner_at r k marks minima = record { floor = r.floor; dropped = r.dropped; keeping = keeping_at k marks minima }

-- A step of a keeper in order. The gain's entry goes behind the entries that are left, at one place of each store.
unfoldable pub stepped_of : Keeping → Float → Stepped
stepped_of k x =
    let look = k.keeper.look in
    let frame = k.keeper.frame in
    let gain = unit_gain x in
    let ring = entries_of k in
    let back = drop_back gain ring in
    let left = drop_front look frame back in
    let head = wrap (look + 1) (k.keeper.head + (length back - length left)) in
    let place = wrap (look + 1) (head + length left) in
    record {
      floor = (front_of (record { mark = frame; minimum = gain }) left).minimum;
      dropped = (length ring - length back) + (length back - length left);
      keeping = record {
        keeper = record { look = look; head = head; len = length left + 1; frame = frame + 1 };
        marks = set k.marks place frame;
        minima = set k.minima place gain;
      };
    }

-- what the inner step asks: both lengths, in order, and room for a frame more
pub record Ready (k : Keeping) : Type 0 where
  pub marks_fit : length k.marks ≡ k.keeper.look + 1
  pub minima_fit : length k.minima ≡ k.keeper.look + 1
  pub in_order : ordered k ≡ true
  pub room : k.keeper.frame + 1 ≤ most_frames

-- the refusal in the table's order; 0 where there is none
abbrev pub step_refusal : Keeping → ℕ
step_refusal k =
    unless (look_taken k.keeper.look) 12
    (unless (stores_fit k.keeper.look k.marks k.minima) 16 (unless (ordered k) 19 (unless (leb (k.keeper.frame + 1) most_frames) 22 0)))

-- a finished step replies floor, drops and entries kept
abbrev pub finished_step : Stepped → KeeperLeft
finished_step s = record {
  reply = finished (float s.floor ∷ count s.dropped ∷ count s.keeping.keeper.len ∷ []);
  keeping = s.keeping;
}

-- a refused step changes nothing
unfoldable pub step_of : Keeping → Float → KeeperLeft
step_of k x =
    cond (eqb (step_refusal k) 0) (finished_step (stepped_of k x)) (record { reply = refused (step_refusal k) []; keeping = k })
