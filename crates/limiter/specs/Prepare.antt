-- Setup of the limiter alone: the refusals 8 to 17 in the table's order, with 29 of document 02's Change 6, and what a finished one leaves.
use Rattle.std.specs.Prelude.{ℕ, cond, not, ◌||◌, List, [], Result, Ok, Err, eqb, Float}
use Rattle.std.specs.Result.{result_unwrap_or}
use Rattle.arithmetic.specs.Reply.{Reply, finished, numbered, unless, and_then}
use Rattle.settings.specs.Derived.{look_of}
use Rattle.settings.specs.Memory.{needed, cap_judged, cap_reply}
use Rattle.settings.specs.Weights.{accepted}
use Rattle.settings.specs.House.{house_fits, weights_for}
use Rattle.settings.specs.Accepted.{refusal_of, refusal_number}
use Rattle.settings.specs.declared.LimiterSettings.{LimiterSettings}
use Rattle.settings.specs.declared.ProcessSpec.{ProcessSpec}
use Rattle.limiter.specs.State.{not_set_up, started}
use Rattle.limiter.specs.Stores.{Stores, lengths_of, lengths_fit, filled, with_weights}
use Rattle.limiter.specs.declared.state.Limiter.{Limiter}
use Rattle.limiter.specs.declared.prepare.PrepareRefusal.{PrepareRefusal}
use Rattle.limiter.specs.declared.prepare.PrepareRefusal.TheVariants.{Settings, OverCap, NoHouse, StoreLength, Weights}
use Rattle.limiter.specs.declared.stores.StoreLengths.{StoreLengths}

-- document 01's number and values for each refusal: 15 carries needed and the cap left
abbrev pub refusal_reply : PrepareRefusal → Reply
refusal_reply (Settings why) = numbered (refusal_number why)
refusal_reply (OverCap over) = cap_reply 15 (Err over)
refusal_reply NoHouse = numbered 29
refusal_reply StoreLength = numbered 16
refusal_reply Weights = numbered 17

-- 0 where nothing is refused
abbrev pub prepare_reply : {A : Type 0} → Result A PrepareRefusal → Reply
prepare_reply (Ok a) = finished []
prepare_reply (Err why) = refusal_reply why

-- "29 when a house table is asked for and the rate and look fit none of the four, checked just before 16"; 16; 17, which "doesn't judge" the weights where a house table is asked for. 0 where none
-- of them arises
abbrev pub stores_refusal : ProcessSpec → ℕ → StoreLengths → List Float → ℕ
stores_refusal spec look l weights =
    unless (not spec.house || house_fits spec.rate look) 29 (unless (lengths_fit spec.channels look l) 16 (unless (spec.house || accepted weights) 17 0))

-- what setup replies: 8 to 14, 15, 29, 16, 17; 0 where nothing is refused
abbrev pub prepare_refusal : LimiterSettings → ProcessSpec → StoreLengths → List Float → Reply
prepare_refusal s spec l weights =
    let look = look_of s.lookahead_ms spec.rate in
    and_then (numbered (refusal_of s spec))
    (and_then (cap_reply 15 (cap_judged (needed spec.channels look) spec.cap)) (numbered (stores_refusal spec look l weights)))

-- what setup leaves
pub record LimiterLeft : Type 0 where
  pub reply : Reply
  pub limiter : Limiter
  pub stores : Stores

abbrev pub limiter_left : Reply → Limiter → Stores → LimiterLeft
limiter_left reply limiter stores = record { reply = reply; limiter = limiter; stores = stores }

-- a refused setup hands out no limiter: what then stands in its place is not set up
abbrev pub prepared_at : Result Limiter PrepareRefusal → Stores → LimiterLeft
prepared_at r stores = limiter_left (prepare_reply r) (result_unwrap_or r not_set_up) stores

-- the stores of a finished setup: filled, and the weights those that it goes by
abbrev pub filled_for : LimiterSettings → ProcessSpec → Stores → Stores
filled_for s spec stores = with_weights (weights_for s spec stores.weights) (filled stores)

-- a refused setup leaves the stores alone and the limiter not set up
unfoldable pub prepare_of : LimiterSettings → ProcessSpec → Stores → LimiterLeft
prepare_of s spec stores =
    let r = prepare_refusal s spec (lengths_of stores) stores.weights in
    cond (eqb r.number 0) (limiter_left r (started s spec) (filled_for s spec stores)) (limiter_left r not_set_up stores)
