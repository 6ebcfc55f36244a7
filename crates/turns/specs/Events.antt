-- Events of a block: their words, refusal 21, and how they latch.
use Rattle.std.specs.Prelude.{ℕ, zero, suc, ◌+◌, ◌*◌, ◌/◌, Bool, cond, not, ◌||◌, List, [], ◌∷◌, leb, ltb, length, get_or, Float}
use Rattle.std.specs.Float.Ieee.Scale.{finite}
use Rattle.arithmetic.specs.Number.{bits}
use Rattle.arithmetic.specs.Reply.{Reply, finished, refused, count}
use Rattle.bank.specs.Smoother.{target_set}
use Rattle.bank.specs.Bank.{one_changed}
use Rattle.bank.specs.declared.smoother_bank.SmootherBank.{SmootherBank}

-- stamped with an offset into the block: a parameter's id and its new target
pub record Event : Type 0 where
  pub offset : ℕ
  pub id : ℕ
  pub value : Float

-- three words each: offset, id, the value's bits
abbrev pub event_at : List ℕ → ℕ → Event
event_at words i = record { offset = get_or words (3 * i) 0; id = get_or words (3 * i + 1) 0; value = bits (get_or words (3 * i + 2) 0) }

-- n events, from event i on
unfoldable pub events_from : List ℕ → ℕ → ℕ → List Event
events_from words i zero = []
events_from words i (suc n) = event_at words i ∷ events_from words (i + 1) n

-- words after the last whole event are not read
abbrev pub events_of : List ℕ → List Event
events_of words = events_from words 0 (length words / 3)

-- ---- 21: "first event at or past the end, earlier than the one before, or not finite, with its index"
abbrev pub misplaced : ℕ → ℕ → Event → Bool
misplaced frames before e = leb frames e.offset || (ltb e.offset before || not (finite e.value))

-- from an index on, where the event before it was stamped `before`
unfoldable pub events_reply : ℕ → ℕ → ℕ → List Event → Reply
events_reply frames before index [] = finished []
events_reply frames before index (e ∷ es) = cond (misplaced frames before e) (refused 21 (count index ∷ [])) (events_reply frames e.offset (suc index) es)

-- ---- latching
-- "An unknown id is ignored"
abbrev pub latched_one : Event → SmootherBank → SmootherBank
latched_one e b = cond (ltb e.id b.count) (one_changed (target_set e.value) e.id b) b

-- the bank, and the events that wait for a later run
pub record Latched : Type 0 where
  pub bank : SmootherBank
  pub waiting : List Event

-- "latch events stamped at or before its first frame"
unfoldable pub latched : ℕ → List Event → SmootherBank → Latched
latched first [] b = record { bank = b; waiting = [] }
latched first (e ∷ es) b = cond (leb e.offset first) (latched first es (latched_one e b)) (record { bank = b; waiting = e ∷ es })

-- "After the last run latch the rest"
unfoldable pub latched_all : List Event → SmootherBank → SmootherBank
latched_all [] b = b
latched_all (e ∷ es) b = latched_all es (latched_one e b)
