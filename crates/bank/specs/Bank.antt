-- The bank and its calls: what each refuses, in the table's order, and the bank afterwards.
use Rattle.std.specs.Prelude.{◌≡◌, ℕ, zero, suc, Bool, true, false, cond, ◌&&◌, not, List, [], ◌∷◌, Result, Ok, Err, eqb, leb, ltb, take, get_or, set, Float}
use Rattle.std.specs.Float.Ieee.Scale.{finite}
use Rattle.arithmetic.specs.Reply.{Reply, finished, refused, count, float}
use Rattle.bank.specs.Param.{fault_of, fault_reply}
use Rattle.bank.specs.Smoother.{vacant, smoother_of, slot_prepared, target_set, immediate_set, stepped, reset_one}
use Rattle.bank.specs.Answers.{set_up_reply, param_set_reply, bank_step_reply}
use Rattle.bank.specs.declared.param.BankRefusal.{BankRefusal}
use Rattle.bank.specs.declared.param.ParamInfo.{ParamInfo}
use Rattle.bank.specs.declared.smoother.Smoother.{Smoother}
use Rattle.bank.specs.declared.smoother_bank.SmootherBank.{SmootherBank}
use Rattle.bank.specs.declared.smoother_bank.NotSetUp.{NotSetUp}
use Rattle.bank.specs.declared.smoother_bank.ParamRefusal.{ParamRefusal}

-- what a call leaves: its reply and the bank
pub record BankLeft : Type 0 where
  pub reply : Reply
  pub bank : SmootherBank

-- the bank changes where the work is finished, and nowhere else
abbrev pub settled : Reply → SmootherBank → SmootherBank → BankLeft
settled reply new old = record { reply = reply; bank = cond (eqb reply.number 0) new old }

-- ---- setup
-- 2 to 6 of the first parameter that fails, from an index on
unfoldable pub first_fault : ℕ → List ParamInfo → Reply
first_fault index [] = finished []
first_fault index (p ∷ ps) = cond (eqb (fault_of index p) 0) (first_fault (suc index) ps) (fault_reply (fault_of index p) index)

-- 1, then those
unfoldable pub declared_reply : List ParamInfo → ℕ → Reply
declared_reply params n = cond (ltb 8 n) (refused 1 []) (first_fault 0 (take n params))

-- a smoother for each of the first n parameters
unfoldable pub slots_of : ℕ → ℕ → List ParamInfo → List Smoother
slots_of rate n [] = []
slots_of rate zero (p ∷ ps) = vacant ∷ slots_of rate zero ps
slots_of rate (suc n) (p ∷ ps) = smoother_of rate p ∷ slots_of rate n ps

-- the bank that was never set up
abbrev pub unset : SmootherBank
unset = record {
  smoothers = vacant ∷ vacant ∷ vacant ∷ vacant ∷ vacant ∷ vacant ∷ vacant ∷ vacant ∷ [];
  count = 0;
  rate = 0;
  ready = false;
}

unfoldable pub set_up_of : List ParamInfo → ℕ → ℕ → BankLeft
set_up_of params n rate = settled (declared_reply params n) (record { smoothers = slots_of rate n params; count = n; rate = rate; ready = true }) unset

-- ---- 18
-- from an index on
unfoldable pub all_prepared : ℕ → ℕ → List Smoother → Bool
all_prepared rate index [] = true
all_prepared rate index (s ∷ ss) = slot_prepared rate index s && all_prepared rate (suc index) ss

-- set up, at most 8 parameters, and each of them as it should be
unfoldable pub prepared : SmootherBank → Bool
prepared b = b.ready && (leb b.count 8 && all_prepared b.rate 0 (take b.count b.smoothers))

-- ---- the other calls
abbrev pub with_slots : List Smoother → SmootherBank → SmootherBank
with_slots ss b = record { smoothers = ss; count = b.count; rate = b.rate; ready = b.ready }

-- each call of a closure, where its answers are those that calls may give, answers f of the smoother
abbrev pub Computes : (Smoother → Smoother → Type 0) → (Smoother → Smoother) → Type 0
Computes answers f = (s r : Smoother) → answers s r → r ≡ f s

-- the slot at an index
abbrev pub slot_at : ℕ → List Smoother → Smoother
slot_at i ss = get_or ss i vacant

-- the first n slots through f; the others are carried
unfoldable pub first_mapped : (Smoother → Smoother) → ℕ → List Smoother → List Smoother
first_mapped f zero ss = ss
first_mapped f (suc n) [] = []
first_mapped f (suc n) (s ∷ ss) = f s ∷ first_mapped f n ss

-- one slot through f
abbrev pub slot_mapped : (Smoother → Smoother) → ℕ → List Smoother → List Smoother
slot_mapped f i ss = set ss i (f (slot_at i ss))

abbrev pub all_changed : (Smoother → Smoother) → SmootherBank → SmootherBank
all_changed f b = with_slots (first_mapped f b.count b.smoothers) b

abbrev pub one_changed : (Smoother → Smoother) → ℕ → SmootherBank → SmootherBank
one_changed f i b = with_slots (slot_mapped f i b.smoothers) b

-- a parameter call: 18; 23 with the id and the offending value; 24. By 18 a parameter's id is its index.
unfoldable pub call_reply : SmootherBank → ℕ → Float → Reply
call_reply b id v =
    cond (not (prepared b)) (refused 18 [])
    (cond (not (finite v)) (refused 23 (count id ∷ float v ∷ []))
    (cond (leb b.count id) (refused 24 []) (finished [])))

unfoldable pub call_of : (Smoother → Smoother) → SmootherBank → ℕ → Float → BankLeft
call_of f b id v = settled (call_reply b id v) (one_changed f id b) b

abbrev pub set_target_of : SmootherBank → ℕ → Float → BankLeft
set_target_of b id v = call_of (target_set v) b id v

abbrev pub set_immediate_of : SmootherBank → ℕ → Float → BankLeft
set_immediate_of b id v = call_of (immediate_set v) b id v

-- a call for the whole bank: 18
unfoldable pub turn_reply : SmootherBank → Reply
turn_reply b = cond (not (prepared b)) (refused 18 []) (finished [])

unfoldable pub turn_of : (Smoother → Smoother) → SmootherBank → BankLeft
turn_of f b = settled (turn_reply b) (all_changed f b) b

abbrev pub step_of : SmootherBank → BankLeft
step_of b = turn_of stepped b

abbrev pub reset_of : SmootherBank → BankLeft
reset_of b = turn_of reset_one b

-- 18, then 24; a reading changes nothing
unfoldable pub value_of : SmootherBank → ℕ → Reply
value_of b id = cond (not (prepared b)) (refused 18 []) (cond (leb b.count id) (refused 24 []) (finished (float (slot_at id b.smoothers).cur ∷ [])))

-- the bank after n calls of `step`
unfoldable pub bank_after : ℕ → SmootherBank → SmootherBank
bank_after zero b = b
bank_after (suc n) b = bank_after n (step_of b).bank

-- ---- what the functions answer, and the bank that they leave
-- a refused setup leaves the bank that was never set up
abbrev pub bank_left : Result SmootherBank BankRefusal → SmootherBank
bank_left (Ok b) = b
bank_left (Err why) = unset

abbrev pub set_up_at : Result SmootherBank BankRefusal → BankLeft
set_up_at r = record { reply = set_up_reply r; bank = bank_left r }

abbrev pub param_set_at : Result Unit ParamRefusal → SmootherBank → BankLeft
param_set_at r b = record { reply = param_set_reply r; bank = b }

abbrev pub bank_stepped_at : Result Unit NotSetUp → SmootherBank → BankLeft
bank_stepped_at r b = record { reply = bank_step_reply r; bank = b }
