-- A parameter bank in 101 lent words, and what its calls leave there: twelve of each slot (bank's specs/Words), then count, rate and ready, the count told and the value told.
use Rattle.std.specs.Prelude.{ℕ, cond, not, List, [], ◌∷◌, ◌++◌, Result, eqb, get_or, Float}
use Rattle.std.proofs.lemmas.List.Edits.{sets}
use Rattle.arithmetic.specs.Reply.{Value, count, float}
use Rattle.bank.specs.Answers.{bank_value_reply}
use Rattle.bank.specs.Smoother.{info_of}
use Rattle.bank.specs.Bank.{BankLeft, set_up_of, set_target_of, set_immediate_of, step_of, reset_of, value_of}
use Rattle.bank.specs.Words.{half_in, smoother_in, float_out, smoother_out}
use Rattle.bank.specs.declared.param.ParamInfo.{ParamInfo}
use Rattle.bank.specs.declared.smoother.Smoother.{Smoother}
use Rattle.bank.specs.declared.smoother_bank.ParamRefusal.{ParamRefusal}
use Rattle.bank.specs.declared.smoother_bank.SmootherBank.{SmootherBank}
use Rattle.probe.specs.declared.smoothers.Done.{Done}

-- ---- out of the words
-- something of each slot
abbrev pub each_in : {A : Type 0} → (Smoother → A) → List ℕ → List A
each_in f ws =
    f (smoother_in ws 0) ∷ f (smoother_in ws 12) ∷ f (smoother_in ws 24) ∷ f (smoother_in ws 36) ∷ f (smoother_in ws 48) ∷ f (smoother_in ws 60) ∷ f (smoother_in ws 72) ∷ f (smoother_in ws 84) ∷ []

abbrev pub bank_in : List ℕ → SmootherBank
bank_in ws = record { smoothers = each_in (λ s. s) ws; count = get_or ws 96 0; rate = half_in ws 97; ready = not (eqb (get_or ws 98 0) 0) }

-- the declarations that the slots hold
abbrev pub infos_in : List ℕ → List ParamInfo
infos_in ws = each_in info_of ws

-- what the place of the value told holds
abbrev pub old_in : List ℕ → ℕ
old_in ws = get_or ws 100 0

-- ---- into the words
unfoldable pub slots_out : List Smoother → List ℕ
slots_out [] = []
slots_out (s ∷ ss) = smoother_out s ++ slots_out ss

-- what a call leaves: its number, and the words
pub record Held : Type 0 where
  pub number : ℕ
  pub words : List ℕ

abbrev pub held_at : ℕ → List ℕ → Held
held_at number words = record { number = number; words = words }

-- the slots, then count, rate and ready, and what is told
abbrev pub words_by : List ℕ → Done → List ℕ
words_by ws d = sets (sets ws 0 (slots_out d.bank.smoothers)) 96 (d.bank.count ∷ d.bank.rate ∷ cond d.bank.ready 1 0 ∷ d.count ∷ d.value ∷ [])

abbrev pub held_by : List ℕ → Done → Held
held_by ws d = held_at d.number (words_by ws d)

-- ---- the calls
-- a reply's count, 0 where there is none, and its float behind that as bits, or what its place held
abbrev pub count_told : List Value → ℕ
count_told [] = 0
count_told (count n ∷ vs) = n
count_told (float v ∷ vs) = 0

abbrev pub value_told : ℕ → List Value → ℕ
value_told old [] = old
value_told old (count n ∷ []) = old
value_told old (count n ∷ count m ∷ vs) = old
value_told old (count n ∷ float v ∷ vs) = float_out v
value_told old (float v ∷ vs) = float_out v

abbrev pub done_by : ℕ → BankLeft → Done
done_by old o = record { number = o.reply.number; count = count_told o.reply.values; value = value_told old o.reply.values; bank = o.bank }

-- a reading leaves the bank as it is
abbrev pub read_by : Result Float ParamRefusal → SmootherBank → BankLeft
read_by answer b = record { reply = bank_value_reply answer; bank = b }

-- the call by its number: 0 `set_target`, 1 `set_immediate`, 2 `step`, 3 `reset`, else `value`
abbrev pub called_by : ℕ → SmootherBank → ℕ → Float → BankLeft
called_by op b id v =
    cond (eqb op 0) (set_target_of b id v)
    (cond (eqb op 1) (set_immediate_of b id v) (cond (eqb op 2) (step_of b) (cond (eqb op 3) (reset_of b) (record { reply = value_of b id; bank = b }))))

-- ---- over the words
abbrev pub set_up_by : List ℕ → ℕ → ℕ → Held
set_up_by ws n rate = held_by ws (done_by (old_in ws) (set_up_of (infos_in ws) n rate))

abbrev pub call_by : List ℕ → ℕ → ℕ → Float → Held
call_by ws op id v = held_by ws (done_by (old_in ws) (called_by op (bank_in ws) id v))
