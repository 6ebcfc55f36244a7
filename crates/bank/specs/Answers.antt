-- Document 01's number and values for each answer of this crate.
use Rattle.std.specs.Prelude.{ℕ, [], ◌∷◌, Float, Result, Ok, Err}
use Rattle.arithmetic.specs.Reply.{Reply, finished, refused, count, float}
use Rattle.bank.specs.declared.param.BankRefusal.{BankRefusal}
use Rattle.bank.specs.declared.param.BankRefusal.TheVariants.{TooMany, Id, Range, DefaultNotFinite, DefaultOutside, SmoothingTime}
use Rattle.bank.specs.declared.smoother_bank.NotSetUp.{NotSetUp}
use Rattle.bank.specs.declared.smoother_bank.ParamRefusal.{ParamRefusal}
use Rattle.bank.specs.declared.smoother_bank.ParamRefusal.TheVariants

abbrev pub refusal_reply : BankRefusal → Reply
refusal_reply TooMany = refused 1 []
refusal_reply (Id i) = refused 2 (count i ∷ [])
refusal_reply (Range i) = refused 3 (count i ∷ [])
refusal_reply (DefaultNotFinite i) = refused 4 (count i ∷ [])
refusal_reply (DefaultOutside i) = refused 5 (count i ∷ [])
refusal_reply (SmoothingTime i) = refused 6 (count i ∷ [])

-- the index that a refused setup names; 0 where it names none
abbrev pub index_of : BankRefusal → ℕ
index_of TooMany = 0
index_of (Id i) = i
index_of (Range i) = i
index_of (DefaultNotFinite i) = i
index_of (DefaultOutside i) = i
index_of (SmoothingTime i) = i

-- of a setup that leaves a value, and of a judgement that leaves none
abbrev pub set_up_reply : {A : Type 0} → Result A BankRefusal → Reply
set_up_reply (Ok done) = finished []
set_up_reply (Err why) = refusal_reply why

abbrev pub param_refusal_reply : ParamRefusal → Reply
param_refusal_reply TheVariants.NotSetUp = refused 18 []
param_refusal_reply (TheVariants.NonFiniteValue id v) = refused 23 (count id ∷ float v ∷ [])
param_refusal_reply TheVariants.UnknownParam = refused 24 []

abbrev pub param_set_reply : Result Unit ParamRefusal → Reply
param_set_reply (Ok done) = finished []
param_set_reply (Err why) = param_refusal_reply why

abbrev pub bank_step_reply : Result Unit NotSetUp → Reply
bank_step_reply (Ok done) = finished []
bank_step_reply (Err why) = refused 18 []

abbrev pub bank_value_reply : Result Float ParamRefusal → Reply
bank_value_reply (Ok v) = finished (float v ∷ [])
bank_value_reply (Err why) = param_refusal_reply why
