-- What the branches of the bank's calls come to, on plain values.
use mathlib.Core.Path.{◌≡◌, refl}
use mathlib.Core.Bool.{true}
use mathlib.Core.List.{List, []}
use Prim.Native.Nat.{ℕ, ◌<◌}
use native.Mathlib.Omega.{arith}
use lib.Ieee.{Float}
use lib.Ieee.Scale.{finite}
use borrow.Author.Tests.{lt-leb, ne_eqb}
use Rattle.arithmetic.specs.Reply.{Reply, finished}
use Rattle.std.proofs.Common.{Result, Ok, Err}
use Rattle.bank.specs.Answers.{refusal_reply, param_set_reply}
use Rattle.bank.specs.Bank.{settled, unset, declared_reply, set_up_of, prepared, one_changed, call_reply, call_of}
use Rattle.bank.specs.declared.param.ParamInfo.{ParamInfo}
use Rattle.bank.specs.declared.param.BankRefusal.{BankRefusal}
use Rattle.bank.specs.declared.smoother.Smoother.{Smoother}
use Rattle.bank.specs.declared.smoother_bank.SmootherBank.{SmootherBank}
use Rattle.bank.specs.declared.smoother_bank.ParamRefusal.{ParamRefusal}
use Rattle.bank.specs.declared.smoother_bank.ParamRefusal.TheVariants.{NotSetUp, NonFiniteValue, UnknownParam}
use Rattle.bank.proofs.Slots.{above_zero}

-- ---- outcomes
kept : (r : Reply) (new old : SmootherBank) → (r.number ≡ 0 → ⊥) → record { reply = r; bank = old } ≡ settled r new old
kept r new old h = rw (ne_eqb r.number 0 h) refl

-- ---- parameter calls
-- a case other than the first is no finished reply
pub other_case : (a : Result Unit ParamRefusal) → ((done : Unit) → a ≡ Ok done → ⊥) → (param_set_reply a).number ≡ 0 → ⊥
other_case (Ok done) o z = o done refl
other_case (Err NotSetUp) o z = omega arith
other_case (Err (NonFiniteValue id v)) o z = omega arith
other_case (Err UnknownParam) o z = omega arith

pub call_finished : (b : SmootherBank) (id : ℕ) (v : Float) → prepared b ≡ true → finite v ≡ true → id < b.count → finished [] ≡ call_reply b id v
unfolding call_reply
call_finished b id v h f k = simp (h, f, lt-leb b.count id k)

-- a parameter call that is refused leaves the bank as it was
pub call_refused : (b : SmootherBank) (id : ℕ) (v : Float) (f : Smoother → Smoother) (a : Result Unit ParamRefusal) → param_set_reply a ≡ call_reply b id v
    → ((done : Unit) → a ≡ Ok done → ⊥) → record { reply = param_set_reply a; bank = b } ≡ call_of f b id v
unfolding call_of
call_refused b id v f a e o = rw (← e) (kept (param_set_reply a) (one_changed f id b) b (other_case a o))

-- ---- setup
pub set_up_refused : (ps : List ParamInfo) (n rate : ℕ) (why : BankRefusal) → refusal_reply why ≡ declared_reply ps n → record { reply = refusal_reply why; bank = unset } ≡ set_up_of ps n rate
unfolding set_up_of
set_up_refused ps n rate why e = rw (← e) (kept (refusal_reply why) _ unset (above_zero why))
