-- What a judgement answers, a refusal or none: the laws of any reply (`Refusing`, `Called`), for the reply of such an answer.
use mathlib.Core.Path.{◌≡◌, refl, sym, ap, ◌∙◌}
use mathlib.Core.Bool.{Bool, true, false, ◌&&◌}
use mathlib.Core.List.{List, []}
use Prim.Native.Nat.{ℕ, ◌-◌, ◌*◌, ◌≤◌}
use lib.Dec.{leb}
use Rattle.std.specs.Result.{IsErrAnd}
use Rattle.std.proofs.Common.{Result, Ok, Err}
use Rattle.arithmetic.specs.Reply.{Reply, finished, numbered, and_then, must}
use Rattle.audio.specs.Format.{size_of}
use Rattle.audio.specs.declared.format.Format.{Format}
use Rattle.keeper.specs.InOrder.{most_frames}
use Rattle.limiter.specs.Order
use Rattle.limiter.specs.Reset
use Rattle.bank.specs.Bank.{all_changed}
use Rattle.bank.specs.Smoother.{reset_one}
use Rattle.bank.specs.declared.smoother_bank.SmootherBank.{SmootherBank}
use Rattle.turns.specs.Machine.{Machine, machine_of, prepared, reset_refusal}
use Rattle.turns.specs.Events.{Event, events_reply}
use Rattle.turns.specs.Block.{farthest, call_reply, block_reply, rendered_in, block_done, block_of}
use Rattle.turns.specs.Inner.{BlockAsked}
use Rattle.driver.specs.Answers.{refused_by, answer_reply, seen}
use Rattle.driver.specs.Calls.{left, reset_of}
use Rattle.driver.specs.declared.answers.Refusal.{Refusal}
use Rattle.driver.proofs.Called
use Rattle.driver.proofs.Refusing
use Rattle.driver.proofs.Refusing.{refused_some}

-- what a `?` hands on is the refusal that it met
pub handed_on : {T E : Type 0} (r : Result T E) (e : E) → IsErrAnd r (λ y. y ≡ e) → r ≡ Err e
handed_on (Ok x) e h = absurd h
handed_on (Err y) e h = ap Err h

-- the reply of an answer, in either case
module _ (r : Result (Unit {0}) Refusal) (reply : Reply) (R : answer_reply r ≡ reply) where
  pub refusal_is : (why : Refusal) → r ≡ Err why → refused_by why ≡ reply
  refusal_is why E = ap answer_reply (sym E) ∙ R

  pub none_is : (u : Unit {0}) → r ≡ Ok u → finished [] ≡ reply
  none_is u F = ap answer_reply (sym F) ∙ R

-- ---- replies in turn
module _ (r : Result (Unit {0}) Refusal) (first next : Reply) (R : answer_reply r ≡ first) where
  pub first_refused : (why : Refusal) → r ≡ Err why → refused_by why ≡ and_then first next
  first_refused why E = Refusing.first_refused (refused_by why) first next (refusal_is r first R why E) false (sym (refused_some why)) refl

  module _ (u : Unit {0}) (F : r ≡ Ok u) where
    pub first_passed : (s : Reply) → s ≡ next → s ≡ and_then first next
    first_passed = Refusing.first_passed (finished []) first next (none_is r first R u F) true refl refl

    pub first_finished : first.number ≡ 0
    first_finished = Refusing.first_finished (finished []) first next (none_is r first R u F) true refl refl

-- ---- 22 of a block, where 20 and 21 do not arise
module _ (m : Machine) (position frames : ℕ) (events : List Event) (size : ℕ) (h : frames ≤ m.limiter.max_block) (e : size ≡ m.limiter.channels * frames)
    (r : Result (Unit {0}) Refusal) (R : answer_reply r ≡ events_reply frames 0 0 events) (u : Unit {0}) (F : r ≡ Ok u)
  where
    pub far_judged : Order.prepared m.limiter ≡ true → (t : Bool) → leb position (farthest - frames) && leb m.limiter.env.keeper.frame (most_frames - frames) ≡ t
        → must t 22 ≡ call_reply m position frames events size
    far_judged p = Refusing.far_judged m position frames events size h e (finished []) (none_is r (events_reply frames 0 0 events) R u F) true refl p refl

-- ---- what a block leaves
module _ (format : Format) (m : Machine) (position frames : ℕ) (events : List Event) (bytes : List ℕ) (size : ℕ) (S : size ≡ size_of format bytes) (r : Result (Unit {0}) Refusal) (R : answer_reply r ≡ block_reply m position frames events size) where
  abbrev reply : Reply
  reply = block_reply m position frames events size

  pub block_left : (why : Refusal) → r ≡ Err why → record { reply = refused_by why; machine = m; bytes = bytes } ≡ seen (block_of format m position frames events bytes)
  block_left why E = Refusing.block_left format m position frames events bytes size S (refused_by why) (refusal_is r reply R why E) false (sym (refused_some why)) refl

  -- where nothing is refused
  pub block_asks : (u : Unit {0}) → r ≡ Ok u → BlockAsked m format position frames bytes
  block_asks u F = Refusing.block_asks format m position frames events bytes size S (finished []) (none_is r reply R u F) true refl refl

  pub block_finished : (told : Reply) (m' : Machine) (bytes' : List ℕ) (u : Unit {0}) → r ≡ Ok u → (let o = block_done (rendered_in format m) format m position frames events bytes in told ≡ o.reply → m' ≡ o.machine → bytes' ≡ o.bytes
      → record { reply = told; machine = m'; bytes = bytes' } ≡ seen (block_of format m position frames events bytes))
  block_finished told m' bytes' u F = Refusing.block_finished format m position frames events bytes size S (finished []) (none_is r reply R u F) true refl told m' bytes' refl

-- ---- reset
module _ (m : Machine) (r : Result (Unit {0}) Refusal) (R : answer_reply r ≡ numbered (reset_refusal m)) where
  pub reset_refused : (why : Refusal) → r ≡ Err why → left (refused_by why) m ≡ reset_of m
  reset_refused why E = Called.reset_refused m (refused_by why) (refusal_is r (numbered (reset_refusal m)) R why E) false (sym (refused_some why)) refl

  module _ (u : Unit {0}) (F : r ≡ Ok u) where
    pub reset_prepared_lem : prepared m.limiter m.bank ≡ true
    reset_prepared_lem = Called.reset_prepared_lem m (finished []) (none_is r (numbered (reset_refusal m)) R u F) true refl refl

    pub reset_done_lem : (o : Reset.Reset) → o ≡ Reset.reset_of m.limiter m.stores → (bank : SmootherBank) → bank ≡ all_changed reset_one m.bank → left (finished []) (machine_of o.limiter bank o.stores) ≡ reset_of m
    reset_done_lem = Called.reset_done_lem m (finished []) (none_is r (numbered (reset_refusal m)) R u F) true refl refl
