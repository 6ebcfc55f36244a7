-- THE CLAIM, proved: demand 3 holds of the definitions of `turns` and `driver`.
use mathlib.Core.Path.{◌≡◌, sym, ap, ◌∙◌, refl}
use mathlib.Core.Bool.{Bool, true, false}
use mathlib.Core.List.{List, [], ◌∷◌}
use Prim.Native.Nat.{ℕ}
use lib.ListN.{length}
use borrow.Author.Tests.{ne_eqb}
use Rattle.arithmetic.specs.Reply.{Reply, numbered, unless}
use Rattle.turns.specs.Machine.{Machine, prepared, ready_refusal, reset_refusal}
use Rattle.turns.specs.Block.{refused_as, block_reply, block_by}
use Rattle.turns.specs.Drain.{drain_reply, drain_by}
use Rattle.driver.specs.Calls.{parameter_reply, parameter_of, reset_of}
use Rattle.claims.specs.Session.{Call, block, drain, parameter, reset, bytes_in, limiting, called}
use Rattle.claims.specs.Book.{Book}
use Rattle.claims.specs.BookCalls.{enter}
use Rattle.claims.specs.Claim.{drops_after, Holds, judged_first, Claim}
use Rattle.claims.proofs.Calls.{Tied, CountedIn, none_counted, Done, parameter_done}
use Rattle.claims.proofs.Drains.{drain_done_lem}
use Rattle.claims.proofs.Blocks.{block_done_lem}
use Rattle.claims.proofs.Starts.{reset_answers, reset_keeps, reset_cleared, reset_threshold, reset_opened, reset_done_lem}
use Rattle.claims.proofs.Setups.{setup_filled, setup_left_alone, setup_tied}
use Rattle.claims.proofs.Table.{setup_by_table}
use Rattle.claims.proofs.Refused.{refused_then_18}

-- one call
pub call_done : (drops : ℕ) (b : Book) (m : Machine) → Tied b m → CountedIn drops b m → (call : Call) → Done drops b m call (called limiting m call) (enter b call)
call_done drops b m t n (block format position frames events bytes) = block_done_lem drops b m t n format position frames events bytes
call_done drops b m t n (drain format frames bytes) = drain_done_lem drops b m t n format frames bytes
call_done drops b m t n (parameter id v) = parameter_done drops b m t n id v
call_done drops b m t n reset = reset_done_lem drops b m t n

-- and every list of them
pub calls_hold : (calls : List Call) (drops : ℕ) (b : Book) (m : Machine) → Tied b m → CountedIn drops b m → Holds limiting drops b m calls
calls_hold [] drops b m t n = tt
calls_hold (call ∷ calls) drops b m t n =
    let o = called limiting m call in
    let d = call_done drops b m t n call in
    (d.holds, calls_hold calls (drops_after drops call o) (enter b call).book o.machine d.tied d.counted)

-- from a start, where no frame was taken and none dropped
pub opened_holds : (calls : List Call) (b : Book) (m : Machine) → length b.frames ≡ 0 → Tied b m → Holds limiting 0 b m calls
opened_holds calls b m none t = calls_hold calls 0 b m t (none_counted b m t none)

-- what is judged first is replied first
first_judged : (m : Machine) (call : Call) → (judged_first m call ≡ 0 → ⊥) → called limiting m call ≡ refused_as (numbered (judged_first m call)) m (bytes_in call)
unfolding block_by block_reply drain_by drain_reply parameter_of parameter_reply reset_of
first_judged m (block format position frames events bytes) some = rw (ne_eqb (ready_refusal m) 0 some, ne_eqb (ready_refusal m) 0 some) refl
first_judged m (drain format frames bytes) some = rw (ne_eqb (ready_refusal m) 0 some, ne_eqb (ready_refusal m) 0 some) refl
first_judged m (parameter id v) some = go (prepared m.limiter m.bank) refl
  where
    go : (b : Bool) → prepared m.limiter m.bank ≡ b → called limiting m (parameter id v) ≡ refused_as (numbered (unless b 18 0)) m []
    go true e = absurd (some (rw e refl))
    go false e = rw e refl
first_judged m reset some = rw (ne_eqb (reset_refusal m) 0 some) refl

pub claim : Claim limiting
claim = record {
  after_setup = λ s spec stores z calls. opened_holds calls _ _ refl (setup_tied s spec stores z);
  setup_answered = setup_by_table;
  setup_fills = setup_filled;
  setup_refused = setup_left_alone;
  refused_after = refused_then_18;
  reset_answered = reset_answers;
  reset_refused = reset_keeps;
  reset_stores = reset_cleared;
  reset_bank = reset_threshold;
  after_reset = λ m z calls. opened_holds calls _ _ refl (reset_opened m (sym (ap (λ (r : Reply). r.number) (reset_answers m)) ∙ z));
  judged = first_judged;
}
