-- Document 01's number and values for each case of the answer enums, and what the promises read off a result.
use Rattle.std.specs.Prelude.{ℕ, cond, List, [], ◌∷◌, Result, Ok, Err}
use Rattle.std.specs.Result.{result_unwrap_or}
use Rattle.arithmetic.specs.Reply.{Reply, finished, refused, numbered, count, float}
use Rattle.settings.specs.Memory.{cap_reply}
use Rattle.limiter.specs.State.{not_set_up}
use Rattle.limiter.specs.Prepare
use Rattle.limiter.specs.Stores.{Stores}
use Rattle.bank.specs.Answers.{refusal_reply, param_set_reply}
use Rattle.bank.specs.Bank.{unset}
use Rattle.bank.specs.declared.smoother_bank.ParamRefusal.{ParamRefusal}
use Rattle.turns.specs.Machine.{Machine, machine_of}
use Rattle.turns.specs.Block.{Outcome, placed}
use Rattle.driver.specs.Calls.{Left, left}
use Rattle.driver.specs.declared.state.KernelProcessor.{KernelProcessor}
use Rattle.driver.specs.declared.answers.Processed.{Processed}
use Rattle.driver.specs.declared.answers.Flushed.{Flushed}
use Rattle.driver.specs.declared.answers.GainStepped.{GainStepped}
use Rattle.driver.specs.declared.answers.SetupRefusal.{SetupRefusal}
use Rattle.driver.specs.declared.answers.SetupRefusal.TheVariants.{Bank, OverBudget, Limiter}
use Rattle.driver.specs.declared.answers.Refusal.{Refusal}
use Rattle.driver.specs.declared.answers.Refusal.TheVariants.{NotSetUp, StoreLength, OutOfOrder, Geometry, Event, TooFar}

abbrev pub setup_refused_by : SetupRefusal → Reply
setup_refused_by (Bank why) = refusal_reply why
setup_refused_by (OverBudget over) = cap_reply 7 (Err over)
setup_refused_by (Limiter why) = Prepare.refusal_reply why

abbrev pub setup_reply : Result KernelProcessor SetupRefusal → Reply
setup_reply (Ok p) = finished []
setup_reply (Err why) = setup_refused_by why

-- every refusal of the calls on a limiter; 21 "with its index"
abbrev pub refused_by : Refusal → Reply
refused_by NotSetUp = numbered 18
refused_by StoreLength = numbered 16
refused_by OutOfOrder = numbered 19
refused_by Geometry = numbered 20
refused_by (Event i) = refused 21 (count i ∷ [])
refused_by TooFar = numbered 22

abbrev pub answer_reply : Result (Unit {0}) Refusal → Reply
answer_reply (Ok _) = finished []
answer_reply (Err why) = refused_by why

-- a block's, Change 5's place with it
abbrev pub block_answer_reply : Result Processed Refusal → Reply
block_answer_reply (Ok told) = placed told.frame told.seat
block_answer_reply (Err why) = refused_by why

abbrev pub flushed_reply : Flushed → Reply
flushed_reply told = finished (count told.written ∷ count (cond told.done 1 0) ∷ [])

abbrev pub flush_reply : Result Flushed Refusal → Reply
flush_reply (Ok told) = flushed_reply told
flush_reply (Err why) = refused_by why

abbrev pub stepped_reply : GainStepped → Reply
stepped_reply told = finished (float told.floor ∷ count told.dropped ∷ count told.kept ∷ count told.tally ∷ float told.mean ∷ float told.gain ∷ [])

abbrev pub gain_reply_of : Result GainStepped Refusal → Reply
gain_reply_of (Ok told) = stepped_reply told
gain_reply_of (Err why) = refused_by why

-- ---- what the functions answer
-- the machine, read off the state and the stores
abbrev pub machine_at : KernelProcessor → Stores → Machine
machine_at p s = machine_of p.limiter p.bank s

-- a refused setup hands out no limiter: what then stands in its place is not set up
abbrev pub set_up_at : Result KernelProcessor SetupRefusal → Stores → Left
set_up_at r s = left (setup_reply r) (machine_at (result_unwrap_or r (record { limiter = not_set_up; bank = unset })) s)

-- of what a call returns, and the limiter afterwards
abbrev pub param_called_at : Result (Unit {0}) ParamRefusal → KernelProcessor → Stores → Left
param_called_at r p s = left (param_set_reply r) (machine_at p s)

abbrev pub called_at : Result (Unit {0}) Refusal → KernelProcessor → Stores → Left
called_at r p s = left (answer_reply r) (machine_at p s)

abbrev pub gain_stepped_at : Result GainStepped Refusal → KernelProcessor → Stores → Left
gain_stepped_at r p s = left (gain_reply_of r) (machine_at p s)

-- ---- what a caller sees of a block or a drain
pub record Seen : Type 0 where
  pub reply : Reply
  pub machine : Machine
  pub bytes : List ℕ

-- the frames' inner values are not given out
abbrev pub seen : Outcome → Seen
seen o = record { reply = o.reply; machine = o.machine; bytes = o.bytes }

abbrev pub processed_at : Result Processed Refusal → KernelProcessor → Stores → List ℕ → Seen
processed_at r p stores bytes = record { reply = block_answer_reply r; machine = machine_at p stores; bytes = bytes }

abbrev pub flushed_at : Result Flushed Refusal → KernelProcessor → Stores → List ℕ → Seen
flushed_at r p stores bytes = record { reply = flush_reply r; machine = machine_at p stores; bytes = bytes }
