-- The other calls: setup, parameter call, reset, the lone gain step, reading a value.
use Rattle.std.specs.Prelude.{ℕ, ◌+◌, Bool, cond, not, ◌&&◌, [], ◌∷◌, eqb, leb, length, replicate, Float, Option}
use Rattle.std.specs.Float.Ieee.Scale.{finite}
use Rattle.arithmetic.specs.Reply.{Reply, finished, refused, numbered, count, float, unless, and_then, must}
use Rattle.envelope.specs.Step.{GainStepped, gain_step_of, enveloped_at}
use Rattle.settings.specs.Derived.{row_of}
use Rattle.settings.specs.Memory.{cap_judged, cap_reply, left_of}
use Rattle.settings.specs.declared.LimiterSettings.{LimiterSettings}
use Rattle.settings.specs.declared.ProcessSpec.{ProcessSpec}
use Rattle.limiter.specs.State.{not_set_up}
use Rattle.limiter.specs.Stores.{Stores, stores_at}
use Rattle.limiter.specs.Prepare.{prepare_of}
use Rattle.limiter.specs.Reset
use Rattle.limiter.specs.Run.{moved_on, envelope_of}
use Rattle.limiter.specs.declared.state.Limiter.{Limiter}
use Rattle.bank.specs.Smoother.{immediate_set, reset_one}
use Rattle.bank.specs.Bank.{unset, set_up_of, one_changed, all_changed, value_of}
use Rattle.bank.specs.declared.smoother_bank.SmootherBank.{SmootherBank}
use Rattle.turns.specs.Machine.{Machine, machine_of, threshold_param, prepared, is_in_order, reset_refusal}
use Rattle.turns.specs.Block.{has_room}

-- what a call without audio leaves
pub record Left : Type 0 where
  pub reply : Reply
  pub machine : Machine

abbrev pub left : Reply → Machine → Left
left reply m = record { reply = reply; machine = m }

-- the machine changes where the work is finished, and nowhere else
abbrev pub settled : Reply → Machine → Machine → Left
settled reply new old = left reply (cond (eqb reply.number 0) new old)

-- ---- setup
-- the bank's bytes: 80 a parameter
abbrev pub bank_bytes : ℕ
bank_bytes = 80

-- 7: the bank over the cap, with needed and cap
abbrev pub budget_reply : Option ℕ → Reply
budget_reply cap = cap_reply 7 (cap_judged bank_bytes cap)

-- "The bank's bytes are taken first; the limiter's cap is the rest"
abbrev pub with_rest : ProcessSpec → ProcessSpec
with_rest spec = record { rate = spec.rate; channels = spec.channels; max_block = spec.max_block; cap = left_of bank_bytes spec.cap; house = spec.house }

-- the bank of one parameter (of eight declarations it takes the first), then 7, then the limiter's own setup; a refused setup leaves the limiter not set up
unfoldable pub setup_of : LimiterSettings → ProcessSpec → Stores → Left
setup_of s spec stores =
    let b = set_up_of (replicate 8 (threshold_param s)) 1 spec.rate in
    let l = prepare_of s (with_rest spec) stores in
    let reply = and_then b.reply (and_then (budget_reply spec.cap) l.reply) in
    settled reply (machine_of l.limiter b.bank l.stores) (machine_of not_set_up unset stores)

-- ---- parameter call
-- 18; 23 with the parameter's id and the offending value; 24
unfoldable pub parameter_reply : Machine → ℕ → Float → Reply
parameter_reply m id v =
    and_then (must (prepared m.limiter m.bank) 18)
    (and_then (cond (finite v) (finished []) (refused 23 (count id ∷ float v ∷ []))) (must (not (leb m.bank.count id)) 24))

unfoldable pub parameter_of : Machine → ℕ → Float → Left
parameter_of m id v = settled (parameter_reply m id v) (machine_of m.limiter (one_changed (immediate_set v) id m.bank) m.stores) m

-- ---- reset
-- "Reset restores starting values, the bank's too, and leaves marks and minima unread and unchanged"
abbrev pub reset_done : Machine → Machine
reset_done m =
    let r = Reset.reset_of m.limiter m.stores in
    machine_of r.limiter (all_changed reset_one m.bank) r.stores

unfoldable pub reset_of : Machine → Left
reset_of m = settled (numbered (reset_refusal m)) (reset_done m) m

-- ---- the lone gain step: marks, minima, weights and row are lent

-- 16 of the four
abbrev pub gain_fits : Limiter → Stores → Bool
gain_fits l s =
    let look = l.env.keeper.look in
    eqb (length s.marks) (look + 1) && eqb (length s.minima) (look + 1) && eqb (length s.weights) (row_of look) && eqb (length s.row) (row_of look)

-- 18, 16, 19, 22
unfoldable pub gain_reply : Machine → ℕ
gain_reply m = unless (prepared m.limiter m.bank) 18 (unless (gain_fits m.limiter m.stores) 16 (unless (is_in_order m) 19 (unless (has_room m 1) 22 0)))

abbrev pub gain_of : Machine → Float → GainStepped
gain_of m x =
    let l = m.limiter in
    gain_step_of m.stores.weights l.release_coeff (enveloped_at l.env m.stores.marks m.stores.minima m.stores.row) x

-- floor, drops, entries kept, tally, mean, gain
abbrev pub gain_told : GainStepped → Reply
gain_told g =
    finished (float g.floor ∷ count g.dropped ∷ count g.env.keeping.keeper.len ∷ count g.env.rowed.state.tally ∷ float g.mean ∷ float g.env.gain ∷ [])

abbrev pub gain_done : Machine → GainStepped → Left
gain_done m g =
    let l = m.limiter in
    let s = m.stores in
    left (gain_told g)
    (machine_of (moved_on l (envelope_of g.env) l.delay_pos l.target l.drained) m.bank
    (stores_at s.delay g.env.keeping.marks g.env.keeping.minima s.weights g.env.rowed.row s.detector))

unfoldable pub gain_step : Machine → Float → Left
gain_step m x = cond (eqb (gain_reply m) 0) (gain_done m (gain_of m x)) (left (numbered (gain_reply m)) m)

-- ---- reading a value: the bank's own, 18 over the bank, then 24
abbrev pub read_of : SmootherBank → ℕ → Reply
read_of b id = value_of b id
