-- The claim over the C functions is false of each of the four hosts of specs/HostControls.antt, and of a setup that finishes it says something: there is one.
use mathlib.Core.Bool.{false}
use mathlib.Core.Path.{◌≡◌, refl, ap}
use mathlib.Core.List.{List, []}
use Prim.Native.Nat.{ℕ}
use lib.ListN.{get_or, replicate}
use lib.Ieee.{Float, nan, lt, le, of_bits, to_bits}
use borrow.Author.Tests.{eqb-false}
use Rattle.std.proofs.Common.{Some, None}
use Rattle.arithmetic.specs.Number
use Rattle.arithmetic.specs.Reply.{Reply}
use Rattle.audio.specs.Bytes.{bytes_of, joined}
use Rattle.audio.specs.declared.format.Format.TheVariants.{F64}
use Rattle.settings.specs.Settings.{settings_of, all_count, process_spec, defaults}
use Rattle.settings.specs.declared.LimiterSettings.{LimiterSettings}
use Rattle.settings.specs.declared.ProcessSpec.{ProcessSpec}
use Rattle.limiter.specs.Stores.{Stores, stores_at}
use Rattle.limiter.specs.Order
use Rattle.bank.specs.Param.{fault_of}
use Rattle.bank.specs.Bank.{first_fault, declared_reply, set_up_of}
use Rattle.turns.specs.Machine.{prepared, ready_refusal}
use Rattle.turns.specs.Drain.{drain_reply, drain_by}
use Rattle.driver.specs.Calls.{setup_of, gain_reply, gain_step}
use Rattle.state_bytes.specs.State.{is_state, words_out, processor_in, state_out}
use Rattle.host.specs.Host.{setup_by}
use Rattle.claims.specs.Session.{limiting}
use Rattle.claims.specs.Rows.{stereo, lent72}
use Rattle.claims.proofs.Rows.{starred}
use Rattle.host_claims.specs.HostSession.{flush, hosting}
use Rattle.host_claims.specs.HostClaim.{HostClaim}
use Rattle.host_claims.specs.HostControls.{setup_untold, state_forgotten, bytes_unjudged, gain_untold}

-- ---- a setup that is refused: a threshold that is not a number, so 4
abbrev settings : LimiterSettings
settings = settings_of nan Number.zero Number.zero Number.zero all_count

abbrev spec : ProcessSpec
spec = process_spec 48000 1 64 None false

abbrev stores : Stores
stores = stores_at [] [] [] [] [] []

-- 1: 4 is due
pub no_setup_untold : HostClaim limiting gain_step setup_untold → ⊥
unfolding setup_of set_up_of declared_reply first_fault fault_of lt le of_bits
no_setup_untold claim = eqb-false 99 4 refl (claim.setup settings spec [] [] stores).number

-- 2: in 512 bytes of 0 a state should stand, whose first byte is not 0
pub no_state_forgotten : HostClaim limiting gain_step state_forgotten → ⊥
unfolding setup_of set_up_of declared_reply first_fault fault_of lt le of_bits to_bits state_out words_out joined bytes_of
no_state_forgotten claim = eqb-false 0 68 refl (ap (λ (bytes : List ℕ). get_or bytes 0 0) (claim.setup settings spec [] (replicate 512 0) stores).written)

-- 3: no bytes are no state: 18
pub no_bytes_unjudged : HostClaim limiting gain_step bytes_unjudged → ⊥
unfolding processor_in is_state drain_by drain_reply ready_refusal prepared Order.prepared
no_bytes_unjudged claim = eqb-false 0 18 refl (claim.call (flush F64 0 []) [] [] stores).replied

-- 4: the same
pub no_gain_untold : HostClaim limiting gain_step gain_untold → ⊥
unfolding processor_in is_state gain_step gain_reply prepared Order.prepared
no_gain_untold claim = eqb-false 77 18 refl (claim.gain 0 [] [] stores).number

-- ---- and one that finishes: the starred row of cap 4,336, through bytes
pub host_starts : (x : Float) (mark : ℕ) → (hosting.setups defaults (stereo (Some 4336)) [] (replicate 512 0) (lent72 x mark)).number ≡ 0
unfolding setup_by
host_starts x mark = ap (λ (r : Reply). r.number) (starred.cap_passes x mark)
