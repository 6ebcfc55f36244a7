-- A setup whose state's buffer has another length: the refusals before 16 as they are, 29 among them, then 16; nothing is written but the answer.
use mathlib.Core.Path.{◌≡◌, refl}
use mathlib.Core.Bool.{Bool, true, false, cond, not, ◌&&◌, ◌||◌}
use mathlib.Core.List.{List, []}
use Prim.Native.Nat.{ℕ}
use native.Mathlib.Omega.{arith}
use lib.Dec.{eqb}
use lib.ListN.{length, replicate}
use borrow.Author.Tests.{ne_eqb}
use Rattle.arithmetic.specs.Reply.{Reply, numbered, unless, and_then}
use Rattle.settings.specs.Accepted.{refusal_of}
use Rattle.settings.specs.Derived.{look_of, row_of}
use Rattle.settings.specs.Memory.{needed, cap_judged, cap_reply}
use Rattle.settings.specs.House.{house_fits}
use Rattle.settings.specs.declared.LimiterSettings.{LimiterSettings}
use Rattle.settings.specs.declared.ProcessSpec.{ProcessSpec}
use Rattle.limiter.specs.State.{not_set_up}
use Rattle.limiter.specs.Stores.{Stores, lengths_of, with_weights}
use Rattle.limiter.specs.Prepare.{stores_refusal, limiter_left, prepare_of}
use Rattle.bank.specs.Bank.{unset, set_up_of}
use Rattle.turns.specs.Machine.{machine_of, threshold_param}
use Rattle.driver.specs.Calls.{left, with_rest, budget_reply, setup_of}
use Rattle.state_bytes.specs.State.{state_bytes}
use Rattle.host.specs.Answer.{answered_by}
use Rattle.host.specs.Host.{returned_at, setup_by}

-- no look has a row of no weights
no_row : (look : ℕ) → eqb 0 (row_of look) ≡ false
no_row look = ne_eqb 0 (row_of look) (λ (e : 0 ≡ row_of look). absurd (omega (arith, e)))

inside : (a b c : Bool) → (a && false && b && c) ≡ false
inside true b c = refl
inside false b c = refl

not_finished : (r next : Reply) → eqb next.number 0 ≡ false → eqb (and_then r next).number 0 ≡ false
not_finished r next h = go (eqb r.number 0) refl
  where
    go : (b : Bool) → eqb r.number 0 ≡ b → eqb (cond b next r).number 0 ≡ false
    go true e = h
    go false e = e

module _ (s : LimiterSettings) (spec : ProcessSpec) (stores : Stores) where
  abbrev none : Stores
  none = with_weights [] stores

  abbrev look : ℕ
  look = look_of s.lookahead_ms spec.rate

  -- 29, else 16
  abbrev houseless : ℕ
  houseless = unless (not spec.house || house_fits spec.rate look) 29 16

  no_weights : stores_refusal spec look (lengths_of none) [] ≡ houseless
  no_weights = rw (no_row look, inside _ _ _) refl

  houseless_not : eqb houseless 0 ≡ false
  houseless_not = go (not spec.house || house_fits spec.rate look)
    where
      go : (b : Bool) → eqb (unless b 29 16) 0 ≡ false
      go true = refl
      go false = refl

  abbrev capped : Reply
  capped = cap_reply 15 (cap_judged (needed spec.channels look) (with_rest spec).cap)

  -- 8 to 15, 29, then 16
  abbrev pub kernel_reply : Reply
  kernel_reply = and_then (numbered (refusal_of s (with_rest spec))) (and_then capped (numbered houseless))

  kernel_not : eqb kernel_reply.number 0 ≡ false
  kernel_not = not_finished (numbered (refusal_of s (with_rest spec))) (and_then capped (numbered houseless)) (not_finished capped (numbered houseless) houseless_not)

  kernel_none : prepare_of s (with_rest spec) none ≡ limiter_left kernel_reply not_set_up none
  unfolding prepare_of
  kernel_none = rw (no_weights, kernel_not) refl

  -- 1 to 15, 29, then 16
  abbrev pub buffer_reply : Reply
  buffer_reply = and_then (set_up_of (replicate 8 (threshold_param s)) 1 spec.rate).reply (and_then (budget_reply spec.cap) kernel_reply)

  -- which is never 0
  pub buffer_refused : eqb buffer_reply.number 0 ≡ false
  buffer_refused =
      let b = (set_up_of (replicate 8 (threshold_param s)) 1 spec.rate).reply in
      not_finished b (and_then (budget_reply spec.cap) kernel_reply) (not_finished (budget_reply spec.cap) kernel_reply kernel_not)

  pub setup_none : setup_of s spec none ≡ left buffer_reply (machine_of not_set_up unset none)
  unfolding setup_of
  setup_none = rw (kernel_none, buffer_refused) refl

  pub wrong_buffer : (answer state : List ℕ) → eqb (length state) state_bytes ≡ false
      → setup_by s spec answer state stores ≡ returned_at buffer_reply.number (answered_by answer buffer_reply) state stores
  unfolding setup_by
  wrong_buffer answer state h = rw (h, setup_none) refl
