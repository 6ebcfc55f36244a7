-- A call of the driver through bytes, whatever the call is.
use mathlib.Core.Path.{◌≡◌, refl, sym, ap, ◌∙◌}
use mathlib.Core.Bool.{Bool, true, false, cond}
use mathlib.Core.List.{List, [], ◌∷◌, ◌++◌, append-nil}
use Prim.Native.Nat.{ℕ}
use native.Mathlib.Omega.{arith}
use lib.Dec.{eqb}
use lib.ListN.{length, take, drop}
use lib.Seq.{take_all, drop-length}
use lib.Ieee.{Float}
use Rattle.std.specs.Result.{MatchResult}
use Rattle.std.proofs.Common.{Result, Ok, Err}
use Rattle.arithmetic.specs.Number.{bits}
use Rattle.arithmetic.specs.Reply.{Reply, refused, count}
use Rattle.settings.specs.declared.LimiterSettings.{LimiterSettings}
use Rattle.settings.specs.declared.ProcessSpec.{ProcessSpec}
use Rattle.limiter.specs.Stores.{Stores, with_weights}
use Rattle.turns.specs.Machine.{Machine, prepared}
use Rattle.turns.specs.Block.{Outcome}
use Rattle.driver.specs.Calls.{Left, left, parameter_of, read_of, setup_of}
use Rattle.driver.specs.Answers.{machine_at, Seen, seen}
use Rattle.driver.specs.declared.state.KernelProcessor.{KernelProcessor}
use Rattle.state_bytes.specs.State.{state_bytes, processor_of, processor_in, state_out}
use Rattle.state_bytes.proofs.Finished.{parameter_set_up, set_up_long}
use Rattle.host.specs.Answer.{reply_words, words_of, answered, answered_by}
use Rattle.host.specs.Host.{Returned, returned_at, returned, called_by, returned_with, audio_by, given_back, parameter_by, read_at, value_by, left_in, setup_by}
use Rattle.host.specs.declared.answer.ReplyWords.{ReplyWords}
use Rattle.host.proofs.Buffers.{setup_none}

-- what a call returns, in words
pub told : {T E : Type 0} (reply : Result T E → Reply) (r : Result T E) (t : ReplyWords) → MatchResult r (λ x. t ≡ reply_words (reply (Ok x))) (λ why. t ≡ reply_words (reply (Err why))) → t ≡ reply_words (reply r)
told reply (Ok x) t h = h
told reply (Err why) t h = h

module _ (answer state : List ℕ) (q : KernelProcessor) (e : q ≡ processor_in state) where
  -- a finished reply means set up, and that a state of 512 bytes
  pub finished_long : (reply final : Reply) (t : ReplyWords) → (final.number ≡ 0 → prepared q.limiter q.bank ≡ true) → reply ≡ final → t ≡ reply_words reply → t.number ≡ 0
      → length state ≡ state_bytes
  finished_long reply final t was o u z =
      set_up_long state
      (sym (ap (λ (p : KernelProcessor). prepared p.limiter p.bank) e) ∙ was (sym (ap (λ (r : Reply). r.number) o) ∙ sym (ap (λ (x : ReplyWords). x.number) u) ∙ z))

  -- what is left of a call whose words are written, and its state where it is finished
  module _ (reply : Reply) (p : KernelProcessor) (later : Stores) (t : ReplyWords) (r : ℕ) (after next : List ℕ) (u : t ≡ reply_words reply) (v : r ≡ t.number) (w : after ≡ answered answer (words_of t)) (x : next ≡ cond (eqb t.number 0) (state_out p) state) where
    left_is : returned_at r after next later ≡ returned answer state reply (machine_at p later)
    left_is = rw (v, w, x, u) refl

    pub called : (call : Machine → Left) (stores : Stores) → left reply (machine_at p later) ≡ call (machine_at q stores) → returned_at r after next later ≡ called_by call answer state stores
    unfolding called_by
    called call stores o = left_is ∙ ap (λ (l : Left). returned answer state l.reply l.machine) (o ∙ ap (λ (k : KernelProcessor). call (machine_at k stores)) e)

    -- with audio
    pub rendered : (call : Machine → List ℕ → Outcome) (stores : Stores) (bytes bytes' : List ℕ)
        → record { reply = reply; machine = machine_at p later; bytes = bytes' } ≡ seen (call (machine_at q stores) bytes)
        → returned_with (returned_at r after next later) bytes' ≡ audio_by call answer state stores bytes
    unfolding audio_by
    rendered call stores bytes bytes' o =
        ap (λ (l : Returned). returned_with l bytes') left_is
        ∙ ap (λ (s : Seen). returned_with (returned answer state s.reply s.machine) s.bytes) (o ∙ ap (λ (k : KernelProcessor). seen (call (machine_at k stores) bytes)) e)

  -- reading a value
  pub value_read : (id : ℕ) (reply : Reply) (t : ReplyWords) (after : List ℕ) → reply ≡ read_of q.bank id → t ≡ reply_words reply → after ≡ answered answer (words_of t)
      → read_at t.number after ≡ value_by id answer state
  unfolding value_by
  value_read id reply t after o u v = whole ∙ ap (λ (x : Reply). read_at x.number (answered_by answer x)) (o ∙ ap (λ (p : KernelProcessor). read_of p.bank id) e)
    where
      whole : read_at t.number after ≡ read_at reply.number (answered_by answer reply)
      whole = rw (v, u) refl

-- ---- 23 gives back the value's own bits
pub parameter_word : (m : Machine) (id word : ℕ) (reply : Reply) (after : Machine) (x : Float) → x ≡ bits word → left reply after ≡ parameter_of m id x
    → left (given_back id word reply) after ≡ parameter_by id word m
parameter_word m id word reply after x e o = ap (λ (l : Left). left (given_back id word l.reply) l.machine) (o ∙ ap (parameter_of m id) e)

pub parameter_by_lem : (m : Machine) (id word : ℕ) → (parameter_by id word m).reply.number ≡ 0 → prepared m.limiter m.bank ≡ true
parameter_by_lem m id word z = parameter_set_up m id (bits word) (go (eqb (parameter_of m id (bits word)).reply.number 23) z)
  where
    go : (b : Bool) → (cond b (refused 23 (count id ∷ count word ∷ [])) (parameter_of m id (bits word)).reply).number ≡ 0 → (parameter_of m id (bits word)).reply.number ≡ 0
    go true y = absurd (omega (arith, y))
    go false y = y

-- ---- setup
pub lent_part : (b : Bool) (n : ℕ) (ws : List Float) → n ≡ cond b (length ws) 0 → take n ws ≡ cond b ws []
lent_part true n ws e = take_all n ws (omega (arith, e))
lent_part false n ws e = rw e refl

module _ (s : LimiterSettings) (spec : ProcessSpec) (answer state : List ℕ) (stores : Stores) where
  abbrev fits : Bool
  fits = eqb (length state) state_bytes

  module _ (reply : Reply) (p : KernelProcessor) (later : Stores) (part : List Float) (l : part ≡ cond fits stores.weights []) (o : left reply (machine_at p later) ≡ setup_of s spec (with_weights part stores)) where
    own : left reply (machine_at p later) ≡ setup_of s spec (with_weights (cond fits stores.weights []) stores)
    own = o ∙ ap (λ (x : List Float). setup_of s spec (with_weights x stores)) l

    -- the weights as they come back: the lent part, and what is behind it
    pub came_back : (n : ℕ) → n ≡ cond fits (length stores.weights) 0 → later.weights ++ drop n stores.weights ≡ cond fits later.weights stores.weights
    came_back n e = go fits n e own
      where
        go : (b : Bool) (n : ℕ) → n ≡ cond b (length stores.weights) 0 → left reply (machine_at p later) ≡ setup_of s spec (with_weights (cond b stores.weights []) stores)
            → later.weights ++ drop n stores.weights ≡ cond b later.weights stores.weights
        go true n e h = rw (e, drop-length stores.weights) (append-nil later.weights)
        go false n e h = rw (e, ap (λ (x : Left). x.machine.stores.weights) (h ∙ setup_none s spec stores)) refl

    pub set_up : (ws : List Float) (t : ReplyWords) (after next : List ℕ) → ws ≡ cond fits later.weights stores.weights → t ≡ reply_words reply → after ≡ answered answer (words_of t)
        → next ≡ cond fits (state_out p) state → returned_at t.number after next (with_weights ws later) ≡ setup_by s spec answer state stores
    unfolding setup_by
    set_up ws t after next b u v w = whole ∙ ap done own
      where
        done : Left → Returned
        done x = returned_at x.reply.number (answered_by answer x.reply) (cond fits (state_out (processor_of x.machine)) state) (left_in state stores x.machine.stores)

        whole : returned_at t.number after next (with_weights ws later) ≡ done (left reply (machine_at p later))
        whole = rw (b, v, w, u) refl
