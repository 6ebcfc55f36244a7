-- State and stores tied to the book: what the tie says, what finished and refused calls come to, and the parameter call.
use mathlib.Core.Path.{◌≡◌, refl, sym, ap, subst, ◌∙◌}
use mathlib.Core.Bool.{Bool, true, false, cond, not, beq}
use mathlib.Core.List.{List, [], ◌∷◌}
use Prim.Native.Nat.{ℕ, zero, suc, ◌*◌, ◌≤◌, ◌<◌}
use native.Mathlib.Omega.{arith}
use lib.Dec.{eqb, leb}
use lib.ListN.{length, drop}
use lib.Ieee.{Float}
use lib.Ieee.Scale.{finite}
use borrow.Author.Tests.{eqb-true, eqb-false, ne_eqb, leb-true, le-leb}
use Rattle.arithmetic.specs.Number.{largest}
use Rattle.arithmetic.specs.Reply.{Reply, finished, refused, count, float, and_then, must}
use Rattle.arithmetic.proofs.Order.{clash}
use Rattle.audio.specs.declared.format.Format.{Format}
use Rattle.audio.specs.declared.format.Format.TheVariants.{F64}
use Rattle.keeper.proofs.Step.{order-of}
use Rattle.settings.specs.Accepted.{block_taken}
use Rattle.settings.specs.declared.LimiterSettings.{LimiterSettings}
use Rattle.frame.specs.Rules.{linking_of, rules_of}
use Rattle.limiter.specs.Stores.{Stores}
use Rattle.limiter.specs.Run.{moving_of}
use Rattle.limiter.specs.declared.state.Limiter.{Limiter}
use Rattle.limiter.proofs.Ready.{prepared_is}
use Rattle.bank.specs.Smoother.{immediate_set}
use Rattle.bank.specs.Bank.{one_changed, value_of}
use Rattle.bank.specs.declared.smoother.Smoother.{Smoother}
use Rattle.bank.specs.declared.smoother_bank.SmootherBank.{SmootherBank}
use Rattle.turns.specs.Machine.{Machine, machine_of, ready_refusal}
use Rattle.turns.specs.Block.{rendered, rendered_in, Outcome, outputs_of, refused_as}
use Rattle.turns.proofs.Rendering.{audio_small}
use Rattle.driver.specs.Calls.{left, settled, parameter_reply, parameter_of}
use Rattle.claims.specs.Session.{Call, block, drain, parameter, reset, bytes_in, silently, called, limiting}
use Rattle.claims.specs.Book.{Joined, Book, look_in, coeff_in}
use Rattle.claims.specs.BookCalls.{join_all, last_target, grown, Entry, passed_over_by, entered, parameter_judged, parameter_entered, enter, value_in}
use Rattle.claims.specs.Claim.{FramesHold, Given, width_of, format_of, rules_in, moving_left, CallHolds, drops_after}
use Rattle.claims.proofs.Tied.{MovingTied, Counted}
use Rattle.turns.proofs.Kernel.{Kernel, Steady, same_steady}
use Rattle.claims.proofs.Turned.{Suited, frames_taken}
use Rattle.claims.proofs.Machines.{Sound, OneParameter, immediate_sound, Whole, first_slot, whole_of, whole_set_up, whole_ready, whole_values}

pub record Tied (b : Book) (m : Machine) : Type 0 where
  pub settings : m.limiter.settings ≡ b.settings
  pub rate : m.limiter.rate ≡ b.spec.rate
  pub channels : m.limiter.channels ≡ b.spec.channels
  pub largest : m.limiter.max_block ≡ b.spec.max_block
  pub weights : m.stores.weights ≡ b.weights
  -- exactly, as setup and reset leave it; 18 judges it by its bits
  pub coeff : m.limiter.release_coeff ≡ coeff_in b
  pub ready : ready_refusal m ≡ 0
  pub moving : MovingTied (linking_of b.settings) (look_in b) b.spec.channels b.weights (coeff_in b) (moving_of m.limiter m.stores) b.frames
  pub slots : m.bank.smoothers ≡ b.threshold ∷ drop 1 m.bank.smoothers
  pub target : m.limiter.target ≡ b.target
  pub drained : m.limiter.drained ≡ b.drained

-- ---- what the tie says
module _ (b : Book) (m : Machine) (t : Tied b m) where
  pub tied_whole : Whole b.threshold m
  tied_whole = subst (λ (s : Smoother). Whole s m) (first_slot b.threshold m.bank t.slots) (whole_of m t.ready)

  pub tied_look : m.limiter.env.keeper.look ≡ look_in b
  tied_look = (prepared_is m.limiter tied_whole.kernel.set_up).look_is ∙ rw (t.settings, t.rate) refl

  pub tied_suited : Suited (look_in b) b.spec.channels b.weights (coeff_in b) m.limiter m.stores
  tied_suited = record { look_is = tied_look; channels_is = t.channels; weights_is = t.weights; coeff_is = t.coeff }

  pub tied_frames : m.limiter.env.keeper.frame ≡ length b.frames
  tied_frames = frames_taken (linking_of b.settings) (look_in b) b.spec.channels b.weights (coeff_in b) (moving_of m.limiter m.stores) b.frames t.moving

  pub tied_largest : b.spec.max_block ≤ 65536
  tied_largest = leb-true b.spec.max_block 65536 (subst (λ (n : ℕ). block_taken n ≡ true) t.largest (prepared_is m.limiter tied_whole.kernel.set_up).rules.block_is)

  -- frames are rendered by the book's rules
  pub tied_renders : (format : Format) → rendered (rules_of b.settings format) ≡ rendered_in format m
  tied_renders format = ap (λ (s : LimiterSettings). rendered (rules_of s format)) (sym t.settings)

  -- a block's or a drain's audio is no `largest`
  pub tied_small : (frames : ℕ) → frames ≤ 65536 → b.spec.channels * frames < largest
  tied_small frames short = subst (λ (c : ℕ). c * frames < largest) t.channels (audio_small m.limiter frames tied_whole.kernel.set_up short)

  pub tied_values : (id : ℕ) → value_of m.bank id ≡ value_in b id
  tied_values id = whole_values m b.threshold tied_whole id

-- ---- what a call leaves that takes the frames js
module _ (b : Book) (m : Machine) (t : Tied b m) (after : Limiter) (left : Stores) (bank : SmootherBank) (threshold : Smoother) (drained : ℕ) (js : List Joined) where
  pub record Grown : Type 0 where
    pub steady : Steady m.limiter m.stores after left
    pub kernel : Kernel after left
    pub one : OneParameter threshold bank
    pub rate : bank.rate ≡ m.bank.rate
    pub sound : Sound m.limiter.rate m.limiter.settings threshold
    pub moving : MovingTied (linking_of b.settings) (look_in b) b.spec.channels b.weights (coeff_in b) (moving_of after left) (join_all b.frames js)
    pub target : after.target ≡ last_target b.target js
    pub drained_is : after.drained ≡ drained

  pub grown_tied : Grown → Tied (grown b threshold drained js) (machine_of after bank left)
  grown_tied g =
      let k = g.steady in
      let w = tied_whole b m t in
      let s = subst (λ (z : LimiterSettings). Sound after.rate z threshold) (sym k.settings) (subst (λ (n : ℕ). Sound n m.limiter.settings threshold) (sym k.rate) g.sound) in
      record {
        settings = k.settings ∙ t.settings;
        rate = k.rate ∙ t.rate;
        channels = k.channels ∙ t.channels;
        largest = k.largest ∙ t.largest;
        weights = k.weights ∙ t.weights;
        coeff = k.coeff ∙ t.coeff;
        ready = whole_ready (machine_of after bank left) threshold (record { kernel = g.kernel; one = g.one; rate = g.rate ∙ w.rate ∙ sym k.rate; sound = s });
        moving = g.moving;
        slots = g.one.slots;
        target = g.target;
        drained = g.drained_is;
      }

-- ---- finished and refused calls
-- 18, 16 and 19 do not arise
abbrev pub Never : ℕ → Type 0
Never n = (n ≡ 18 → ⊥) × ((n ≡ 16 → ⊥) × (n ≡ 19 → ⊥))

pub never_later : (n : ℕ) → 20 ≤ n → Never n
never_later n h = (λ z. omega arith, (λ z. omega arith, λ z. omega arith))

pub never_finished : Never 0
never_finished = (λ z. omega arith, (λ z. omega arith, λ z. omega arith))

pub never_must : (p : Bool) (n : ℕ) → 20 ≤ n → Never (must p n).number
never_must true n h = never_finished
never_must false n h = never_later n h

pub never_then : (r next : Reply) → Never r.number → Never next.number → Never (and_then r next).number
never_then r next first later = go (eqb r.number 0)
  where
    go : (p : Bool) → Never (cond p next r).number
    go true = later
    go false = first

-- drops since the start and entries kept are the frames taken
abbrev pub CountedIn : ℕ → Book → Machine → Type 0
CountedIn drops b m = Counted drops (moving_of m.limiter m.stores) b.frames

-- where no frame was taken there is no entry
no_entry : (len frame : ℕ) → beq (eqb len 0) (eqb frame 0) ≡ true → frame ≡ 0 → len ≡ 0
no_entry len frame none z = go (eqb len 0) refl (subst (λ (n : ℕ). beq (eqb len 0) (eqb n 0) ≡ true) z none)
  where
    go : (p : Bool) → eqb len 0 ≡ p → beq (eqb len 0) true ≡ true → len ≡ 0
    go true h both = eqb-true len 0 h
    go false h both = clash false (sym (ap (λ (p : Bool). beq p true) h) ∙ both) refl

pub none_counted : (b : Book) (m : Machine) → Tied b m → length b.frames ≡ 0 → CountedIn 0 b m
none_counted b m t none =
    let k = m.limiter.env.keeper in
    let order = order-of k.look k.head k.len k.frame m.stores.marks m.stores.minima t.moving.env.follows.in_order in
    omega (arith, no_entry k.len k.frame order.none (tied_frames b m t ∙ none))

-- the claim of one call, and tie and count after it
pub record Done (drops : ℕ) (b : Book) (m : Machine) (call : Call) (o : Outcome) (e : Entry) : Type 0 where
  pub holds : CallHolds drops b m call o e
  pub tied : Tied e.book o.machine
  pub counted : CountedIn (drops_after drops call o) e.book o.machine

-- a refused call drops nothing
refused_counted : (drops : ℕ) (b : Book) (m : Machine) → CountedIn drops b m → (call : Call) (r : Reply) → (r.number ≡ 0 → ⊥) → CountedIn (drops_after drops call (refused_as r m (bytes_in call))) b m
refused_counted drops b m n (block format position frames events bytes) r some = omega (arith, n)
refused_counted drops b m n (drain format frames bytes) r some = omega (arith, n)
refused_counted drops b m n (parameter id v) r some = n
refused_counted drops b m n reset r some = rw (ne_eqb r.number 0 some) n

-- and what moves stays
refused_left : (b : Book) (m : Machine) (call : Call) (r : Reply) → (r.number ≡ 0 → ⊥) → moving_of m.limiter m.stores ≡ moving_left b m call (refused_as r m (bytes_in call))
refused_left b m (block format position frames events bytes) r some = refl
refused_left b m (drain format frames bytes) r some = refl
refused_left b m (parameter id v) r some = refl
refused_left b m reset r some = rw (ne_eqb r.number 0 some) refl

module _ (drops : ℕ) (b : Book) (m : Machine) (t : Tied b m) (n : CountedIn drops b m) (call : Call) where
  pub refused_done : (r : Reply) → (r.number ≡ 0 → ⊥) → Never r.number → Done drops b m call (refused_as r m (bytes_in call)) (passed_over_by r b)
  refused_done r some never = record {
    holds = record {
      reply = refl;
      never = never;
      refusal = λ z. (refl, refl);
      ready = t.ready;
      frames = tt;
      left = refused_left b m call r some;
      audio = λ z. absurd (some z);
      values = tied_values b m t;
    };
    tied = t;
    counted = refused_counted drops b m n call r some;
  }

  pub finished_done : (o : Outcome) (e : Entry) → o.reply ≡ e.reply → o.reply.number ≡ 0 → FramesHold (rules_in b call) (look_in b) b.spec.channels b.weights (coeff_in b) drops b.frames e.joined o.frames
      → moving_of o.machine.limiter o.machine.stores ≡ moving_left b m call o → Given (format_of call) b.spec.channels (width_of call) (length e.joined) (outputs_of o.frames) (bytes_in call) o.bytes → Tied e.book o.machine
      → CountedIn (drops_after drops call o) e.book o.machine → Done drops b m call o e
  finished_done o e r z f l g after counted = record {
    holds = record {
      reply = r;
      never = subst Never (sym z) never_finished;
      refusal = λ some. absurd (some z);
      ready = after.ready;
      frames = f;
      left = l;
      audio = λ h. g;
      values = tied_values e.book o.machine after;
    };
    tied = after;
    counted = counted;
  }

  -- by the reply, which is the book's
  pub by_reply : (r : Reply) (o : Outcome) (e : Entry) → Never r.number → (r.number ≡ 0 → Done drops b m call o e)
      → Done drops b m call (cond (eqb r.number 0) o (refused_as r m (bytes_in call))) (entered r e b)
  by_reply r o e never done = go (eqb r.number 0) refl
    where
      go : (p : Bool) → eqb r.number 0 ≡ p → Done drops b m call (cond p o (refused_as r m (bytes_in call))) (cond p e (passed_over_by r b))
      go true h = done (eqb-true r.number 0 h)
      go false h = refused_done r (eqb-false r.number 0 h) never

-- a call without audio gives nothing out
pub no_audio : (b : Book) → Given F64 b.spec.channels 0 0 [] [] []
no_audio b = record { as_long = refl; placed = λ c i h k. absurd (omega arith); worth = λ c i h k. absurd (omega arith); others = λ c i h k l. absurd (omega arith) }

-- ---- a parameter call
module _ (drops : ℕ) (b : Book) (m : Machine) (t : Tied b m) (n : CountedIn drops b m) where
  parameter_set : (v : Float) → finite v ≡ true → Done drops b m (parameter 0 v) (silently (left (finished []) (machine_of m.limiter (one_changed (immediate_set v) 0 m.bank) m.stores))) (parameter_entered b v)
  unfolding join_all last_target
  parameter_set v h =
      let w = tied_whole b m t in
      let new = immediate_set v b.threshold in
      let bank = one_changed (immediate_set v) 0 m.bank in
      let slots : bank.smoothers ≡ new ∷ drop 1 bank.smoothers = rw t.slots refl in
      finished_done drops b m t n (parameter 0 v) _ (parameter_entered b v) refl refl tt refl (no_audio b)
      (grown_tied b m t m.limiter m.stores bank new b.drained []
      (record {
        steady = same_steady m.limiter m.stores;
        kernel = w.kernel;
        one = record { slots = slots; count = w.one.count; ready = w.one.ready };
        rate = refl;
        sound = immediate_sound m.limiter.rate m.limiter.settings b.threshold v h w.sound.declared;
        moving = t.moving;
        target = t.target;
        drained_is = t.drained;
      })) n

  -- the limiter has one parameter
  only_first : (id : ℕ) → not (leb 1 id) ≡ eqb id 0
  only_first zero = refl
  only_first (suc id) = rw (le-leb 1 (suc id) (omega arith), ne_eqb (suc id) 0 (λ z. omega arith)) refl

  parameter_reply_lem : (id : ℕ) (v : Float) → parameter_reply m id v ≡ parameter_judged id v
  unfolding parameter_reply
  parameter_reply_lem id v =
      let w = tied_whole b m t in
      rw (whole_set_up m b.threshold w, w.one.count, only_first id) refl

  pub parameter_done : (id : ℕ) (v : Float) → Done drops b m (parameter id v) (called limiting m (parameter id v)) (enter b (parameter id v))
  unfolding enter parameter_of
  parameter_done id v =
      subst (λ (r : Reply). Done drops b m (parameter id v) (silently (settled r (machine_of m.limiter (one_changed (immediate_set v) id m.bank) m.stores) m)) (enter b (parameter id v)))
      (sym (parameter_reply_lem id v)) (go id (finite v) refl)
    where
      go : (id : ℕ) (f : Bool) → finite v ≡ f
          → Done drops b m (parameter id v) (silently (settled (parameter_judged id v) (machine_of m.limiter (one_changed (immediate_set v) id m.bank) m.stores) m))
          (entered (parameter_judged id v) (parameter_entered b v) b)
      go id false h = rw h (refused_done drops b m t n (parameter id v) (refused 23 (count id ∷ float v ∷ [])) (λ z. omega arith) (never_later 23 (omega arith)))
      go zero true h = rw h (parameter_set v h)
      go (suc id) true h =
          rw (h, ne_eqb (suc id) 0 (λ z. omega arith))
          (refused_done drops b m t n (parameter (suc id) v) (refused 24 []) (λ z. omega arith) (never_later 24 (omega arith)))
