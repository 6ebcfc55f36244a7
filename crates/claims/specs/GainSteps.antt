-- THE LONE GAIN STEP, again and again: after a finished setup or reset, for every list of gains, what each step replies and leaves; and on any state and stores what it refuses. It has no audio and no target: the gains are given, any f64, and count as `unit_gain` says.
use Rattle.std.specs.Prelude.{ℕ, ◌+◌, ◌≤◌, ◌<◌, ◌≡◌, cond, List, [], ◌∷◌, ltb, length, Float}
use Rattle.arithmetic.specs.Sanitize.{unit_gain}
use Rattle.arithmetic.specs.Reply.{finished, numbered, count, float}
use Rattle.keeper.specs.InOrder.{most_frames}
use Rattle.keeper.specs.Floor.{floor_of}
use Rattle.keeper.specs.History.{drops_in}
use Rattle.envelope.specs.Mean.{mean_of}
use Rattle.settings.specs.Derived.{look_of, coefficient_of}
use Rattle.settings.specs.House.{weights_for}
use Rattle.settings.specs.declared.LimiterSettings.{LimiterSettings}
use Rattle.settings.specs.declared.ProcessSpec.{ProcessSpec}
use Rattle.limiter.specs.Stores.{Stores, stores_at}
use Rattle.limiter.specs.Run.{moved_on}
use Rattle.turns.specs.Machine.{Machine, machine_of, ready_refusal}
use Rattle.driver.specs.Calls.{Left, left, setup_of, reset_of, gain_reply}
use Rattle.claims.specs.Book.{kept_in, attack_row, not_one, gain_after}

-- a gain step, on any state and stores; the code meets `gain_step` (crate driver)
abbrev pub GainStepping : Type 0
GainStepping = Machine → Float → Left

-- m with the envelope, marks, minima and row of n, which are all that a gain step moves: bank, delay lines and detector's store, weights, and of the limiter settings, rate, channels, largest block, release coefficient,
-- delay position, kept target and drained count are those of m
abbrev pub moved_as : Machine → Machine → Machine
moved_as n m =
    let l = m.limiter in
    let s = m.stores in
    machine_of (moved_on l n.limiter.env l.delay_pos l.target l.drained) m.bank (stores_at s.delay n.stores.marks n.stores.minima s.weights n.stores.row s.detector)

-- ---- one step: g is its gain, within 0 and 1, gains are those taken since the start before it, newest first, drops are those reported since the start before it, m are state and stores before it, l is what the
-- step leaves
pub record Told (look : ℕ) (weights : List Float) (coeff : Float) (drops : ℕ) (g : Float) (gains : List Float) (m : Machine) (l : Left) : Type 0 where
  pub dropped : ℕ
  -- floor, drops, entries kept, tally, mean, gain: floor and entries by plain scan, and the row, its tally, its mean and the gain that follow from such floors
  pub reply : (let row = attack_row look (g ∷ gains) in
      l.reply
      ≡ finished (float (floor_of look g gains) ∷ count dropped ∷ count (kept_in look (g ∷ gains)) ∷ count (not_one row) ∷ float (mean_of weights row) ∷ float (gain_after look weights coeff (g ∷ gains)) ∷ []))
  -- "since the start, drops plus entries kept equal frames taken"
  pub counted : drops + dropped + kept_in look (g ∷ gains) ≡ length (g ∷ gains)
  -- the keeper that is left has the entries that are told
  pub kept : l.machine.limiter.env.keeper.len ≡ kept_in look (g ∷ gains)
  -- what is left is set up, fits and is in order
  pub ready : ready_refusal l.machine ≡ 0
  -- a step more is refused by 22 once 2^40 frames are taken, and by nothing before
  pub next : gain_reply l.machine ≡ cond (ltb (length (g ∷ gains)) most_frames) 0 22
  -- everything else is as it was
  pub apart : l.machine ≡ moved_as l.machine m

pub record GainHolds (look : ℕ) (weights : List Float) (coeff : Float) (drops : ℕ) (g : Float) (gains : List Float) (m : Machine) (l : Left) : Type 0 where
  pub told : length gains < most_frames → Told look weights coeff drops g gains m l
  -- 22: after 2^40 frames each step is refused, and changes nothing
  pub spent : most_frames ≤ length gains → l ≡ left (numbered 22) m

-- ---- a list of them, each on the state and stores as the last one left them
-- a refused step takes no gain
abbrev pub taking : Float → List Float → List Float
taking g gains = cond (ltb (length gains) most_frames) (g ∷ gains) gains

abbrev pub GainsHold : GainStepping → ℕ → List Float → Float → ℕ → List Float → Machine → List Float → Type 0
GainsHold step look weights coeff drops gains m [] = Unit {0}
GainsHold step look weights coeff drops gains m (x ∷ xs) =
    let l = step m x in
    GainHolds look weights coeff drops (unit_gain x) gains m l
    × GainsHold step look weights coeff (drops + drops_in l.reply.values) (taking (unit_gain x) gains) l.machine xs

-- ---- the claim
pub record GainClaim (step : GainStepping) : Type 0 where
  -- every list after a finished setup
  pub after_setup : (s : LimiterSettings) (spec : ProcessSpec) (stores : Stores)
      → (let start = setup_of s spec stores in
      start.reply.number ≡ 0 → (xs : List Float)
      → GainsHold step (look_of s.lookahead_ms spec.rate) (weights_for s spec stores.weights) (coefficient_of s.release_ms spec.rate) 0 [] start.machine xs)
  -- every list after a finished reset, of any state and stores at all
  pub after_reset : (m : Machine)
      → (let start = reset_of m in
      let k = m.limiter in
      start.reply.number ≡ 0 → (xs : List Float)
      → GainsHold step (look_of k.settings.lookahead_ms k.rate) m.stores.weights (coefficient_of k.settings.release_ms k.rate) 0 [] start.machine xs)
  -- a step on any state and stores at all: what the table judges (18, 16, 19, 22) it replies, and then nothing changes
  pub judged : (m : Machine) (x : Float) → (gain_reply m ≡ 0 → ⊥) → step m x ≡ left (numbered (gain_reply m)) m
