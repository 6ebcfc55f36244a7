-- One gain step of document 01: the floor by the floor keeper, the floor into the attack row, the row's mean, and the gain that follows it.
use Rattle.std.specs.Prelude.{ℕ, ◌≡◌, true, List, length, Float}
use Rattle.keeper.specs.Keeper.{Keeping, keeping_at, stepped_of, Ready}
use Rattle.envelope.specs.Row.{Rowed, rowed_at, pushed, newest_first, row_in_order}
use Rattle.envelope.specs.Mean.{mean_of}
use Rattle.envelope.specs.Follow.{followed}
use Rattle.envelope.specs.declared.env.Envelope.{Envelope}
use Rattle.envelope.specs.declared.env.GainStep.{GainStep}

-- the envelope with its lent stores
pub record Enveloped : Type 0 where
  pub keeping : Keeping
  pub rowed : Rowed
  pub gain : Float

abbrev pub enveloped : Keeping → Rowed → Float → Enveloped
enveloped k r gain = record { keeping = k; rowed = r; gain = gain }

abbrev pub enveloped_at : Envelope → List ℕ → List Float → List Float → Enveloped
enveloped_at e marks minima row = enveloped (keeping_at e.keeper marks minima) (rowed_at e.attack row) e.gain

-- what a step tells and leaves; the tally is the row's, the entries kept are the keeper's
pub record GainStepped : Type 0 where
  pub floor : Float
  pub dropped : ℕ
  pub mean : Float
  pub env : Enveloped

abbrev pub gain_stepped : Float → ℕ → Float → Enveloped → GainStepped
gain_stepped floor dropped mean e = record { floor = floor; dropped = dropped; mean = mean; env = e }

abbrev pub gain_step_at : GainStep → List ℕ → List Float → List Float → GainStepped
gain_step_at r marks minima row = gain_stepped r.floor r.dropped r.mean (enveloped_at r.env marks minima row)

-- one step at a required gain x, with these weights and this release coefficient
unfoldable pub gain_step_of : List Float → Float → Enveloped → Float → GainStepped
gain_step_of weights coeff e x =
    let s = stepped_of e.keeping x in
    let p = pushed e.rowed.state e.rowed.row s.floor in
    let mean = mean_of weights (newest_first p.state.pos p.row) in
    gain_stepped s.floor s.dropped mean (enveloped s.keeping p (followed e.gain mean coeff))

-- what the inner step asks: keeper and row in order, room for a frame, a weight for each place of the row
pub record EnvReady (weights : List Float) (e : Enveloped) : Type 0 where
  pub keeper : Ready e.keeping
  pub row : row_in_order e.rowed.state e.rowed.row ≡ true
  pub weighed : length weights ≡ length e.rowed.row
