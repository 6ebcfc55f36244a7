-- The lent stores, handed on together.
use Rattle.std.specs.Prelude.{◌≡◌, ℕ}
use Rattle.envelope.specs.declared.env.Envelope.{Envelope}
use Rattle.frame.specs.Frame.{Moving}
use Rattle.frame.specs.Run.{moving_at}
use Rattle.frame.specs.declared.stores.Lent.{Lent}

-- each store lies where it lay, and the weights, which are only read, are as they were
pub record Stays (before after : Lent) : Type 0 where
  pub delay : after.delay.ghost_name ≡ before.delay.ghost_name
  pub marks : after.marks.ghost_name ≡ before.marks.ghost_name
  pub minima : after.minima.ghost_name ≡ before.minima.ghost_name
  pub weights : after.weights.now ≡ before.weights.now
  pub row : after.row.ghost_name ≡ before.row.ghost_name
  pub detector : after.detector.ghost_name ≡ before.detector.ghost_name

-- what a run goes on from, read off envelope, position and stores
abbrev pub moving_in : Envelope → ℕ → Lent → Moving
moving_in e pos l = moving_at e pos l.delay.now l.marks.now l.minima.now l.row.now l.detector.now
