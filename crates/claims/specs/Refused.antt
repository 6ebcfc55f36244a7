-- After a refused setup: "18 not set up". Every later call but setup gives 18, with no values, and changes nothing.
use Rattle.std.specs.Prelude.{ℕ, ◌≡◌, List, [], ◌∷◌, Float}
use Rattle.arithmetic.specs.Reply.{refused}
use Rattle.turns.specs.Machine.{Machine}
use Rattle.turns.specs.Block.{Outcome}
use Rattle.driver.specs.Calls.{left, gain_step, read_of}
use Rattle.claims.specs.Session.{Call, bytes_in, Limiting, called}

-- ---- one call: m are the state and stores before it, o is what the limiter makes of it
pub record Gives18 (m : Machine) (call : Call) (o : Outcome) : Type 0 where
  pub reply : o.reply ≡ refused 18 []
  -- state and stores
  pub machine : o.machine ≡ m
  -- audio
  pub bytes : o.bytes ≡ bytes_in call
  -- no frame is taken
  pub frames : o.frames ≡ []

-- ---- a list of calls, each on the state and stores as the last one left them
abbrev pub AllGive18 : Limiting → Machine → List Call → Type 0
AllGive18 l m [] = Unit {0}
AllGive18 l m (call ∷ calls) = Gives18 m call (called l m call) × AllGive18 l (called l m call).machine calls

-- ---- the calls that such a list does not have, by the driver's definitions: the lone gain step, and reading a value, which changes nothing anyway
pub record OthersGive18 (m : Machine) : Type 0 where
  pub gain_step_lem : (x : Float) → gain_step m x ≡ left (refused 18 []) m
  pub reading : (id : ℕ) → read_of m.bank id ≡ refused 18 []
