-- A block by what the bank shows.
use mathlib.Core.Path.{◌≡◌, ap, ◌∙◌}
use mathlib.Core.Bool.{Bool, true, ◌&&◌}
use mathlib.Core.List.{List, []}
use Prim.Native.Nat.{ℕ}
use native.Mathlib.Omega.{arith}
use lib.Dec.{eqb, ltb}
use lib.ListN.{length}
use Rattle.audio.specs.declared.format.Format.{Format}
use Rattle.bank.specs.Smoother.{stepped, vacant}
use Rattle.bank.specs.Bank.{all_changed}
use Rattle.bank.proofs.Still.{bank_stands}
use Rattle.turns.specs.Machine.{Machine}
use Rattle.turns.specs.Block.{Outcome}
use Rattle.turns.specs.Inner.{driven}
use Rattle.turns.proofs.Still.{no_events}
use Rattle.driver.specs.Parts.{bank_with}
use Rattle.driver.specs.declared.state.Threshold.{Threshold}
use Rattle.state_bytes.specs.Shown.{Showing, showing}

-- ---- at rest
-- the bank that shows this, where its one parameter is still
pub shown_rests : (t : Threshold) (still : Bool) → (still ≡ true → stepped t.smoother ≡ t.smoother) → eqb t.count 1 && still ≡ true → all_changed stepped (bank_with t) ≡ bank_with t
shown_rests t still e = bank_stands (bank_with t) vacant (omega arith) still e

-- words too few for an event
module _ (format : Format) (m : Machine) (position frames : ℕ) (words bytes : List ℕ) (still : Bool) (h : ltb (length words) 3 && still ≡ true) where
  pub still_shows : (x : Showing) → x ≡ showing (driven format m position frames [] bytes).machine → x ≡ showing (driven format m position frames words bytes).machine
  still_shows x e = e ∙ ap (λ (o : Outcome). showing o.machine) (no_events format m position frames words bytes still h)
