-- `apply_all`: at a turn the slots before it are changed.
use Rattle.std.proofs.Common.{◌≡◌}
use Rattle.bank.specs.Bank.{Computes, first_mapped}
use Rattle.bank.specs.declared.smoother.Smoother.{Smoother}
use Rattle.bank.proofs.smoother_bank.SmootherBank.apply_all.Given as goal

abbrev pub invariant-loop-s : goal.invariant-loop-s
invariant-loop-s g l = (f : Smoother → Smoother) → Computes (goal.F-post g l.change) f → l.s-items ≡ first_mapped f l.s-index l.initial.s-items
