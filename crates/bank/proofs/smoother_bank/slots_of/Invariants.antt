-- `slots_of`: at turn i the first i slots hold their smoothers.
use Rattle.std.proofs.Common.{◌≡◌}
use Rattle.bank.specs.Bank.{slots_of}
use Rattle.bank.proofs.smoother_bank.slots_of.Given as goal

abbrev pub invariant-loop-i : goal.invariant-loop-i
invariant-loop-i l = l.slots ≡ slots_of l.rate l.i l.params
