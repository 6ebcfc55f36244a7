-- `validate_param_info`: what is left from i on answers for all.
use Rattle.std.proofs.Common.{◌≡◌, drop}
use Rattle.bank.specs.Bank.{first_fault}
use Rattle.bank.proofs.smoother_bank.validate_param_info.Given as goal

abbrev pub invariant-loop-i : goal.invariant-loop-i
invariant-loop-i l = first_fault l.i (drop l.i l.p-items) ≡ first_fault 0 l.p-items
