-- A bank by what 18 and 19 read of it. A bank is large, so the code hands on this part alone where it can.
use Rattle.std.specs.Prelude.{[], ◌∷◌}
use Rattle.bank.specs.Smoother.{vacant}
use Rattle.bank.specs.Bank.{slot_at}
use Rattle.bank.specs.declared.smoother_bank.SmootherBank.{SmootherBank}
use Rattle.driver.specs.declared.state.Threshold.{Threshold}

-- of any bank
abbrev pub shown_of : SmootherBank → Threshold
shown_of b = record { smoother = slot_at 0 b.smoothers; count = b.count; rate = b.rate; ready = b.ready }

-- the bank that shows this and holds no other parameter
abbrev pub bank_with : Threshold → SmootherBank
bank_with t = record {
  smoothers = t.smoother ∷ vacant ∷ vacant ∷ vacant ∷ vacant ∷ vacant ∷ vacant ∷ vacant ∷ [];
  count = t.count;
  rate = t.rate;
  ready = t.ready;
}
