-- The machine: limiter, bank and lent stores; and what 18, 16 and 19 judge of it.
use Rattle.std.specs.Prelude.{ℕ, Bool, true, false, ◌&&◌, eqb, Float}
use Rattle.arithmetic.specs.Number
use Rattle.arithmetic.specs.Number.{bits, within, same_value}
use Rattle.arithmetic.specs.Reply.{unless}
use Rattle.settings.specs.Target.{target_of}
use Rattle.settings.specs.declared.LimiterSettings.{LimiterSettings}
use Rattle.limiter.specs.Stores.{Stores, lengths_of, lengths_fit}
use Rattle.limiter.specs.Order
use Rattle.limiter.specs.declared.state.Limiter.{Limiter}
use Rattle.bank.specs.Bank
use Rattle.bank.specs.Bank.{slot_at}
use Rattle.bank.specs.declared.param.ParamInfo.{ParamInfo}
use Rattle.bank.specs.declared.param.Smoothing.{Smoothing}
use Rattle.bank.specs.declared.param.Smoothing.TheVariants.{Step, Linear, OnePole}
use Rattle.bank.specs.declared.smoother.Smoother.{Smoother}
use Rattle.bank.specs.declared.smoother_bank.SmootherBank.{SmootherBank}

pub record Machine : Type 0 where
  pub limiter : Limiter
  pub bank : SmootherBank
  pub stores : Stores

abbrev pub machine_of : Limiter → SmootherBank → Stores → Machine
machine_of l b s = record { limiter = l; bank = b; stores = s }

-- ---- the limiter's one parameter
-- −30 dB and 5 ms
abbrev pub lowest : Float
lowest = bits 0xc03e_0000_0000_0000

abbrev pub five_ms : Float
five_ms = bits 0x4014_0000_0000_0000

-- "the limiter's threshold is Linear, 5 ms, −30 to 0"; its default is the settings' threshold
abbrev pub threshold_param : LimiterSettings → ParamInfo
threshold_param s = record { id = 0; low = lowest; high = Number.zero; default = s.threshold_db; smoothing_ms = five_ms; smoothing = Linear }

-- the threshold's smoother
abbrev pub threshold_of : SmootherBank → Smoother
threshold_of b = slot_at 0 b.smoothers

-- the target of the threshold as it stands
abbrev pub target_now : Machine → Float
target_now m = target_of (threshold_of m.bank).cur m.limiter.settings.true_peak_margin_db

-- ---- 18
abbrev pub is_linear : Smoothing → Bool
is_linear Step = false
is_linear Linear = true
is_linear OnePole = false

-- a smoother declares the threshold of these settings; that its id is its index the bank's own 18 says
unfoldable pub declares : LimiterSettings → Smoother → Bool
declares s p =
    same_value p.low lowest && (same_value p.high Number.zero
    && (same_value p.default s.threshold_db && (same_value p.smoothing_ms five_ms && is_linear p.shape)))

-- 18: the kernel's share and the bank's, and a bank of the one parameter that the settings declare, at the limiter's rate
unfoldable pub prepared : Limiter → SmootherBank → Bool
prepared l b =
    Order.prepared l && (Bank.prepared b && (eqb b.count 1 && (eqb b.rate l.rate && declares l.settings (threshold_of b))))

-- ---- 19
-- "each parameter's target within its range (its value isn't judged)"; by 18 there is the one
abbrev pub target_in_range : SmootherBank → Bool
target_in_range b = within (threshold_of b).low (threshold_of b).high (threshold_of b).target

unfoldable pub is_in_order : Machine → Bool
is_in_order m = Order.is_in_order m.limiter m.stores.marks m.stores.minima m.stores.row && target_in_range m.bank

-- ---- in the table's order
abbrev pub fits : Machine → Bool
fits m = lengths_fit m.limiter.channels m.limiter.env.keeper.look (lengths_of m.stores)

-- 18, then 16, then 19; 0 where none arises
unfoldable pub ready_refusal : Machine → ℕ
ready_refusal m = unless (prepared m.limiter m.bank) 18 (unless (fits m) 16 (unless (is_in_order m) 19 0))

-- 18, then 16
unfoldable pub reset_refusal : Machine → ℕ
reset_refusal m = unless (prepared m.limiter m.bank) 18 (unless (fits m) 16 0)
