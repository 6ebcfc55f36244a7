-- What 512 bytes can hold of a limiter with its bank: floats of binary64, numbers within their words, and a bank whose slots past the first are empty.
use mathlib.Core.Path.{◌≡◌}
use Prim.Native.Nat.{◌^◌, ◌<◌}
use lib.Dec.{T}
use lib.Ieee.{Float, binary64, fits}
use Rattle.limiter.specs.declared.state.Limiter.{Limiter}
use Rattle.bank.specs.Bank.{slot_at}
use Rattle.bank.specs.declared.smoother.Smoother.{Smoother}
use Rattle.bank.specs.declared.smoother_bank.SmootherBank.{SmootherBank}
use Rattle.driver.specs.declared.state.KernelProcessor.{KernelProcessor}
use Rattle.state_bytes.specs.State.{slots_with}

-- a value of binary64, which its 64 bits give back
abbrev pub Fits : Float → Type 0
Fits x = T (fits binary64 x)

-- ---- the limiter: its floats, and a bit for each of eight channels
pub record LimiterFits (l : Limiter) : Type 0 where
  pub threshold : Fits l.settings.threshold_db
  pub margin : Fits l.settings.true_peak_margin_db
  pub lookahead : Fits l.settings.lookahead_ms
  pub release : Fits l.settings.release_ms
  pub left_out_mask : l.settings.left_out < 256
  pub coeff : Fits l.release_coeff
  pub gain : Fits l.env.gain
  pub target : Fits l.target

-- its numbers, a rate in 32 bits
pub record LimiterSmall (l : Limiter) : Type 0 where
  pub rate : l.rate < 2 ^ 32
  pub channels : l.channels < 2 ^ 64
  pub largest : l.max_block < 2 ^ 64
  pub look : l.env.keeper.look < 2 ^ 64
  pub head : l.env.keeper.head < 2 ^ 64
  pub len : l.env.keeper.len < 2 ^ 64
  pub frame : l.env.keeper.frame < 2 ^ 64
  pub pos : l.env.attack.pos < 2 ^ 64
  pub tally : l.env.attack.tally < 2 ^ 64
  pub delay : l.delay_pos < 2 ^ 64
  pub drained : l.drained < 2 ^ 64

-- ---- the bank
pub record SmootherFits (s : Smoother) : Type 0 where
  pub id : s.id < 2 ^ 32
  pub cur : Fits s.cur
  pub target : Fits s.target
  pub low : Fits s.low
  pub high : Fits s.high
  pub default : Fits s.default
  pub steps : Fits s.steps
  pub left : s.updates_remaining < 2 ^ 64
  pub delta : Fits s.step_delta
  pub coeff : Fits s.coeff
  pub time : Fits s.smoothing_ms

-- the slots past the first hold no parameter
pub record BankFits (b : SmootherBank) : Type 0 where
  pub first : SmootherFits (slot_at 0 b.smoothers)
  pub slots : b.smoothers ≡ slots_with (slot_at 0 b.smoothers)
  pub count : b.count < 2 ^ 64
  pub rate : b.rate < 2 ^ 32

pub record Storable (p : KernelProcessor) : Type 0 where
  pub floats : LimiterFits p.limiter
  pub numbers : LimiterSmall p.limiter
  pub bank : BankFits p.bank
