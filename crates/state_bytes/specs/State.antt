-- The state as bytes: 64 words of eight bytes. Word 0 tells the layout, 1 to 18 are the limiter's, 19 to 30 the threshold's smoother, 31 to 33 the bank's, 34 the channels that are left out of linking, and the rest is room to grow. What is taken from that room means at 0 what it was before: a state that was kept since then goes on as it did.
use Rattle.std.specs.Prelude.{ℕ, zero, suc, ◌+◌, ◌%◌, ◌^◌, Bool, true, cond, not, ◌&&◌, List, [], ◌∷◌, ◌++◌, eqb, leb, ltb, length, get_or, replicate}
use Rattle.audio.specs.Bytes.{words_in, bytes_out}
use Rattle.settings.specs.Settings.{settings_of}
use Rattle.settings.specs.declared.LimiterSettings.{LimiterSettings}
use Rattle.envelope.specs.declared.env.Envelope.{Envelope}
use Rattle.limiter.specs.State.{not_set_up}
use Rattle.limiter.specs.declared.state.Limiter.{Limiter}
use Rattle.bank.specs.Smoother.{vacant}
use Rattle.bank.specs.Bank.{slot_at, unset}
use Rattle.bank.specs.declared.smoother.Smoother.{Smoother}
use Rattle.bank.specs.declared.smoother_bank.SmootherBank.{SmootherBank}
use Rattle.turns.specs.Machine.{Machine}
use Rattle.driver.specs.declared.state.KernelProcessor.{KernelProcessor}
use Rattle.bank.specs.Words.{float_in, half_in, smoother_in, float_out, smoother_out}

-- ---- which buffers are a state
-- "Dyuz", and layout 1 above it
abbrev pub layout : ℕ
layout = 0x1_7a75_7944

abbrev pub state_words : ℕ
state_words = 64

abbrev pub state_bytes : ℕ
state_bytes = 512

-- n words from a place on are 0
unfoldable pub zeros_at : List ℕ → ℕ → ℕ → Bool
zeros_at ws k zero = true
zeros_at ws k (suc n) = eqb (get_or ws k 0) 0 && zeros_at ws (k + 1) n

-- the layout's word, 32 bits for each rate and for the id, a shape, a flag, a bit for each of eight channels, and nothing in the room to grow
unfoldable pub holds_state : List ℕ → Bool
holds_state ws =
    eqb (get_or ws 0 0) layout && (ltb (get_or ws 5 0) (2 ^ 32) && (ltb (get_or ws 19 0) (2 ^ 32) && (ltb (get_or ws 32 0) (2 ^ 32)
    && (leb (get_or ws 28 0) 2 && (leb (get_or ws 33 0) 1 && (ltb (get_or ws 34 0) 256 && zeros_at ws 35 29))))))

unfoldable pub is_state : List ℕ → Bool
is_state bytes = eqb (length bytes) state_bytes && holds_state (words_in 8 state_words bytes)

-- ---- out of words
abbrev pub settings_in : List ℕ → LimiterSettings
settings_in ws = settings_of (float_in ws 1) (float_in ws 2) (float_in ws 3) (float_in ws 4) (get_or ws 34 0 % 256)

abbrev pub envelope_in : List ℕ → Envelope
envelope_in ws = record {
  keeper = record { look = get_or ws 9 0; head = get_or ws 10 0; len = get_or ws 11 0; frame = get_or ws 12 0 };
  attack = record { pos = get_or ws 13 0; tally = get_or ws 14 0 };
  gain = float_in ws 15;
}

abbrev pub limiter_in : List ℕ → Limiter
limiter_in ws = record {
  settings = settings_in ws;
  rate = half_in ws 5;
  channels = get_or ws 6 0;
  max_block = get_or ws 7 0;
  release_coeff = float_in ws 8;
  env = envelope_in ws;
  delay_pos = get_or ws 16 0;
  target = float_in ws 17;
  drained = get_or ws 18 0;
}

-- a bank of that smoother; the other slots hold no parameter
abbrev pub slots_with : Smoother → List Smoother
slots_with s = s ∷ vacant ∷ vacant ∷ vacant ∷ vacant ∷ vacant ∷ vacant ∷ vacant ∷ []

abbrev pub bank_in : List ℕ → SmootherBank
bank_in ws = record { smoothers = slots_with (smoother_in ws 19); count = get_or ws 31 0; rate = half_in ws 32; ready = not (eqb (get_or ws 33 0) 0) }

unfoldable pub state_in : List ℕ → KernelProcessor
state_in ws = record { limiter = limiter_in ws; bank = bank_in ws }

-- ---- into words
abbrev pub limiter_out : Limiter → List ℕ
limiter_out l =
    float_out l.settings.threshold_db ∷ float_out l.settings.true_peak_margin_db ∷ float_out l.settings.lookahead_ms ∷ float_out l.settings.release_ms
    ∷ l.rate ∷ l.channels ∷ l.max_block ∷ float_out l.release_coeff ∷ l.env.keeper.look ∷ l.env.keeper.head ∷ l.env.keeper.len ∷ l.env.keeper.frame
    ∷ l.env.attack.pos ∷ l.env.attack.tally ∷ float_out l.env.gain ∷ l.delay_pos ∷ float_out l.target ∷ l.drained ∷ []

abbrev pub bank_out : SmootherBank → List ℕ
bank_out b = smoother_out (slot_at 0 b.smoothers) ++ (b.count ∷ b.rate ∷ cond b.ready 1 0 ∷ [])

unfoldable pub words_out : KernelProcessor → List ℕ
words_out p = layout ∷ limiter_out p.limiter ++ bank_out p.bank ++ (p.limiter.settings.left_out ∷ replicate 29 0)

-- ---- read and written
-- the part of a machine that the bytes hold; its stores are lent beside them
abbrev pub processor_of : Machine → KernelProcessor
processor_of m = record { limiter = m.limiter; bank = m.bank }

-- the limiter that was never set up
abbrev pub never : KernelProcessor
never = record { limiter = not_set_up; bank = unset }

-- what a buffer holds: one that is no state holds the limiter that was never set up, which every call but setup answers with 18
unfoldable pub processor_in : List ℕ → KernelProcessor
processor_in bytes = cond (is_state bytes) (state_in (words_in 8 state_words bytes)) never

-- the buffer of a state
unfoldable pub state_out : KernelProcessor → List ℕ
state_out p = bytes_out 8 (words_out p)
