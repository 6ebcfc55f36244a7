-- The limiter's state, and what a setup leaves.
use Rattle.std.specs.Prelude.{false, ℕ, None}
use Rattle.arithmetic.specs.Number
use Rattle.arithmetic.specs.Number.{one}
use Rattle.keeper.specs.Keeper.{fresh_keeper}
use Rattle.settings.specs.Settings.{settings_of, all_count, process_spec}
use Rattle.settings.specs.Derived.{look_of, coefficient_of}
use Rattle.settings.specs.Target.{target_of}
use Rattle.settings.specs.declared.LimiterSettings.{LimiterSettings}
use Rattle.settings.specs.declared.ProcessSpec.{ProcessSpec}
use Rattle.envelope.specs.declared.env.Envelope.{Envelope}
use Rattle.limiter.specs.declared.state.Limiter.{Limiter}

-- no frame taken, an attack row of nothing but 1, gain 1.0
abbrev pub fresh_envelope : ℕ → Envelope
fresh_envelope look = record { keeper = fresh_keeper look; attack = record { pos = 0; tally = 0 }; gain = one }

-- not set up: no setting is accepted, so every later call is refused by 18
abbrev pub not_set_up : Limiter
not_set_up = record {
  settings = settings_of Number.zero Number.zero Number.zero Number.zero all_count;
  rate = 0;
  channels = 0;
  max_block = 0;
  release_coeff = Number.zero;
  env = fresh_envelope 0;
  delay_pos = 0;
  target = Number.zero;
  drained = 0;
}

-- what setup was told; the cap is spent at setup and not kept, nor is it kept whether a house table was asked for
abbrev pub spec_of : Limiter → ProcessSpec
spec_of l = process_spec l.rate l.channels l.max_block None false

-- the starting values, with what the settings derive and the default threshold's target
abbrev pub started : LimiterSettings → ProcessSpec → Limiter
started s spec = record {
  settings = s;
  rate = spec.rate;
  channels = spec.channels;
  max_block = spec.max_block;
  release_coeff = coefficient_of s.release_ms spec.rate;
  env = fresh_envelope (look_of s.lookahead_ms spec.rate);
  delay_pos = 0;
  target = target_of s.threshold_db s.true_peak_margin_db;
  drained = 0;
}
