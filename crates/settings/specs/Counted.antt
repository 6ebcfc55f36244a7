-- Change 7: "one yes or no per channel: does it count in the linked peak?"
use Rattle.std.specs.Prelude.{ℕ, ◌/◌, ◌%◌, ◌^◌, Bool, ◌==◌}
use Rattle.settings.specs.declared.LimiterSettings.{LimiterSettings}

-- whether channel c counts: bit c, worth 2 to the c, leaves it out
unfoldable pub counts_in : LimiterSettings → ℕ → Bool
counts_in s c = s.left_out / 2 ^ c % 2 == 0
