-- The C functions over interleaved audio: their number, which has no values, and the audio afterwards.
use Rattle.std.specs.Prelude.{ℕ, List}
use Rattle.arithmetic.specs.Reply.{numbered}
use Rattle.interleaving.specs.Calls.{Outcome}

abbrev pub rearranged_at : ℕ → List ℕ → Outcome
rearranged_at number audio = record { reply = numbered number; bytes = audio }
