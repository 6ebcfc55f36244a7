-- `read_channel`: the samples passed are there.
use native.Mathlib.Omega.{arith}
use Rattle.audio.proofs.Places.{places_few}
use Rattle.audio.proofs.planar.read_channel.Goals as goal

pub overflow_add-from : goal.overflow_add-from
overflow_add-from c = let a = c.args in omega (arith, places_few a.format a.bytes.now)
