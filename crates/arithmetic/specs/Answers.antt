-- Document 01's number and values for what `exp` answers: the value, or 26.
use Rattle.std.specs.Prelude.{[], ◌∷◌, Result, Ok, Err, Float}
use Rattle.arithmetic.specs.Reply.{Reply, finished, refused, float}
use Rattle.arithmetic.specs.declared.math.OutOfDomain.{OutOfDomain}

abbrev pub reply_of : Result Float OutOfDomain → Reply
reply_of (Ok v) = finished (float v ∷ [])
reply_of (Err e) = refused 26 []
