-- `follow_all`: the gains passed, and what the rest comes to.
use mathlib.Core.Path.{◌≡◌}
use Rattle.envelope.specs.Run.{followed_all}
use Rattle.envelope.proofs.Following.{follows_from}
use Rattle.envelope.proofs.follow.follow_all.Given as goal

abbrev pub invariant-loop-mean : goal.invariant-loop-mean
invariant-loop-mean l = follows_from l.coeff l.g l.mean-index l.means ≡ followed_all l.coeff l.gain l.initial.means
