-- `new`: zeros.
use Rattle.interleaving.proofs.Pieces.{zeros}
use Rattle.interleaving.proofs.moves.Room.new.Goals as goal

pub returns : goal.returns
returns c = zeros 4096
