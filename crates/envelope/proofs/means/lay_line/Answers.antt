-- `lay_line`: three straight copies.
use Rattle.envelope.proofs.Along.{laid}
use Rattle.envelope.proofs.means.lay_line.Goals as goal

pub returns : goal.returns
returns c =
    laid _ _ _ _ _ _ _ c.requires.pos_in_bounds c.requires.floors_in_bounds c.copy_from_slice.ensures.after c.copy_from_slice-2.ensures.after c.copy_from_slice-3.ensures.after
