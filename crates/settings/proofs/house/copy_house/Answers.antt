-- `copy_house`: the table of the code is that of specs/, number by number.
use lib.Ieee.{of_bits}
use Rattle.settings.specs.HouseTable.{house, at44100, at48000, at96000, at192000}
use Rattle.settings.proofs.house.copy_house.Goals as goal

pub returns : goal.returns
unfolding of_bits house at44100 at48000 at96000 at192000
returns c = c.copy.ensures
