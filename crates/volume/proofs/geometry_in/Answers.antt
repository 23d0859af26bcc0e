-- `volume::geometry_in` meets its contract. The superblock says.
use Rattle.volume.proofs.geometry_in.Goals as goal

pub returns : goal.returns
returns c = rw (← c.sector_part.ensures.result_value) c.geometry.ensures
