-- `volume::is_volume` meets its contract. The superblock says.
use Rattle.volume.proofs.is_volume.Goals as goal

pub returns : goal.returns
returns c = rw (← c.sector_part.ensures.result_value) c.is_volume.ensures
