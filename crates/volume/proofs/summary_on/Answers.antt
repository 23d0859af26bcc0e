-- `volume::summary_on` meets its contract. Geometry and state are those of the superblock.
use Rattle.volume.proofs.summary_on.Goals as goal

pub returns : goal.returns
returns c = rw (← c.geometry_in-geometry.ensures, ← c.state_on-state.ensures)
