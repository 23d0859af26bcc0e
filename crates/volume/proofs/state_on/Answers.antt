-- `volume::state_on` meets its contract. The state is that of the journal length in the superblock.
use Rattle.volume.proofs.state_on.Goals as goal

pub returns : goal.returns
returns c = rw (← c.sector_part-s.ensures.result_value, ← c.journal_length.ensures) c.state_of.ensures
