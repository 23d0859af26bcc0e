-- `format::geometry_for` meets its contract. G and S are those of the definition, and N is their quotient.
use Rattle.model.specs.Format.{geometry_for}
use Rattle.format.proofs.geometry_for.Goals as goal

pub returns : goal.returns
unfolding geometry_for
returns c = rw (c.from.ensures, ← c.data_room-room.ensures, ← c.extent_sectors_for-s.ensures.value)
