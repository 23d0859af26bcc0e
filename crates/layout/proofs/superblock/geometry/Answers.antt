-- `layout::superblock::geometry` meets its contract. The four numbers are its fields.
use Rattle.model.specs.Superblock.{geometry_in}
use Rattle.layout.proofs.superblock.geometry.Goals as goal

pub returns : goal.returns
unfolding geometry_in
returns c = rw (← c.number_in.ensures.value, ← c.number_in-2.ensures.value, ← c.number_in-3.ensures.value, ← c.number_in-4.ensures.value)
