-- `layout::superblock::new` meets its contract. The stores are those of the definition, and the bytes copied are the whole magic.
use Rattle.std.proofs.Common.{refl}
use Rattle.model.specs.Superblock.{new_superblock, magic}
use Rattle.laws.proofs.Bytes.{bytes_from-all}
use Rattle.layout.proofs.superblock.new.Goals as goal

pub returns : goal.returns
unfolding new_superblock
returns c = cc (bytes_from-all magic 8 refl)
