-- `format::free_table_sector` meets its contract. The array is the definition.
use mathlib.Core.Path.{refl}
use Rattle.model.specs.Bytes.{ones_sector}
use Rattle.format.proofs.free_table_sector.Goals as goal

pub returns : goal.returns
unfolding ones_sector
returns c = refl
