-- `layout::zero_sector` meets its contract. The array is the definition.
use Rattle.std.proofs.Common.{refl}
use Rattle.model.specs.Bytes.{zero_sector}
use Rattle.layout.proofs.zero_sector.Goals as goal

pub returns : goal.returns
unfolding zero_sector
returns c = refl
