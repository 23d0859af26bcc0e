-- `fields::sector_part` meets its contract. The part is the sector's 512 bytes.
use Prim.Native.Nat.{◌*◌}
use Rattle.model.specs.Disk.{view}
use Rattle.fields.proofs.Slices.{part}
use Rattle.fields.proofs.sector_part.Goals as goal

pub returns-clause-result_value : goal.returns-clause-result_value
unfolding view
returns-clause-result_value c = part c.args.img.now (512 * c.args.k.0) 512 c.requires
