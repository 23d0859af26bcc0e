-- `write::taken_sector` meets its contract. The entry is put into its table sector.
use Rattle.model.specs.Table.{taken_in}
use Rattle.write.proofs.taken_sector.Goals as goal

pub returns : goal.returns
unfolding taken_in
returns c = cc
