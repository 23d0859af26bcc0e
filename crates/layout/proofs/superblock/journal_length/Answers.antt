-- `layout::superblock::journal_length` meets its contract.
use Rattle.model.specs.Superblock.{journal_length}
use Rattle.layout.proofs.superblock.journal_length.Goals as goal

pub returns : goal.returns
unfolding journal_length
returns c = c.number_in.ensures.value
