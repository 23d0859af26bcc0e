-- `layout::entry::is_occupied` meets its contract. The mark is compared.
use Rattle.model.specs.Entry.{is_occupied}
use Rattle.layout.proofs.entry.is_occupied.Goals as goal

pub returns : goal.returns
unfolding is_occupied
returns c = rw (← c.mark.ensures)
