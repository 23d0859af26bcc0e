-- `write::complete` meets its contract. What stands before the span, and then what stands behind it.
use Rattle.model.specs.Lent.{completed}
use Rattle.write.proofs.complete.Goals as goal

pub returns : goal.returns
unfolding completed
returns c = rw (c.copy_bytes-2.ensures, c.copy_bytes.ensures)
