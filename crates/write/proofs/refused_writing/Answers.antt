-- `write::refused_writing` meets its contract. A refusal has no list.
use Rattle.model.specs.Lent.{write_asking}
use Rattle.write.proofs.refused_writing.Goals as goal

pub returns : goal.returns
unfolding write_asking
returns c = rw (c.number.ensures, c.fault.ensures, c.place.ensures, c.settled.ensures)
