-- `format::put_barrier` meets its contract. A barrier is a record like any other.
use Rattle.model.specs.WriteList.{barrier}
use Rattle.format.proofs.put_barrier.Goals as goal

pub returns : goal.returns
unfolding barrier
returns c = rw (← c.zero_sector.ensures) c.put_sector.ensures
