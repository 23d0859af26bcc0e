-- `write::settled` meets its contract. Nothing is asked for, and the list is whole.
use Rattle.std.proofs.Common.{refl}
use Rattle.model.specs.Lent.{write_asking}
use Rattle.write.proofs.settled.Goals as goal

pub returns : goal.returns
unfolding write_asking
returns c = refl
