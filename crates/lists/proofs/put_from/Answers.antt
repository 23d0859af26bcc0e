-- `lists::put_from` meets its contract. Record k stands k records behind the list's start, and carries position k.
use mathlib.Core.Path.{refl}
use Rattle.laws.proofs.WriteList.{emit-one}
use Rattle.lists.proofs.put_from.Goals as goal

pub returns : goal.returns
returns c = record { holds = rw emit-one (cc); next = refl }
