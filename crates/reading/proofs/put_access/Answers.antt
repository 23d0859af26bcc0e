-- `reading::put_access` meets its contract. The one target's list, or an empty one.
use Rattle.std.proofs.Common.{sym}
use Rattle.model.specs.WriteList.{groups_for}
use Rattle.laws.proofs.WriteList.{emit-nil}
use Rattle.reading.proofs.put_access.Goals as goal

pub returns-in_default : goal.returns-in_default
unfolding groups_for
returns-in_default c = rw c.in_default.is (sym (emit-nil _ 0))
