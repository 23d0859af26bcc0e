-- `directory::bad_new_name` meets its contract.
use Rattle.std.proofs.Common.{rules}
use Rattle.model.specs.Entry.{bad_new_name}
use Rattle.directory.proofs.bad_new_name.Goals as goal

pub returns-then-bad_name : goal.returns-then-bad_name
unfolding bad_new_name
returns-then-bad_name c = search rules

pub returns-else-bad_name : goal.returns-else-bad_name
unfolding bad_new_name
returns-else-bad_name c = search rules
