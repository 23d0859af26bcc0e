-- `directory::bad_name` meets its contract.
use Rattle.std.proofs.Common.{rules, tests}
use Rattle.model.specs.Entry.{bad_name}
use Rattle.directory.proofs.bad_name.Goals as goal

pub returns-then-longest_name-name : goal.returns-then-longest_name-name
unfolding bad_name
returns-then-longest_name-name c = search (rules, tests)

pub returns-else-longest_name-name : goal.returns-else-longest_name-name
unfolding bad_name
returns-else-longest_name-name c = search (rules, tests)
