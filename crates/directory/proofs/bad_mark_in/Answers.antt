-- `directory::bad_mark_in` meets its contract.
use Rattle.std.proofs.Common.{rules, tests}
use Rattle.model.specs.Entry.{is_occupied}
use Rattle.directory.proofs.bad_mark_in.Goals as goal

pub returns-then-mark-ne-FREE_MARK : goal.returns-then-mark-ne-FREE_MARK
unfolding is_occupied
returns-then-mark-ne-FREE_MARK c = search (rules, tests)
