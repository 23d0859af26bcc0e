-- `directory::bad_mark` meets its contract.
use Rattle.std.proofs.Common.{rules}
use Rattle.model.specs.Faults.{fault21}
use Rattle.directory.proofs.bad_mark.Goals as goal

pub returns : goal.returns
unfolding fault21
returns c = search rules
