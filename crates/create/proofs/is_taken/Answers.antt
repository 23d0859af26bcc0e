-- `create::is_taken` meets its contract. The name is there, an entry has the id, or the id is compared with the root's.
use Rattle.std.proofs.Common.{arith}
use Rattle.std.proofs.lemmas.Grind.{common_steps}
use Rattle.create.proofs.Laws.{root-on}
use Rattle.create.proofs.is_taken.Goals as goal

pub returns-else-has_id : goal.returns-else-has_id
returns-else-has_id c = grind (arith, common_steps, root-on)
